use Rattle.std.proofs.Common.{◌≡◌, [], ◌∷◌, ◌++◌, refl, ap, sym, ◌∙◌}
use Rattle.std.specs.Prelude.{IsTrue}
use Rattle.fc_spec.specs.requests.Buckets.{is_key_of}
use Rattle.fc_partial.specs.StatsView.{stats_view}
use Rattle.fc_partial.specs.View.{key_view}
use Rattle.fc_partial.specs.declared.bucket.PartialBucket.TheViews.{roll-PartialBucket}
use Rattle.fc_request.specs.FacetNode.{kind_of, kind_view}
use Rattle.fc_request.specs.NodeView.{inner_view, nodes_view}
use Rattle.fc_levels.specs.Facets.{facets_of, facet_count, nested_view}
use Rattle.fc_levels.specs.Levels.{scope_in}
use Rattle.fc_levels.specs.declared.level.Level.{Level}
use Rattle.fc_levels.proofs.Endings.{given_kept, level_valid, no_keys, pushed_goes, pushed_kept, top_counted, top_goes, top_opens}
use Rattle.fc_levels.proofs.FacetLists.{first_valid, valid_facets}
use Rattle.fc_levels.proofs.level.top_ended.Goals as goal

pub returns-in_default-clause-goes : goal.returns-in_default-clause-goes
returns-in_default-clause-goes c =
    let none : facets_of (inner_view c.args.node.now) ≡ [] = ap (λ ns. facets_of (nodes_view ns)) (sym c.deref.ensures.value) ∙ c.in_default.ensures.next in
    top_goes c.args.levels.now.items c.given.new.levels.items c.args.node.now c.args.domain.items c.args.key c.args.stats c.new-rows.result c.new-rows.ensures.items c.push.new.self
    (c.in_ok-push.ensures.items ∙ ap (λ bs. bs ++ roll-PartialBucket (record { key = c.args.key; stats = c.args.stats; nodes = c.new-rows.result }) ∷ []) c.new-buckets.ensures.items) none c.given.result c.given.ensures.given _

pub returns-in_default-clause-kept : goal.returns-in_default-clause-kept
returns-in_default-clause-kept c =
    given_kept c.args.levels.now.items c.given.new.levels.items c.args.node.now c.args.domain.items (IsTrue (is_key_of (kind_view (kind_of c.args.node.now)) (key_view c.args.key))) c.given.result c.given.ensures.kept

pub returns-clause-goes : goal.returns-clause-goes
returns-clause-goes c =
    let l : Level = record { node = c.args.node; first = c.in-Some.first; others = c.in-Some.others; domain = c.args.domain; done = c.new.result; key = c.args.key; stats = c.args.stats; rows = c.new-rows.result; left = c.in-Some.others; wait = c.new-2.result } in
    let some : facets_of (inner_view c.args.node.now) ≡ nested_view c.in-Some.first.now ∷ facets_of (nodes_view c.in-Some.others.now) = ap (λ ns. facets_of (nodes_view ns)) (sym c.deref.ensures.value) ∙ c.in-Some.ensures.next in
    let facets : c.facet_count-opened.result ≡ facet_count (inner_view c.args.node.now) = c.facet_count-opened.ensures ∙ ap (λ ns. facet_count (nodes_view ns)) c.deref-2.ensures.value in
    λ o V is. pushed_goes c.args.levels.now.items c.push-2.new.self.items l c.in_ok-push-2.ensures.items c.new.ensures.items c.new-rows.ensures.items refl o V c.args.domain.items _ c.facet_count-opened.result
    (top_opens l c.new-2.ensures.items some (scope_in o c.args.levels.now.items) V) (facets ∙ top_counted (scope_in o c.args.levels.now.items) V c.args.node.now c.args.domain.items (key_view c.args.key) (stats_view c.args.stats)) refl

pub returns-clause-kept : goal.returns-clause-kept
returns-clause-kept c =
    let l : Level = record { node = c.args.node; first = c.in-Some.first; others = c.in-Some.others; domain = c.args.domain; done = c.new.result; key = c.args.key; stats = c.args.stats; rows = c.new-rows.result; left = c.in-Some.others; wait = c.new-2.result } in
    let some : facets_of (inner_view c.args.node.now) ≡ nested_view c.in-Some.first.now ∷ facets_of (nodes_view c.in-Some.others.now) = ap (λ ns. facets_of (nodes_view ns)) (sym c.deref.ensures.value) ∙ c.in-Some.ensures.next in
    λ s V a i sets key.
    pushed_kept c.args.levels.now.items c.push-2.new.self.items l c.in_ok-push-2.ensures.items c.new.ensures.items c.new-rows.ensures.items refl s V a (level_valid s V l some c.in-Some.ensures.facet refl i sets key (no_keys c.args.node.now c.new-2.result.items c.new-2.ensures.items))

pub returns-clause-next : goal.returns-clause-next
returns-clause-next c =
    let some : facets_of (inner_view c.args.node.now) ≡ nested_view c.in-Some.first.now ∷ facets_of (nodes_view c.in-Some.others.now) = ap (λ ns. facets_of (nodes_view ns)) (sym c.deref.ensures.value) ∙ c.in-Some.ensures.next in
    λ s V a i sets key. first_valid s (inner_view c.args.node.now) (nodes_view c.in-Some.others.now) c.in-Some.first.now some c.in-Some.ensures.facet (valid_facets s (inner_view c.args.node.now) i.inner)
