use Rattle.std.proofs.Common.{rules, ◌≡◌, ◌*◌, [], ◌∷◌, ◌++◌, length, reverse, refl, ap, sym, ◌∙◌}
use Rattle.fc_partial.specs.declared.bucket.PartialBucket.{out-PartialBucket}
use Rattle.fc_request.specs.NodeView.{inner_view, nodes_view}
use Rattle.fc_levels.specs.Facets.{facets_of, facet_count, nested_view}
use Rattle.fc_levels.specs.Levels.{scope_in}
use Rattle.fc_levels.specs.Steps.{AreKeysOf}
use Rattle.fc_levels.specs.declared.level.Level.{Level}
use Rattle.fc_levels.proofs.Endings.{given_kept, job_opens, keys_split, level_valid, listed_goes, none_goes, opened_over, pushed_goes, pushed_kept}
use Rattle.fc_levels.proofs.FacetLists.{first_valid, valid_facets}
use Rattle.fc_levels.proofs.Putting.{none_left}
use Rattle.fc_levels.proofs.level.job_ended.Goals as goal

pub returns-in_default-clause-goes : goal.returns-in_default-clause-goes
returns-in_default-clause-goes c =
    let none : facets_of (inner_view c.args.node.now) ≡ [] = ap (λ ns. facets_of (nodes_view ns)) (sym c.deref.ensures.value) ∙ c.in_default.ensures.next in
    listed_goes c.args.levels.now.items c.given.new.levels.items c.args.node.now c.args.domain.items c.args.listed none c.given.result c.given.ensures.given

pub returns-in_default-clause-kept : goal.returns-in_default-clause-kept
returns-in_default-clause-kept c =
    given_kept c.args.levels.now.items c.given.new.levels.items c.args.node.now c.args.domain.items (AreKeysOf c.args.node.now c.args.listed.items) c.given.result c.given.ensures.kept

pub returns-in_default-pop-clause-goes : goal.returns-in_default-pop-clause-goes
returns-in_default-pop-clause-goes c =
    let none : length c.args.listed.items ≡ 0 = search (rules, c.in_default-pop.ensures.cases.0, c.reverse.ensures.len) in
    none_goes c.args.levels.now.items c.given-in_default-pop.new.levels.items c.args.node.now c.args.domain.items c.args.listed.items (none_left c.args.listed.items none) c.new-buckets.result c.new-buckets.ensures.items
    c.given-in_default-pop.result c.given-in_default-pop.ensures.given

pub returns-in_default-pop-clause-kept : goal.returns-in_default-pop-clause-kept
returns-in_default-pop-clause-kept c =
    given_kept c.args.levels.now.items c.given-in_default-pop.new.levels.items c.args.node.now c.args.domain.items (AreKeysOf c.args.node.now c.args.listed.items) c.given-in_default-pop.result c.given-in_default-pop.ensures.kept

pub returns-clause-goes : goal.returns-clause-goes
returns-clause-goes c =
    let opened' = out-PartialBucket c.in-Some-pop.open in
    let l : Level = record { node = c.args.node; first = c.in-Some.first; others = c.in-Some.others; domain = c.args.domain; done = c.new.result; key = opened'.key; stats = opened'.stats; rows = c.new-2.result; left = c.in-Some.others; wait = c.pop.new.self } in
    let some : facets_of (inner_view c.args.node.now) ≡ nested_view c.in-Some.first.now ∷ facets_of (nodes_view c.in-Some.others.now) = ap (λ ns. facets_of (nodes_view ns)) (sym c.deref.ensures.value) ∙ c.in-Some.ensures.next in
    let turned : reverse c.args.listed.items ≡ c.pop.new.self.items ++ c.in-Some-pop.open ∷ [] = sym c.reverse.ensures.items ∙ c.in-Some-pop.ensures.items in
    let many : c.len.result ≡ length c.args.listed.items = search (rules, c.len.ensures) in
    let facets : c.facet_count-facets.result ≡ facet_count (inner_view c.args.node.now) = c.facet_count-facets.ensures ∙ ap (λ ns. facet_count (nodes_view ns)) c.deref-2.ensures.value in
    let product : c.in-Some-checked_mul.opened ≡ c.len.result * c.facet_count-facets.result = c.in-Some-checked_mul.ensures.1 in
    let counted : c.in-Some-checked_mul.opened ≡ length c.args.listed.items * facet_count (inner_view c.args.node.now) = product ∙ ap (λ k. k * c.facet_count-facets.result) many ∙ ap (λ k. length c.args.listed.items * k) facets in
    λ o V is. pushed_goes c.args.levels.now.items c.push.new.self.items l c.in_ok-push.ensures.items c.new.ensures.items c.new-2.ensures.items refl o V c.args.domain.items _ c.in-Some-checked_mul.opened
    (job_opens l c.args.listed.items c.in-Some-pop.open refl refl turned some (scope_in o c.args.levels.now.items) V is) (counted ∙ sym (opened_over (scope_in o c.args.levels.now.items) V c.args.node.now c.args.domain.items c.args.listed.items is)) refl

pub returns-clause-kept : goal.returns-clause-kept
returns-clause-kept c =
    let opened' = out-PartialBucket c.in-Some-pop.open in
    let l : Level = record { node = c.args.node; first = c.in-Some.first; others = c.in-Some.others; domain = c.args.domain; done = c.new.result; key = opened'.key; stats = opened'.stats; rows = c.new-2.result; left = c.in-Some.others; wait = c.pop.new.self } in
    let some : facets_of (inner_view c.args.node.now) ≡ nested_view c.in-Some.first.now ∷ facets_of (nodes_view c.in-Some.others.now) = ap (λ ns. facets_of (nodes_view ns)) (sym c.deref.ensures.value) ∙ c.in-Some.ensures.next in
    let turned : reverse c.args.listed.items ≡ c.pop.new.self.items ++ c.in-Some-pop.open ∷ [] = sym c.reverse.ensures.items ∙ c.in-Some-pop.ensures.items in
    λ s V a i sets keys.
    let both = keys_split c.args.node.now c.args.listed.items c.pop.new.self.items c.in-Some-pop.open turned keys in
    pushed_kept c.args.levels.now.items c.push.new.self.items l c.in_ok-push.ensures.items c.new.ensures.items c.new-2.ensures.items refl s V a (level_valid s V l some c.in-Some.ensures.facet refl i sets both.1 both.0)

pub returns-clause-next : goal.returns-clause-next
returns-clause-next c =
    let some : facets_of (inner_view c.args.node.now) ≡ nested_view c.in-Some.first.now ∷ facets_of (nodes_view c.in-Some.others.now) = ap (λ ns. facets_of (nodes_view ns)) (sym c.deref.ensures.value) ∙ c.in-Some.ensures.next in
    λ s V a i sets keys. first_valid s (inner_view c.args.node.now) (nodes_view c.in-Some.others.now) c.in-Some.first.now some c.in-Some.ensures.facet (valid_facets s (inner_view c.args.node.now) i.inner)
