use Rattle.std.proofs.Common.{◌∙◌, List, map, ap, sym, subst}
use Rattle.fc_facet.specs.KindView.{terms_view}
use Rattle.fc_partial.specs.BucketView.{node_view}
use Rattle.fc_refine.specs.Gathered.{Gathered, AreGathered, gathered, Kept}
use Rattle.fc_refine.specs.Listings.{kept_part, parts_view}
use Rattle.fc_refine.specs.declared.listing.Part as code
use Rattle.fc_refine.specs.Parts.{Part, IsPlace, with_part}
use Rattle.fc_refine.proofs.Gathering.{kept_parts, added_parts, keeps}
use Rattle.fc_refine.proofs.candidates.Candidates.add.Goals as goal

pub invariant_of-self-2 : goal.invariant_of-self-2
invariant_of-self-2 c =
    let xs = c.self.inside.parts.items in
    let v : Kept = record { terms = terms_view c.self.inside.terms.now; node = c.self.inside.node.now; parts = map kept_part xs } in
    let g = gathered v in
    let p : Part = record { shard = c.args.shard; buckets = node_view c.args.part.now } in
    let x : code.Part = record { shard = c.args.shard; node = c.args.part } in
    let place : IsPlace (parts_view xs) c.args.shard c.place-at.result = subst (λ l. IsPlace (parts_view l) c.args.shard c.place-at.result) c.deref.ensures.value c.place-at.ensures in
    let now = kept_parts c.insert.new.self.items ∙ ap parts_view c.in_ok-insert.ensures.items ∙ added_parts xs c.place-at.result x place ∙ ap (with_part p) (sym (kept_parts xs)) in
    subst (λ ps. AreGathered (record { terms = g.terms; nodes = g.nodes; parts = ps })) (sym now)
    (keeps g p c.self.invariant (rw (← c.self.view_is) at c.requires.shaped) (rw (← c.self.view_is) at c.requires.untold) (rw (← c.self.view_is) at c.requires.fit))

pub returns-clause-ok : goal.returns-clause-ok
returns-clause-ok c =
    let xs = c.self.inside.parts.items in
    let v : Kept = record { terms = terms_view c.self.inside.terms.now; node = c.self.inside.node.now; parts = map kept_part xs } in
    let g = gathered v in
    let p : Part = record { shard = c.args.shard; buckets = node_view c.args.part.now } in
    let x : code.Part = record { shard = c.args.shard; node = c.args.part } in
    let place : IsPlace (parts_view xs) c.args.shard c.place-at.result = subst (λ l. IsPlace (parts_view l) c.args.shard c.place-at.result) c.deref.ensures.value c.place-at.ensures in
    let now = kept_parts c.insert.new.self.items ∙ ap parts_view c.in_ok-insert.ensures.items ∙ added_parts xs c.place-at.result x place ∙ ap (with_part p) (sym (kept_parts xs)) in
    let with_parts : List Part → Gathered = λ ps. record { terms = g.terms; nodes = g.nodes; parts = ps } in
    rw (← c.self.view_is) (ap with_parts now)
