use Rattle.std.proofs.Common.{◌∙◌, ap, sym, map, arith}
use Rattle.std.proofs.lemmas.List.{length-map}
use Rattle.fc_spec.specs.requests.Ranks.{below_rank}
use Rattle.fc_facet.specs.KindView.{sort_view}
use Rattle.fc_refine.proofs.AllBelow.{bounded_by_length, unbounded}
use Rattle.fc_refine.proofs.Among.{permuted_among}
use Rattle.fc_refine.proofs.Cuts.{front_again}
use Rattle.fc_refine.proofs.DistinctValues.{distinct_from_ascending}
use Rattle.fc_refine.proofs.Rests.{distinct_rest}
use Rattle.fc_refine.proofs.ranking.below_rank.Goals as goal
use Rattle.fc_refine.proofs.ranking.below_rank.Goals.{in_default-via-in-Some+else-bound-len, in_default-via-in_default}

pub first_ranks-requires-clause-distinct : goal.first_ranks-requires-clause-distinct
first_ranks-requires-clause-distinct g c = distinct_from_ascending (map g.T.Ranked.entry c.args.entries.items) c.requires.ascend

pub sorted-requires : goal.sorted-requires
sorted-requires g c =
    let entry = g.T.Ranked.entry in
    let V = map entry c.args.entries.items in
    distinct_rest (sort_view c.args.sort) c.in-Some.bound V (map entry c.in_ok-first-in-Some.first.items) c.in_ok-first-in-Some.ensures.rest (distinct_from_ascending V c.requires.ascend)

pub returns-in_ok-front-in-Some-clause-ranks : goal.returns-in_ok-front-in-Some-clause-ranks
returns-in_ok-front-in-Some-clause-ranks g c =
    let entry = g.T.Ranked.entry in
    let s = sort_view c.args.sort in
    let V = map entry c.args.entries.items in
    let first = c.in_ok-first-in-Some.first.items in
    let found = c.in_ok-first-in-Some.ensures in
    front_again s c.in-Some.bound V (map entry first) (map entry c.in_ok-front-in-Some.front.items) c.requires.ascend found.rest (length-map first entry ∙ found.few) c.in_ok-front-in-Some.ensures.order
    ∙ ap (λ b. below_rank s b V) (sym c.in-Some.is)

pub returns-in_ok-front-in-Some-clause-among : goal.returns-in_ok-front-in-Some-clause-among
returns-in_ok-front-in-Some-clause-among g c =
    permuted_among c.in_ok-first-in-Some.first.items c.in_ok-front-in-Some.front.items c.args.entries.items c.in_ok-first-in-Some.ensures.among c.in_ok-front-in-Some.ensures.members

pub returns-in_default-clause-ranks : goal.returns-in_default-clause-ranks
returns-in_default-clause-ranks g c =
    let entry = g.T.Ranked.entry in
    let s = sort_view c.args.sort in
    let V = map entry c.args.entries.items in
    elim c.in_default.branch [
      | in_default-via-in-Some+else-bound-len w ↦
          let counted = length-map c.args.entries.items entry in
          sym (bounded_by_length s w.in-Some.bound V (omega (arith, counted))) ∙ ap (λ b. below_rank s b V) (sym w.in-Some.is)
      | in_default-via-in_default w ↦ sym (unbounded s V) ∙ ap (λ b. below_rank s b V) (sym w.in_default.is)
    ]
