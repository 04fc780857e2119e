use Rattle.std.proofs.Common.{◌≡◌, ◌≤◌, ℕ, length, map, Some, sym, subst, ◌∙◌, arith}
use Rattle.std.proofs.lemmas.List.{length-map}
use Rattle.fc_facet.specs.KindView.{sort_view}
use Rattle.fc_refine.specs.Fronts.{AreRanked}
use Rattle.fc_refine.proofs.DistinctValues.{distinct_from_ascending}
use Rattle.fc_refine.proofs.RankedEntries.{first_are_ranked, all_are_ranked}
use Rattle.fc_refine.proofs.ranking.ranked.Goals as goal
use Rattle.fc_refine.proofs.ranking.ranked.Goals.{in_default-via-in-Some+else-bound-len, in_default-via-in_default}

pub first_ranks-requires-clause-distinct : goal.first_ranks-requires-clause-distinct
first_ranks-requires-clause-distinct g c = distinct_from_ascending (map g.T.Ranked.entry c.args.entries.items) c.requires.ascend

pub sorted-requires : goal.sorted-requires
sorted-requires g c = distinct_from_ascending (map g.T.Ranked.entry c.args.entries.items) c.requires.ascend

pub returns-in_ok-first-in-Some-clause-ranks : goal.returns-in_ok-first-in-Some-clause-ranks
returns-in_ok-first-in-Some-clause-ranks g c =
    let entry = g.T.Ranked.entry in
    let s = sort_view c.args.sort in
    let V = map entry c.args.entries.items in
    let first = c.in_ok-first-in-Some.first.items in
    let found = c.in_ok-first-in-Some.ensures in
    subst (λ b. AreRanked s b V (map entry first)) (sym c.in-Some.is) (first_are_ranked s c.in-Some.bound V (map entry first) found.rest found.order (length-map first entry ∙ found.few))

pub returns-in_ok-all-in_default-clause-ranks : goal.returns-in_ok-all-in_default-clause-ranks
returns-in_ok-all-in_default-clause-ranks g c =
    let entry = g.T.Ranked.entry in
    let all = c.args.entries.items in
    let few : (b : ℕ) → c.args.bound ≡ Some b → length (map entry all) ≤ b = λ b is. elim c.in_default.branch [
      | in_default-via-in-Some+else-bound-len w ↦ let same : Some w.in-Some.bound ≡ Some b = sym w.in-Some.is ∙ is in let e : w.in-Some.bound ≡ b = cc same in omega (arith, e, length-map all entry)
      | in_default-via-in_default w ↦ absurd (cc (w.in_default.is, is))
    ] in
    all_are_ranked (sort_view c.args.sort) c.args.bound (map entry all) (map entry c.in_ok-all-in_default.all.items) c.in_ok-all-in_default.ensures.order few
