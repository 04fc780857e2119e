use Rattle.std.proofs.Common.{◌∙◌, map, ap, sym, subst}
use Rattle.std.specs.Prelude.{All}
use Rattle.fc_spec.specs.replies.Chosen.{chosen_bound}
use Rattle.fc_spec.specs.requests.Request.{stats_of}
use Rattle.fc_base.specs.StatisticView.{stat_view}
use Rattle.fc_facet.specs.KindView.{terms_view}
use Rattle.fc_refine.specs.CandidateView.{found_entry, IsCombined}
use Rattle.fc_refine.specs.Entries.{HaveAscendingValues}
use Rattle.fc_refine.specs.Fronts.{AreRanked}
use Rattle.fc_refine.specs.Gathered.{gathered, Kept}
use Rattle.fc_refine.specs.Grouped.{Group, Holds, map_view}
use Rattle.fc_refine.specs.Listings.{Listing, CanCombine, kept_part, parts_view, listed_by, listed_view}
use Rattle.fc_refine.proofs.ChosenCandidates.{in_ranks, same_values, same_shards}
use Rattle.fc_refine.proofs.GatheredEntries.{groups_combine, entries_are, entries_ascend}
use Rattle.fc_refine.proofs.Gathering.{kept_parts}
use Rattle.fc_refine.proofs.candidates.Candidates.chosen.Goals as goal

pub found_values-requires : goal.found_values-requires
found_values-requires c =
    let xs = c.self.inside.parts.items in
    let v : Kept = record { terms = terms_view c.self.inside.terms.now; node = c.self.inside.node.now; parts = map kept_part xs } in
    let g = gathered v in
    let gs = map_view listed_view c.in_ok-by_value.by_value in
    let ss = ap (map stat_view) c.deref-2.ensures.value ∙ c.in_ok-stats.ensures in
    let holds : Holds (λ w. listed_by w g.parts) gs = subst (λ ps. Holds (λ w. listed_by w ps) gs) (ap parts_view c.deref.ensures.value ∙ sym (kept_parts xs)) c.in_ok-by_value.ensures in
    subst (λ l. All (λ (group : Group Listing). CanCombine l group.1) gs) (sym ss) (groups_combine g c.self.invariant gs holds)

pub ranked-requires : goal.ranked-requires
ranked-requires c =
    let xs = c.self.inside.parts.items in
    let v : Kept = record { terms = terms_view c.self.inside.terms.now; node = c.self.inside.node.now; parts = map kept_part xs } in
    let g = gathered v in
    let gs = map_view listed_view c.in_ok-by_value.by_value in
    let ss = ap (map stat_view) c.deref-2.ensures.value ∙ c.in_ok-stats.ensures in
    let holds : Holds (λ w. listed_by w g.parts) gs = subst (λ ps. Holds (λ w. listed_by w ps) gs) (ap parts_view c.deref.ensures.value ∙ sym (kept_parts xs)) c.in_ok-by_value.ensures in
    let fs = c.in_ok-found.found.items in
    let combined : All (IsCombined (stats_of g.nodes)) fs = subst (λ ss. All (IsCombined ss) fs) ss c.in_ok-found.ensures.combined in
    record { ascend = subst HaveAscendingValues (sym (entries_are g c.self.invariant fs gs c.in_ok-found.ensures.groups holds combined)) (entries_ascend g c.self.invariant) }

pub returns-clause-ranks : goal.returns-clause-ranks
returns-clause-ranks c =
    let xs = c.self.inside.parts.items in
    let v : Kept = record { terms = terms_view c.self.inside.terms.now; node = c.self.inside.node.now; parts = map kept_part xs } in
    let g = gathered v in
    let gs = map_view listed_view c.in_ok-by_value.by_value in
    let ss = ap (map stat_view) c.deref-2.ensures.value ∙ c.in_ok-stats.ensures in
    let holds : Holds (λ w. listed_by w g.parts) gs = subst (λ ps. Holds (λ w. listed_by w ps) gs) (ap parts_view c.deref.ensures.value ∙ sym (kept_parts xs)) c.in_ok-by_value.ensures in
    let fs = c.in_ok-found.found.items in
    let combined : All (IsCombined (stats_of g.nodes)) fs = subst (λ ss. All (IsCombined ss) fs) ss c.in_ok-found.ensures.combined in
    let ranked = c.in_ok-ranked.ranked.items in
    let are : AreRanked g.terms.sort (chosen_bound g.terms) (map found_entry fs) (map found_entry ranked) = subst (λ b. AreRanked g.terms.sort b (map found_entry fs) (map found_entry ranked)) c.chosen_bound.ensures c.in_ok-ranked.ensures.ranks in
    rw (← c.self.view_is) (in_ranks g c.self.invariant fs ranked c.in_ok-chosen.chosen.items gs c.in_ok-found.ensures.groups holds combined are c.in_ok-ranked.ensures.among c.in_ok-chosen.ensures)

pub returns-clause-values : goal.returns-clause-values
returns-clause-values c =
    let xs = c.self.inside.parts.items in
    let v : Kept = record { terms = terms_view c.self.inside.terms.now; node = c.self.inside.node.now; parts = map kept_part xs } in
    let g = gathered v in
    let gs = map_view listed_view c.in_ok-by_value.by_value in
    let ss = ap (map stat_view) c.deref-2.ensures.value ∙ c.in_ok-stats.ensures in
    let holds : Holds (λ w. listed_by w g.parts) gs = subst (λ ps. Holds (λ w. listed_by w ps) gs) (ap parts_view c.deref.ensures.value ∙ sym (kept_parts xs)) c.in_ok-by_value.ensures in
    let fs = c.in_ok-found.found.items in
    let combined : All (IsCombined (stats_of g.nodes)) fs = subst (λ ss. All (IsCombined ss) fs) ss c.in_ok-found.ensures.combined in
    let ranked = c.in_ok-ranked.ranked.items in
    let are : AreRanked g.terms.sort (chosen_bound g.terms) (map found_entry fs) (map found_entry ranked) = subst (λ b. AreRanked g.terms.sort b (map found_entry fs) (map found_entry ranked)) c.chosen_bound.ensures c.in_ok-ranked.ensures.ranks in
    rw (← c.self.view_is) (same_values g c.self.invariant fs ranked c.in_ok-chosen.chosen.items gs c.in_ok-found.ensures.groups holds combined are c.in_ok-ranked.ensures.among c.in_ok-chosen.ensures)

pub returns-clause-shards : goal.returns-clause-shards
returns-clause-shards c =
    let xs = c.self.inside.parts.items in
    let v : Kept = record { terms = terms_view c.self.inside.terms.now; node = c.self.inside.node.now; parts = map kept_part xs } in
    let g = gathered v in
    let gs = map_view listed_view c.in_ok-by_value.by_value in
    let ss = ap (map stat_view) c.deref-2.ensures.value ∙ c.in_ok-stats.ensures in
    let holds : Holds (λ w. listed_by w g.parts) gs = subst (λ ps. Holds (λ w. listed_by w ps) gs) (ap parts_view c.deref.ensures.value ∙ sym (kept_parts xs)) c.in_ok-by_value.ensures in
    let fs = c.in_ok-found.found.items in
    let combined : All (IsCombined (stats_of g.nodes)) fs = subst (λ ss. All (IsCombined ss) fs) ss c.in_ok-found.ensures.combined in
    let ranked = c.in_ok-ranked.ranked.items in
    let are : AreRanked g.terms.sort (chosen_bound g.terms) (map found_entry fs) (map found_entry ranked) = subst (λ b. AreRanked g.terms.sort b (map found_entry fs) (map found_entry ranked)) c.chosen_bound.ensures c.in_ok-ranked.ensures.ranks in
    rw (← c.self.view_is) (same_shards g c.self.invariant fs ranked c.in_ok-chosen.chosen.items gs c.in_ok-found.ensures.groups holds combined are c.in_ok-ranked.ensures.among c.in_ok-chosen.ensures)
