-- The chosen among gathered candidates.
use Rattle.std.proofs.Common.{◌≡◌, ℕ, List, map, sym, ap, ◌∙◌, subst}
use Rattle.std.specs.Prelude.{All, IsPermutation}
use Rattle.std.proofs.lemmas.List.Sorted.{IsPermutation-map}
use Rattle.fc_spec.specs.replies.Chosen.{chosen_bound}
use Rattle.fc_spec.specs.requests.Ranks.{Entry, below_rank}
use Rattle.fc_spec.specs.requests.Request.{stats_of}
use Rattle.fc_base.specs.View.{val_view}
use Rattle.fc_refine.specs.CandidateView.{candidate_entry, candidate_part, found_entry, found_group, found_part, IsCombined}
use Rattle.fc_refine.specs.Entries.{AreAmong}
use Rattle.fc_refine.specs.Fronts.{AreRanked}
use Rattle.fc_refine.specs.Gathered.{Gathered, AreGathered, gathered_entries, ranked_entries, listing_shards, chosen_values}
use Rattle.fc_refine.specs.Grouped.{Group, Holds}
use Rattle.fc_refine.specs.Listings.{Listing, listed_by}
use Rattle.fc_refine.specs.declared.candidates.Candidate.{Candidate}
use Rattle.fc_refine.specs.declared.found.Found.{Found}
use Rattle.fc_refine.proofs.Among.{All-among}
use Rattle.fc_refine.proofs.GatheredEntries.{map_map, all_images, all_sources, entries_are, lists_are}

module _ (g : Gathered) (ok : AreGathered g) (fs ranked : List Found) (cs : List Candidate) (gs : List (Group Listing))
    (same : map found_group fs ≡ gs) (holds : Holds (λ v. listed_by v g.parts) gs) (combined : All (IsCombined (stats_of g.nodes)) fs)
    (are : AreRanked g.terms.sort (chosen_bound g.terms) (map found_entry fs) (map found_entry ranked)) (among : AreAmong ranked fs)
    (made : map candidate_part cs ≡ map found_part ranked) where
  entries : map found_entry fs ≡ gathered_entries g
  entries = entries_are g ok fs gs same holds combined

  of_ranked : map candidate_entry cs ≡ map found_entry ranked
  of_ranked = sym (map_map candidate_part (λ (p : Entry × List ℕ). p.0) cs) ∙ ap (map (λ (p : Entry × List ℕ). p.0)) made ∙ map_map found_part (λ (p : Entry × List ℕ). p.0) ranked

  whole : AreRanked g.terms.sort (chosen_bound g.terms) (gathered_entries g) (map found_entry ranked)
  whole = subst (λ V. AreRanked g.terms.sort (chosen_bound g.terms) V (map found_entry ranked)) entries are

  pub in_ranks : map candidate_entry cs ≡ ranked_entries g
  in_ranks = of_ranked ∙ sym whole.whole

  pub same_values : IsPermutation (chosen_values g) (map (λ (c : Candidate). val_view c.val) cs)
  same_values =
      let vals : map (λ (e : Entry). e.val) (map found_entry ranked) ≡ map (λ (c : Candidate). val_view c.val) cs = ap (map (λ (e : Entry). e.val)) (sym of_ranked) ∙ map_map candidate_entry (λ (e : Entry). e.val) cs in
      subst (IsPermutation (chosen_values g)) vals (IsPermutation-map (λ (e : Entry). e.val) (below_rank g.terms.sort (chosen_bound g.terms) (gathered_entries g)) (map found_entry ranked) whole.members)

  pub same_shards : All (λ (c : Candidate). c.shards.items ≡ listing_shards g (val_view c.val)) cs
  same_shards =
      let P : Entry × List ℕ → Type 0 = λ p. p.1 ≡ listing_shards g p.0.val in
      let of_found : All (λ f. P (found_part f)) fs = lists_are g ok fs gs same holds in
      all_sources P candidate_part cs (subst (All P) (sym made) (all_images P found_part ranked (All-among (λ f. P (found_part f)) ranked fs among of_found)))
