-- Fronts and pages of ranked entries.
use Rattle.std.proofs.Common.{◌≡◌, ℕ, List, length, drop, min, inl, inr, sym, ap, ◌∙◌, arith}
use Rattle.std.specs.Prelude.{Some}
use Rattle.std.proofs.lemmas.Bool.{cases_lt}
use Rattle.std.proofs.lemmas.List.{drop_all}
use Rattle.std.proofs.lemmas.List.Sorted.{IsPermutation-trans}
use Rattle.fc_spec.specs.laws.SortingLaw.{IsSortOf, IsRestOf}
use Rattle.fc_spec.specs.requests.Request.{Sort}
use Rattle.fc_spec.specs.requests.Ranks.{Entry, below_rank, rank}
use Rattle.fc_spec.specs.words.Lists.{is_below_bound}
use Rattle.fc_refine.specs.Entries.{HaveAscendingValues}
use Rattle.fc_refine.proofs.AscendingValues.{ascending-filter}
use Rattle.fc_refine.proofs.IndexOrder.{index_order, ascending_again}
use Rattle.fc_refine.proofs.RankedEntries.{front_members}

-- past the end nothing is left, however far
pub drop-min : {X : Type 0} (n : ℕ) (xs : List X) → drop (min (length xs) n) xs ≡ drop n xs
drop-min n xs = elim (cases_lt n (length xs)) [
  | inl h ↦ let e : min (length xs) n ≡ n = omega arith in ap (λ k. drop k xs) e
  | inr h ↦ let e : min (length xs) n ≡ length xs = omega arith in ap (λ k. drop k xs) e ∙ drop_all (length xs) xs (omega arith) ∙ sym (drop_all n xs h)
]

-- the entries of the first ranks, in index order again
pub front_again : (s : Sort) (b : ℕ) (V first fs : List Entry) → HaveAscendingValues V → IsRestOf s b V first → length first ≡ b → IsSortOf index_order first fs → fs ≡ below_rank s (Some b) V
front_again s b V first fs up rest long again =
    let front = below_rank s (Some b) V in
    let members = IsPermutation-trans front first fs (front_members s b V first rest long) again.members in
    ascending_again front fs (ascending-filter (λ e. is_below_bound (Some b) (rank s V e)) V up) (record { members = members; ahead = again.ahead })
