-- The gaps that hold some of the integers of a document, one integer after another.
use Rattle.std.proofs.Common.{◌≡◌, ℕ, zero, suc, ◌<◌, ◌≤◌, ℤ, pos, ◌<ℤ◌, Bool, true, false, ◌&&◌, ◌||◌, List, [], ◌∷◌, length, get_or, take, refl, sym, ap, ◌∙◌, arith}
use Rattle.std.specs.List.{list_any}
use Rattle.std.specs.Ordering.{int_cmp}
use Rattle.std.proofs.lemmas.Bool.{false≢true}
use Rattle.std.proofs.lemmas.Int.{ints}
use Rattle.std.specs.declared.cmp.Ordering.TheVariants.{Less}
use Rattle.fc_spec.specs.documents.Columns.{IsAscending}
use Rattle.std.specs.Prelude.{FitsSigned}
use Rattle.std.proofs.Common.{w64}
use Rattle.fc_spec.specs.documents.IntegerTexts.{is_long}
use Rattle.fc_spec.specs.requests.Gaps.{gap_count, in_gap}
use Rattle.fc_spec.specs.requests.Request.{Range}
use Rattle.fc_facet.specs.RangeGaps.{HasFewGaps}
use Rattle.fc_range.proofs.GapSteps.{there_parts}
use Rattle.fc_range.proofs.NearGaps.{gaps_ascend}
use Rattle.fc_range.proofs.Tests.{below_is}
use Rattle.fc_range.specs.Reached.{is_held}

-- some of the first members passes
pub some_of_first : {X P : Type 0} (p : X → Bool) (xs : List X) (k : ℕ) (d : X) → ((m : ℕ) → m < k → p (get_or xs m d) ≡ true → P) → list_any p (take k xs) ≡ true → P
some_of_first p [] zero d found e = absurd (false≢true e)
some_of_first p [] (suc k) d found e = absurd (false≢true e)
some_of_first p (x ∷ xs) zero d found e = absurd (false≢true e)
some_of_first {X} {P} p (x ∷ xs) (suc k) d found e = go (p x) refl (some_of_first p xs k d (λ m l s. found (suc m) (omega arith) s))
  where
    go : (b : Bool) → p x ≡ b → (list_any p (take k xs) ≡ true → P) → P
    go true h later = found 0 (omega arith) h
    go false h later = later (sym (ap (λ b. b || list_any p (take k xs)) h) ∙ e)

lesser : (a b : ℤ) → int_cmp a b ≡ Less → a <ℤ b
lesser a b e = grind (arith, ints)

module _ (g : Range) where
  -- of integers that ascend, the gaps of a later one are none before those of an earlier one
  pub later_gaps : HasFewGaps g → (row : List ℤ) (k : ℕ) → IsAscending int_cmp row → k < length row
      → (i j : ℕ) → list_any (λ x. is_held g x j) (take k row) ≡ true → is_held g (get_or row k (pos 0)) i ≡ true → j ≤ i
  later_gaps few row k ascend here i j earlier later =
      some_of_first {P = j ≤ i} (λ x. is_held g x j) row k (pos 0)
      (λ m before e. gaps_ascend g few i j (get_or row k (pos 0)) (get_or row m (pos 0)) (there_parts (gap_count g) (λ n. in_gap g n (get_or row m (pos 0))) j e).1 (there_parts (gap_count g) (λ n. in_gap g n (get_or row k (pos 0))) i later).1
      (lesser (get_or row m (pos 0)) (get_or row k (pos 0)) (ascend m k (pos 0) before here))) earlier

  -- gaps that are there
  pub any_held : (row : List ℤ) (i : ℕ) → i < gap_count g → list_any (λ x. is_held g x i) row ≡ list_any (in_gap g i) row
  any_held row i there = λ j. list_any (λ x. below_is i (gap_count g) there j && in_gap g i x) row

-- an integer of 64 bits signed
pub fits_if_long : (z : ℤ) → is_long z ≡ true → FitsSigned w64 z
fits_if_long z e = grind (arith, ints)
