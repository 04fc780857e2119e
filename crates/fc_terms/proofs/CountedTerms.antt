-- The terms of a span that a position has, ordinal by ordinal.
use Rattle.std.proofs.Common.{◌≡◌, ◌<◌, ◌≤◌, ◌+◌, ◌-◌, ◌≢◌, ◌==◌, ℕ, Bool, true, false, ◌||◌, List, length, take, get_or, refl, ap, ◌∙◌, arith, eq-eqb, ne_eqb, length-take}
use Rattle.std.specs.List.Sorted.{IsStrictlyIncreasing}
use Rattle.std.proofs.lemmas.Bool.Decides.{nat_tests}
use Rattle.std.proofs.lemmas.List.{get_or-take, get_or_default}
use Rattle.std.proofs.lemmas.List.Folds.{list_any_at, list_any_more, list_any_none}
use Rattle.std.proofs.lemmas.List.Kept.{AllPairs-from_increasing}
use Rattle.fc_spec.specs.requests.Statistics.{StatValue}
use Rattle.fc_partial.specs.Celled.{Celled, cell_at, counted}
use Rattle.fc_lists.specs.Among.{is_among}
use Rattle.fc_count.specs.Counted.{HaveCounted}
use Rattle.fc_count.proofs.CountedSteps.{counted_before, counted_more, counted_same}

module _ (row : List ℕ) (from to n : ℕ) (below : n < length row) where
  -- an ordinal is among those that were read, or is the next one
  one_more : (y : ℕ) → is_among y (take (n + 1) row) ≡ (is_among y (take n row) || y == get_or row n 0)
  one_more y = list_any_more (λ number. y == number) row n 0 below

  module _ (values : List StatValue) (old mid : Celled) (size : length old.cells ≡ to - from) (h : HaveCounted (λ i. is_among (from + i) (take n row)) values old mid) where
    -- an ordinal that is no term of the span
    pub term_passed : ((from ≤ get_or row n 0) → (get_or row n 0 < to) → ⊥) → HaveCounted (λ i. is_among (from + i) (take (n + 1) row)) values old mid
    term_passed outside = counted_same (λ i. is_among (from + i) (take n row)) (λ i. is_among (from + i) (take (n + 1) row)) values old mid (λ i here. same i here) h
      where
        or_false : (b : Bool) → (b || false) ≡ b
        or_false true = refl
        or_false false = refl

        other : (i : ℕ) → i < length old.cells → from + i ≢ get_or row n 0
        other i here e = outside (omega arith) (omega (arith, size))

        same : (i : ℕ) → i < length old.cells → is_among (from + i) (take (n + 1) row) ≡ is_among (from + i) (take n row)
        same i here = one_more (from + i) ∙ ap (λ b. is_among (from + i) (take n row) || b) (ne_eqb (from + i) (get_or row n 0) (other i here)) ∙ or_false _

    module _ (rises : IsStrictlyIncreasing row) (low : from ≤ get_or row n 0) (high : get_or row n 0 < to) where
      number : from + (get_or row n 0 - from) ≡ get_or row n 0
      number = omega arith

      -- an ordinal was not read before
      fresh : is_among (from + (get_or row n 0 - from)) (take n row) ≡ false
      fresh = ap (λ y. is_among y (take n row)) number ∙ list_any_none (λ number. get_or row n 0 == number) (take n row) earlier
        where
          earlier : (k d : ℕ) → k < length (take n row) → (get_or row n 0 == get_or (take n row) k d) ≡ false
          earlier k d inside =
              let before : k < n = omega (arith, length-take n row) in
              let less : get_or row k 0 < get_or row n 0 = AllPairs-from_increasing row rises k n 0 before below in
              let same : get_or (take n row) k d ≡ get_or row k 0 = get_or-take n row k d before ∙ get_or_default row k d 0 (omega arith) in
              ne_eqb (get_or row n 0) (get_or (take n row) k d) (λ e. omega arith)

      pub term_before : cell_at mid.cells (get_or row n 0 - from) ≡ cell_at old.cells (get_or row n 0 - from)
      term_before = counted_before (λ i. is_among (from + i) (take n row)) values old mid (get_or row n 0 - from) h fresh (omega (arith, size))

      -- an ordinal that is a term of the span
      pub term_counted : HaveCounted (λ i. is_among (from + i) (take (n + 1) row)) values old (counted mid (get_or row n 0 - from) values)
      term_counted =
          counted_same (λ i. is_among (from + i) (take n row) || i == (get_or row n 0 - from)) (λ i. is_among (from + i) (take (n + 1) row)) values old _ (λ i here. same i)
          (counted_more (λ i. is_among (from + i) (take n row)) values old mid (get_or row n 0 - from) h fresh (omega (arith, size)))
        where
          test : (i x : ℕ) → from ≤ x → ((from + i) == x) ≡ (i == (x - from))
          test i x l = grind (arith, nat_tests)

          same : (i : ℕ) → is_among (from + i) (take (n + 1) row) ≡ (is_among (from + i) (take n row) || i == (get_or row n 0 - from))
          same i = one_more (from + i) ∙ ap (λ b. is_among (from + i) (take n row) || b) (test i (get_or row n 0) low)

      -- it is among all
      pub term_held : is_among (from + (get_or row n 0 - from)) row ≡ true
      term_held = ap (λ y. is_among y row) number ∙ list_any_at (λ number. get_or row n 0 == number) row n 0 below (eq-eqb (get_or row n 0) (get_or row n 0) refl)
