-- The integers of a span that a position has, one after another.
use Rattle.std.proofs.Common.{◌≡◌, ◌<◌, ◌+◌, ◌≢◌, ◌==◌, ◌⊎◌, inl, inr, ℕ, ℤ, pos, ◌+ℤ◌, ◌-ℤ◌, ◌≤ℤ◌, nat_abs, Bool, true, false, ◌||◌, List, [], ◌∷◌, map, length, take, get_or, refl, sym, ap, ◌∙◌, arith, eq-eqb, ne_eqb, length-take}
use Rattle.std.specs.List.{list_any}
use Rattle.std.specs.Ordering.{int_cmp}
use Rattle.std.specs.declared.cmp.Ordering.TheVariants.{Less, Equal}
use Rattle.std.proofs.lemmas.Bool.{cases_eq, false_from_ne_true}
use Rattle.std.proofs.lemmas.Cmp.{int_cmp_total, tied_itself}
use Rattle.std.proofs.lemmas.Int.{ints}
use Rattle.std.proofs.lemmas.List.{get_or-take, get_or_default}
use Rattle.std.proofs.lemmas.List.Folds.{list_any_at, list_any_more, list_any_none}
use Rattle.fc_spec.specs.documents.Columns.{IsAscending}
use Rattle.fc_spec.specs.documents.Val.{long, has_val, same_val}
use Rattle.fc_spec.specs.requests.Statistics.{StatValue}
use Rattle.fc_spec.proofs.documents.ValOrder.{same_val_exact, same_val_itself}
use Rattle.fc_partial.specs.Celled.{Celled, cell_at, counted}
use Rattle.fc_count.specs.Counted.{HaveCounted}
use Rattle.fc_count.proofs.CountedSteps.{counted_before, counted_more, counted_same}

-- an integer among integers
pub any_long : (z : ℤ) (zs : List ℤ) → has_val (long z) (map long zs) ≡ list_any (λ v. same_val (long z) (long v)) zs
any_long z [] = refl
any_long z (v ∷ zs) = ap (λ b. same_val (long z) (long v) || b) (any_long z zs)

-- two integers that differ are two values
pub longs_differ : (y z : ℤ) → (y ≡ z → ⊥) → same_val (long y) (long z) ≡ false
longs_differ y z differ = false_from_ne_true _ (λ h. let e : long y ≡ long z = same_val_exact (long y) (long z) h in let same : y ≡ z = cc in differ same)

pub longs_same : (y z : ℤ) → y ≡ z → same_val (long y) (long z) ≡ true
longs_same y z e = ap (λ v. same_val (long y) (long v)) (sym e) ∙ same_val_itself (long y)

module _ (row : List ℤ) (least : ℤ) (bound n : ℕ) (d : ℤ) (below : n < length row) where
  -- an integer is among those that were read, or is the next one
  one_more : (y : ℤ) → has_val (long y) (map long (take (n + 1) row)) ≡ (has_val (long y) (map long (take n row)) || same_val (long y) (long (get_or row n d)))
  one_more y = any_long y (take (n + 1) row) ∙ list_any_more (λ v. same_val (long y) (long v)) row n d below ∙ ap (λ b. b || same_val (long y) (long (get_or row n d))) (sym (any_long y (take n row)))

  module _ (values : List StatValue) (old mid : Celled) (size : length old.cells ≡ bound) (h : HaveCounted (λ i. has_val (long (least +ℤ pos i)) (map long (take n row))) values old mid) where
    -- an integer that is none of the span
    pub integer_passed : (least ≤ℤ get_or row n d → nat_abs (get_or row n d -ℤ least) < bound → ⊥) → HaveCounted (λ i. has_val (long (least +ℤ pos i)) (map long (take (n + 1) row))) values old mid
    integer_passed outside = counted_same (λ i. has_val (long (least +ℤ pos i)) (map long (take n row))) (λ i. has_val (long (least +ℤ pos i)) (map long (take (n + 1) row))) values old mid (λ i here. same i here) h
      where
        or_false : (b : Bool) → (b || false) ≡ b
        or_false true = refl
        or_false false = refl

        other : (i : ℕ) → i < length old.cells → least +ℤ pos i ≡ get_or row n d → ⊥
        other i here e = outside (omega (arith, ints)) (omega (arith, ints, size))

        same : (i : ℕ) → i < length old.cells → has_val (long (least +ℤ pos i)) (map long (take (n + 1) row)) ≡ has_val (long (least +ℤ pos i)) (map long (take n row))
        same i here = one_more (least +ℤ pos i) ∙ ap (λ b. has_val (long (least +ℤ pos i)) (map long (take n row)) || b) (longs_differ (least +ℤ pos i) (get_or row n d) (other i here)) ∙ or_false _

    module _ (rises : IsAscending int_cmp row) (low : least ≤ℤ get_or row n d) (high : nat_abs (get_or row n d -ℤ least) < bound) where
      number : least +ℤ pos (nat_abs (get_or row n d -ℤ least)) ≡ get_or row n d
      number = omega (arith, ints)

      here : nat_abs (get_or row n d -ℤ least) < length old.cells
      here = omega (arith, ints, size)

      -- an integer was not read before
      fresh : has_val (long (least +ℤ pos (nat_abs (get_or row n d -ℤ least)))) (map long (take n row)) ≡ false
      fresh = ap (λ y. has_val (long y) (map long (take n row))) number ∙ any_long (get_or row n d) (take n row) ∙ list_any_none (λ v. same_val (long (get_or row n d)) (long v)) (take n row) earlier
        where
          earlier : (k : ℕ) (e : ℤ) → k < length (take n row) → same_val (long (get_or row n d)) (long (get_or (take n row) k e)) ≡ false
          earlier k e inside =
              let before : k < n = omega (arith, length-take n row) in
              let less : int_cmp (get_or row k d) (get_or row n d) ≡ Less = rises k n d before below in
              let first : get_or (take n row) k e ≡ get_or row k d = get_or-take n row k e before ∙ get_or_default row k e d (omega arith) in
              longs_differ (get_or row n d) (get_or (take n row) k e) (λ same.
              let tied : int_cmp (get_or row k d) (get_or row n d) ≡ Equal = ap (int_cmp (get_or row k d)) (same ∙ first) ∙ tied_itself int_cmp_total (get_or row k d) in
              let wrong = sym less ∙ tied in cc)

      pub integer_before : cell_at mid.cells (nat_abs (get_or row n d -ℤ least)) ≡ cell_at old.cells (nat_abs (get_or row n d -ℤ least))
      integer_before = counted_before (λ i. has_val (long (least +ℤ pos i)) (map long (take n row))) values old mid (nat_abs (get_or row n d -ℤ least)) h fresh here

      -- an integer of the span
      pub integer_counted : HaveCounted (λ i. has_val (long (least +ℤ pos i)) (map long (take (n + 1) row))) values old (counted mid (nat_abs (get_or row n d -ℤ least)) values)
      integer_counted =
          counted_same (λ i. has_val (long (least +ℤ pos i)) (map long (take n row)) || i == nat_abs (get_or row n d -ℤ least)) (λ i. has_val (long (least +ℤ pos i)) (map long (take (n + 1) row))) values old _ (λ i inside. same i)
          (counted_more (λ i. has_val (long (least +ℤ pos i)) (map long (take n row))) values old mid (nat_abs (get_or row n d -ℤ least)) h fresh here)
        where
          test : (i : ℕ) → ((i ≡ nat_abs (get_or row n d -ℤ least)) ⊎ (i ≢ nat_abs (get_or row n d -ℤ least))) → same_val (long (least +ℤ pos i)) (long (get_or row n d)) ≡ (i == nat_abs (get_or row n d -ℤ least))
          test i (inl e) = longs_same (least +ℤ pos i) (get_or row n d) (omega (arith, ints)) ∙ sym (eq-eqb i (nat_abs (get_or row n d -ℤ least)) e)
          test i (inr ne) = longs_differ (least +ℤ pos i) (get_or row n d) (λ e. ne (omega (arith, ints))) ∙ sym (ne_eqb i (nat_abs (get_or row n d -ℤ least)) ne)

          same : (i : ℕ) → has_val (long (least +ℤ pos i)) (map long (take (n + 1) row)) ≡ (has_val (long (least +ℤ pos i)) (map long (take n row)) || i == nat_abs (get_or row n d -ℤ least))
          same i = one_more (least +ℤ pos i) ∙ ap (λ b. has_val (long (least +ℤ pos i)) (map long (take n row)) || b) (test i (cases_eq i (nat_abs (get_or row n d -ℤ least))))

      -- it is among all
      pub integer_held : has_val (long (least +ℤ pos (nat_abs (get_or row n d -ℤ least)))) (map long row) ≡ true
      integer_held = ap (λ y. has_val (long y) (map long row)) number ∙ any_long (get_or row n d) row ∙ list_any_at (λ v. same_val (long (get_or row n d)) (long v)) row n d below (same_val_itself (long (get_or row n d)))
