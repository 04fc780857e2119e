-- Pairs of a field and a value that were sorted, and of which equal ones were dropped, are in strict order.
use Rattle.std.proofs.Common.{◌≡◌, ℕ, ◌<◌, ◌≤◌, List, [], ◌∷◌, eqb, Bool, true, false, cond, ◌&&◌, arith, refl, sym}
use Rattle.std.specs.Cmp.{IsTotalOrder, both_tied}
use Rattle.std.specs.List.{AllByRecursion}
use Rattle.std.specs.List.Retain.{IsFiltered, DiffersFromLast}
use Rattle.std.specs.List.Sorted.{IsPermutation, IsSorted, IsStrictlySortedBy}
use Rattle.std.specs.Ordering.{MatchOrdering, is_eq, nat_cmp, ordering_then}
use Rattle.std.specs.declared.cmp.Ordering.{Ordering}
use Rattle.std.specs.declared.cmp.Ordering.TheVariants.{Less, Equal, Greater}
use Rattle.std.proofs.lemmas.Bool.{eqb-true}
use Rattle.std.proofs.lemmas.Bool.Decides.{nat_tests}
use Rattle.std.proofs.lemmas.Cmp.{nat_cmp_total, on_total, ranked, then_total}
use Rattle.std.proofs.lemmas.List.Filters.{dedup_is}
use Rattle.std.proofs.lemmas.List.Kept.{IsStrictlySortedBy-dedup}
use Rattle.fc_spec.specs.documents.Val.{val_cmp, same_val}
use Rattle.fc_spec.specs.documents.ValOrder.{val_cmp_total}
use Rattle.fc_base.specs.declared.field.FieldId.{FieldId}
use Rattle.fc_base.specs.declared.value.Val.{Val}
use Rattle.fc_base.specs.View.{val_view}
use Rattle.fc_docs.specs.Direct.{given_to, given_view}
use Rattle.fc_docs.specs.Runs.{Rise}

abbrev pub Pair : Type 0
Pair = FieldId × Val

-- the order of the fields, and in a field index order
abbrev pub pair_cmp : Pair → Pair → Ordering
pair_cmp x y = ordering_then (nat_cmp x.0.0 y.0.0) (val_cmp (val_view x.1) (val_view y.1))

abbrev pub same_pair : Pair → Pair → Bool
same_pair x y = eqb x.0.0 y.0.0 && same_val (val_view x.1) (val_view y.1)

-- the pairs xs, sorted as ys, of which zs are the different ones
pub record AreSortedPairs (xs ys zs : List Pair) : Type 0 where
  pub moved : IsPermutation xs ys
  pub sorted : IsSorted pair_cmp ys
  pub kept : IsFiltered (DiffersFromLast same_pair) [] ys zs

pairs_total : IsTotalOrder pair_cmp
pairs_total = then_total (on_total (λ (p : Pair). p.0.0) nat_cmp_total) (on_total (λ (p : Pair). val_view p.1) val_cmp_total)

same_number : (m n : ℕ) → eqb m n ≡ is_eq (nat_cmp m n)
same_number m n = grind (arith, nat_tests)

pub strictly : (xs ys zs : List Pair) → AreSortedPairs xs ys zs → IsStrictlySortedBy pair_cmp zs
strictly xs ys zs h =
    rw (dedup_is same_pair ys zs h.kept)
    (IsStrictlySortedBy-dedup pairs_total (λ x y. both_tied _ _ (nat_cmp x.0.0 y.0.0) (val_cmp (val_view x.1) (val_view y.1)) (same_number x.0.0 y.0.0) refl) ys h.sorted)

-- ---- the fields rise
not_before : (m n : ℕ) (o : Ordering) → ordering_then (nat_cmp m n) o ≡ Less → m ≤ n
not_before m n o less = go (nat_cmp m n) less (ranked m n (nat_cmp m n) refl)
  where
    go : (first : Ordering) → ordering_then first o ≡ Less → MatchOrdering first (m < n) (m ≡ n) (n < m) → m ≤ n
    go Less is says = omega arith
    go Equal is says = omega arith
    go Greater is says = cc

rise_from : (least : ℕ) (z : Pair) (zs : List Pair) → least ≤ z.0.0 → IsStrictlySortedBy pair_cmp (z ∷ zs) → Rise least (given_view (z ∷ zs))
unfolding IsStrictlySortedBy
rise_from least z [] first up = (first, tt)
rise_from least z (y ∷ zs) first up = (first, rise_from z.0.0 y zs (not_before z.0.0 y.0.0 _ up.0.0) up.1)

pub all_rise : (zs : List Pair) → IsStrictlySortedBy pair_cmp zs → Rise 0 (given_view zs)
all_rise [] up = tt
all_rise (z ∷ zs) up = rise_from 0 z zs (omega arith) up

-- ---- the values of one field ascend
in_field : (m n : ℕ) (o : Ordering) → m ≡ n → ordering_then (nat_cmp m n) o ≡ Less → o ≡ Less
in_field m n o is less = go (nat_cmp m n) less (ranked m n (nat_cmp m n) refl)
  where
    go : (first : Ordering) → ordering_then first o ≡ Less → MatchOrdering first (m < n) (m ≡ n) (n < m) → o ≡ Less
    go Less before says = absurd (omega arith)
    go Equal before says = before
    go Greater before says = absurd (omega arith)

under : (n : ℕ) (z : Pair) (zs : List Pair) → z.0.0 ≡ n → AllByRecursion (λ y. pair_cmp z y ≡ Less) zs → AllByRecursion (λ w. val_cmp (val_view z.1) w ≡ Less) (given_to n (given_view zs))
under n z [] is before = tt
under n z (y ∷ zs) is before = go (eqb n y.0.0) refl (under n z zs is before.1)
  where
    go : (b : Bool) → eqb n y.0.0 ≡ b → AllByRecursion (λ w. val_cmp (val_view z.1) w ≡ Less) (given_to n (given_view zs))
        → AllByRecursion (λ w. val_cmp (val_view z.1) w ≡ Less) (cond b (val_view y.1 ∷ given_to n (given_view zs)) (given_to n (given_view zs)))
    go true here later = (in_field z.0.0 y.0.0 _ (omega (arith, eqb-true n y.0.0 here)) before.0, later)
    go false here later = later

pub ascends : (n : ℕ) (zs : List Pair) → IsStrictlySortedBy pair_cmp zs → IsStrictlySortedBy val_cmp (given_to n (given_view zs))
unfolding IsStrictlySortedBy
ascends n [] up = tt
ascends n (z ∷ zs) up = go (eqb n z.0.0) refl (ascends n zs up.1)
  where
    go : (b : Bool) → eqb n z.0.0 ≡ b → IsStrictlySortedBy val_cmp (given_to n (given_view zs)) → IsStrictlySortedBy val_cmp (cond b (val_view z.1 ∷ given_to n (given_view zs)) (given_to n (given_view zs)))
    go true here later = (under n z zs (sym (eqb-true n z.0.0 here)) up.0, later)
    go false here later = later
