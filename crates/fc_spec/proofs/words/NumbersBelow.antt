-- What holds of each number below a bound, and lists with one member for each.
use Rattle.std.proofs.lemmas.Bool.{cases_eq}
use Rattle.std.proofs.Common.{◌≡◌, ℕ, zero, suc, ◌+◌, ◌<◌, ◌≤◌, map, slice_index, sym, ◌∙◌, subst, zero-add, inl, inr, arith}
use Rattle.std.specs.List.{range_with_len}
use Rattle.std.specs.Prelude.{All}
use Rattle.std.proofs.lemmas.List.Elements.{All-get_or, All-from_get_or}
use Rattle.std.proofs.lemmas.List.FromFn.{get_or-map-range_with_len, get_or-range_with_len, length-range_with_len}
use Rattle.fc_spec.specs.words.Lists.{numbers_below}
use Rattle.fc_spec.proofs.words.Members.{Member}

pub all_below : (P : ℕ → Type 0) (n : ℕ) → ((i : ℕ) → i < n → P i) → All P (numbers_below n)
all_below P n each = All-from_get_or P (numbers_below n) 0 (λ i there.
    let below : i < n = omega (arith, length-range_with_len 0 n) in
    subst P (sym (get_or-range_with_len 0 n i 0 below ∙ zero-add i)) (each i below))

pub below_all : (P : ℕ → Type 0) (n i : ℕ) → All P (numbers_below n) → i < n → P i
below_all P n i all below =
    subst P (get_or-range_with_len 0 n i 0 below ∙ zero-add i) (All-get_or P (numbers_below n) i 0 (omega (arith, length-range_with_len 0 n)) all)

pub at_number : (f : ℕ → ℕ) (n i : ℕ) → i < n → slice_index (map f (numbers_below n)) i ≡ f i
at_number f n i below = get_or-map-range_with_len f 0 n i i 0 below (zero-add i)

member_range : (n from i : ℕ) → Member i (range_with_len from n) → i < from + n
member_range zero from i m = absurd m
member_range (suc n) from i (inl e) = omega arith
member_range (suc n) from i (inr m) = let less = member_range n (from + 1) i m in omega arith

-- a member is below the bound
pub member_below : (n i : ℕ) → Member i (numbers_below n) → i < n
member_below n i m = let less = member_range n 0 i m in omega arith

range_member : (n from i : ℕ) → from ≤ i → i < from + n → Member i (range_with_len from n)
range_member zero from i low high = absurd (omega arith)
range_member (suc n) from i low high = elim (cases_eq from i) [ inl e ↦ inl (sym e) | inr e ↦ inr (range_member n (from + 1) i (omega arith) (omega arith)) ]

-- and a number below it a member
pub below_member : (n i : ℕ) → i < n → Member i (numbers_below n)
below_member n i h = range_member n 0 i (omega arith) (omega arith)
