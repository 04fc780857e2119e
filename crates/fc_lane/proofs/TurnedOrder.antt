-- Signed numbers of 64 bits turned around the ring so that one of them becomes the least.
use Rattle.std.proofs.Common.{◌≡◌, ℕ, suc, ◌+◌, ◌-◌, ◌%◌, ◌^◌, ◌<◌, ◌≤◌, ◌⊎◌, inl, inr, false, ap, ◌∙◌, arith}
use Rattle.std.specs.Prelude.{ℤ, pos, negsuc, int_lt, FitsSigned, ◌≤ℤ◌, ◌<ℤ◌, ◌+ℤ◌}
use Rattle.std.specs.Int.{w64}
use Rattle.std.proofs.lemmas.Int.{ints, by_lt_z}
use Rattle.std.proofs.Math.Facts.{to_z-neg}
use Rattle.std.proofs.lemmas.Bool.{cases_lt}
use mir.Val.{to_z, of_z}
use Rattle.fc_lane.specs.Between.{is_between, is_outside}

-- how far a number stands after another, around the ring
abbrev pub gap : ℤ → ℤ → ℕ
gap lo x = (of_z w64 x + (2 ^ 64 - of_z w64 lo)) % 2 ^ 64

-- the number whose place is counted from there, where the least counts as 0
abbrev pub turned : ℤ → ℤ → ℤ
turned lo x = to_z w64 ((of_z w64 x + (2 ^ 64 - (of_z w64 lo + 2 ^ 63) % 2 ^ 64)) % 2 ^ 64)

of_z_below : (x : ℤ) → FitsSigned w64 x → of_z w64 x < 2 ^ 64
of_z_below (pos n) f = let h = f.sfits in omega arith
of_z_below (negsuc n) f = omega arith

gap_up : (lo x : ℤ) → FitsSigned w64 lo → FitsSigned w64 x → lo ≤ℤ x → pos (gap lo x) +ℤ lo ≡ x
gap_up (pos a) (pos b) f g low = let p = f.sfits in let q = g.sfits in omega (arith, ints)
gap_up (pos a) (negsuc b) f g low = absurd (omega (arith, ints))
gap_up (negsuc a) (pos b) f g low = let p = f.sfits in let q = g.sfits in omega (arith, ints)
gap_up (negsuc a) (negsuc b) f g low = let p = f.sfits in let q = g.sfits in omega (arith, ints)

gap_down : (lo x : ℤ) → FitsSigned w64 lo → FitsSigned w64 x → x <ℤ lo → pos (gap lo x) +ℤ lo ≡ x +ℤ pos (2 ^ 64)
gap_down (pos a) (pos b) f g low = let p = f.sfits in let q = g.sfits in omega (arith, ints)
gap_down (pos a) (negsuc b) f g low = let p = f.sfits in let q = g.sfits in omega (arith, ints)
gap_down (negsuc a) (pos b) f g low = absurd (omega (arith, ints))
gap_down (negsuc a) (negsuc b) f g low = let p = f.sfits in let q = g.sfits in omega (arith, ints)

-- counted from the least in place of from 0
nat_turn : (a b : ℕ) → a < 2 ^ 64 → b < 2 ^ 64 → (a + (2 ^ 64 - (b + 2 ^ 63) % 2 ^ 64)) % 2 ^ 64 ≡ ((a + (2 ^ 64 - b)) % 2 ^ 64 + 2 ^ 63) % 2 ^ 64
nat_turn a b p q = omega arith

-- the upper half of the bits stands for the lower half of the numbers
signed_half : (m : ℕ) → m < 2 ^ 64 → to_z w64 ((m + 2 ^ 63) % 2 ^ 64) +ℤ pos (2 ^ 63) ≡ pos m
signed_half m small = go (cases_lt m (2 ^ 63))
  where
    go : ((m < 2 ^ 63) ⊎ (2 ^ 63 ≤ m)) → to_z w64 ((m + 2 ^ 63) % 2 ^ 64) +ℤ pos (2 ^ 63) ≡ pos m
    go (inl low) =
        let e : (m + 2 ^ 63) % 2 ^ 64 ≡ 2 ^ 64 - suc (2 ^ 63 - 1 - m) = omega arith in
        ap (λ n. to_z w64 n +ℤ pos (2 ^ 63)) e ∙ ap (λ z. z +ℤ pos (2 ^ 63)) (to_z-neg w64 (2 ^ 63 - 1 - m) (omega arith)) ∙ omega (arith, ints)
    go (inr high) = let e : (m + 2 ^ 63) % 2 ^ 64 ≡ m - 2 ^ 63 = omega arith in ap (λ n. to_z w64 n +ℤ pos (2 ^ 63)) e ∙ omega (arith, ints)

pub turned_is : (lo x : ℤ) → FitsSigned w64 lo → FitsSigned w64 x → turned lo x +ℤ pos (2 ^ 63) ≡ pos (gap lo x)
turned_is lo x f g =
    ap (λ n. to_z w64 n +ℤ pos (2 ^ 63)) (nat_turn (of_z w64 x) (of_z w64 lo) (of_z_below x g) (of_z_below lo f))
    ∙ signed_half (gap lo x) (omega arith)

module _ (lo hi x : ℤ) (f : FitsSigned w64 lo) (g : FitsSigned w64 hi) (h : FitsSigned w64 x) (ordered : lo ≤ℤ hi) where
  within : lo ≤ℤ x → x ≤ℤ hi → turned lo x ≤ℤ turned lo hi
  within low high = omega (arith, ints, turned_is lo x f h, turned_is lo hi f g, gap_up lo x f h low, gap_up lo hi f g ordered)

  below : x <ℤ lo → turned lo hi <ℤ turned lo x
  below low = omega (arith, ints, turned_is lo x f h, turned_is lo hi f g, gap_down lo x f h low, gap_up lo hi f g ordered)

  above : lo ≤ℤ x → hi <ℤ x → turned lo hi <ℤ turned lo x
  above low high = omega (arith, ints, turned_is lo x f h, turned_is lo hi f g, gap_up lo x f h low, gap_up lo hi f g ordered)

  -- the numbers up to another are the lowest of the turned ones
  pub past_is : int_lt (turned lo hi) (turned lo x) ≡ is_outside lo hi x
  past_is = by_lt_z x lo
      (λ low. let e = below low in grind (arith, ints))
      (λ low. by_lt_z hi x (λ high. let e = above low high in grind (arith, ints)) (λ high. let e = within low high in grind (arith, ints)))

-- none lies between two numbers the wrong way round
pub none_between : (lo hi x : ℤ) → hi <ℤ lo → is_between lo hi x ≡ false
none_between lo hi x wrong = by_lt_z x lo (λ low. grind (arith, ints)) (λ low. grind (arith, ints))
