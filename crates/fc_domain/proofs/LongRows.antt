-- Rows of integers against rows of values.
use Rattle.std.proofs.Common.{◌≡◌, ℤ, Bool, true, ◌&&◌, ◌||◌, All, List, [], ◌∷◌, map, int_le, refl, sym, ap₂, arith}
use Rattle.std.proofs.lemmas.List.Elements.{All-head, All-tail}
use Rattle.std.proofs.lemmas.Int.{ints}
use Rattle.std.specs.List.{list_any}
use Rattle.fc_spec.specs.documents.IntegerTexts.{is_long}
use Rattle.fc_spec.specs.documents.Val.{Val, long, same_val}
use Rattle.fc_column.specs.Longs.{has_between}
use Rattle.fc_domain.specs.Within.{PassesFromTo}

row_passes : (test : ℤ → Bool) (p : Val → Bool) (zs : List ℤ) → ((z : ℤ) → test z ≡ p (long z)) → list_any test zs ≡ list_any p (map long zs)
row_passes test p [] same = refl
row_passes test p (z ∷ zs) same = ap₂ (λ a b. a || b) (same z) (row_passes test p zs same)

pub longs_pass : (test : ℤ → Bool) (p : Val → Bool) (rows : List (List ℤ)) → ((z : ℤ) → test z ≡ p (long z)) → map (list_any test) rows ≡ map (list_any p) (map (map long) rows)
longs_pass test p [] same = refl
longs_pass test p (zs ∷ rows) same = ap₂ (λ a l. a ∷ l) (row_passes test p zs same) (longs_pass test p rows same)

pub at_long : (v z : ℤ) → (int_le v z && int_le z v) ≡ same_val (long v) (long z)
at_long v z = grind (arith, ints)

-- of integers of 64 bits signed those that pass are those from the first to the second
abbrev pub AreLong : List ℤ → Type 0
AreLong zs = All (λ z. is_long z ≡ true) zs

module _ (low high : ℤ) (test : ℤ → Bool) (passes : PassesFromTo low high test) where
  row_from_to : (zs : List ℤ) → AreLong zs → has_between low high zs ≡ list_any test zs
  row_from_to [] fit = refl
  row_from_to (z ∷ zs) fit =
      ap₂ (λ a b. a || b) (sym (passes z (All-head (λ z. is_long z ≡ true) z zs fit))) (row_from_to zs (All-tail (λ z. is_long z ≡ true) z zs fit))

  pub rows_from_to : (rows : List (List ℤ)) → All AreLong rows → map (has_between low high) rows ≡ map (list_any test) rows
  rows_from_to [] fit = refl
  rows_from_to (zs ∷ rows) fit = ap₂ (λ a l. a ∷ l) (row_from_to zs (All-head AreLong zs rows fit)) (rows_from_to rows (All-tail AreLong zs rows fit))
