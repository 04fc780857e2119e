-- The lines of a window that was read.
use Rattle.std.proofs.Common.{◌≡◌, ℕ, suc, ◌<◌, List, [], ◌∷◌, length, map, get_or, All, refl, arith}
use Rattle.fc_spec.specs.documents.Schema.{Schema}
use Rattle.fc_window.specs.Slots.{HasSaid, IsReadFrom, line_of}
use Rattle.fc_window.specs.declared.slot.Slot.{Slot}

module _ (s : Schema) where
  abbrev pub Each : (xs ys : List Slot) → Type 0
  Each xs ys = (i : ℕ) (d : Slot) → i < length xs → IsReadFrom s (get_or xs i d) (get_or ys i d)

  pub same_lines : (xs ys : List Slot) → length ys ≡ length xs → Each xs ys → map line_of ys ≡ map line_of xs
  same_lines [] [] same each = refl
  same_lines [] (y ∷ ys) same each = absurd (omega arith)
  same_lines (x ∷ xs) [] same each = absurd (omega arith)
  same_lines (x ∷ xs) (y ∷ ys) same each =
      let here = each 0 x (omega arith) in
      λ k. (here.number k, here.text k) ∷ same_lines xs ys (omega (arith, same)) (λ i d below. each (suc i) d (omega arith)) k

  pub all_said : (xs ys : List Slot) → length ys ≡ length xs → Each xs ys → All (HasSaid s) ys
  all_said xs ys same each = λ i d below. (each i d (omega arith)).said
