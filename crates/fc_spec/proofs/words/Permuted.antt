-- To show a relation of all pairs of lists with the same members.
use Rattle.std.specs.Prelude.{ℕ, zero, suc, ◌<◌, List, [], ◌∷◌, length, IsPermutation}
use Rattle.std.specs.List.{swap}
use Rattle.std.proofs.Common.{arith, get_or, set}
use Rattle.std.proofs.lemmas.List.Sorted.{IsPermutation-keeps}

-- a relation of a list with itself, under one more member in front, with the front two exchanged, and over steps in a row
module _ {X : Type 0} (R : List X → List X → Type 0)
    (itself : (xs : List X) → R xs xs) (more : (x : X) (xs ys : List X) → R xs ys → R (x ∷ xs) (x ∷ ys))
    (two : (x y : X) (xs : List X) → R (x ∷ y ∷ xs) (y ∷ x ∷ xs)) (through : (xs ys zs : List X) → R xs ys → R ys zs → R xs zs) where
  -- the front member and a later one exchanged
  front_exchanged : (d x : X) (xs : List X) (j : ℕ) → j < length xs → R (x ∷ xs) (get_or xs j d ∷ set xs j x)
  front_exchanged d x [] j h = absurd (omega arith)
  front_exchanged d x (y ∷ ys) zero h = two x y ys
  front_exchanged d x (y ∷ ys) (suc j) h =
      let g = get_or ys j d in
      through _ _ _ (two x y ys) (through _ _ _ (more y _ _ (front_exchanged d x ys j (omega arith))) (two y g (set ys j x)))

  -- any two members exchanged
  exchanged : (d : X) (xs : List X) (i j : ℕ) → i < length xs → j < length xs → R xs (set (set xs i (get_or xs j d)) j (get_or xs i d))
  exchanged d [] i j h k = absurd (omega arith)
  exchanged d (x ∷ xs) zero zero h k = itself (x ∷ xs)
  exchanged d (x ∷ xs) zero (suc j) h k = front_exchanged d x xs j (omega arith)
  exchanged d (x ∷ xs) (suc i) zero h k = front_exchanged d x xs i (omega arith)
  exchanged d (x ∷ xs) (suc i) (suc j) h k = more x _ _ (exchanged d xs i j (omega arith) (omega arith))

  -- the same by std's word
  swapped : (xs : List X) (i j : ℕ) → i < length xs → j < length xs → R xs (swap xs i j)
  swapped [] i j h k = itself []
  swapped (d ∷ xs) i j h k = exchanged d (d ∷ xs) i j h k

  -- holds of each list and its permutations
  pub holds_of_permutations : (xs ys : List X) → IsPermutation xs ys → R xs ys
  holds_of_permutations xs = IsPermutation-keeps xs (R xs) (itself xs) (λ l i j h k r. through xs l (swap l i j) r (swapped l i j h k))
