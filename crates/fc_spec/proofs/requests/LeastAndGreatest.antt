-- The least, the greatest and the total of joined lists of integers.
use Rattle.std.specs.Prelude.{◌≡◌, ℤ, ◌+ℤ◌, List, [], ◌∷◌, ◌++◌, Option, None, Some}
use Rattle.std.proofs.Common.{refl, ap, sym, arith}
use Rattle.std.proofs.lemmas.Int.{ints, clamps}
use Rattle.std.proofs.Math.IntN.{+ℤ_assoc, +ℤ_idl}
use Rattle.fc_spec.specs.requests.Statistics.{lesser, greater, least_of, greatest_of, total_of}

-- the lesser, in either order
pub lesser_comm : (a b : Option ℤ) → lesser a b ≡ lesser b a
lesser_comm None None = refl
lesser_comm None (Some b) = refl
lesser_comm (Some a) None = refl
lesser_comm (Some a) (Some b) = ap Some (omega (arith, ints, clamps))

-- the greater, in either order
pub greater_comm : (a b : Option ℤ) → greater a b ≡ greater b a
greater_comm None None = refl
greater_comm None (Some b) = refl
greater_comm (Some a) None = refl
greater_comm (Some a) (Some b) = ap Some (omega (arith, ints, clamps))

-- the least of three
pub lesser_assoc : (a b c : Option ℤ) → lesser (lesser a b) c ≡ lesser a (lesser b c)
lesser_assoc None b c = refl
lesser_assoc (Some a) None c = refl
lesser_assoc (Some a) (Some b) None = refl
lesser_assoc (Some a) (Some b) (Some c) = ap Some (omega (arith, ints, clamps))

-- the greatest of three
pub greater_assoc : (a b c : Option ℤ) → greater (greater a b) c ≡ greater a (greater b c)
greater_assoc None b c = refl
greater_assoc (Some a) None c = refl
greater_assoc (Some a) (Some b) None = refl
greater_assoc (Some a) (Some b) (Some c) = ap Some (omega (arith, ints, clamps))

-- the least of joined lists
pub least_of-append : (xs ys : List ℤ) → least_of (xs ++ ys) ≡ lesser (least_of xs) (least_of ys)
least_of-append [] ys = refl
least_of-append (x ∷ xs) ys = rw (least_of-append xs ys) (sym (lesser_assoc (Some x) (least_of xs) (least_of ys)))

-- the greatest of joined lists
pub greatest_of-append : (xs ys : List ℤ) → greatest_of (xs ++ ys) ≡ greater (greatest_of xs) (greatest_of ys)
greatest_of-append [] ys = refl
greatest_of-append (x ∷ xs) ys = rw (greatest_of-append xs ys) (sym (greater_assoc (Some x) (greatest_of xs) (greatest_of ys)))

-- the total of joined lists
pub total_of-append : (xs ys : List ℤ) → total_of (xs ++ ys) ≡ total_of xs +ℤ total_of ys
total_of-append [] ys = sym (+ℤ_idl (total_of ys))
total_of-append (x ∷ xs) ys = rw (total_of-append xs ys) (sym (+ℤ_assoc x (total_of xs) (total_of ys)))
