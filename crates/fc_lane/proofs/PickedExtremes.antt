-- The least and the greatest of what a mask picks, one after another.
use Rattle.std.proofs.Common.{◌≡◌, ℤ, List, ◌∷◌, Option, None, Some, refl, sym, ap, ◌∙◌, arith}
use Rattle.std.specs.Option.{unwrap_or}
use Rattle.std.specs.Int.{int_min, int_max}
use Rattle.std.proofs.lemmas.Int.{ints, clamps}
use Rattle.fc_spec.specs.requests.Statistics.{lesser, greater, least_of, greatest_of}
use Rattle.fc_spec.proofs.requests.LeastAndGreatest.{lesser_assoc, greater_assoc}

pub lesser_none : (a : Option ℤ) → lesser a None ≡ a
lesser_none None = refl
lesser_none (Some a) = refl

pub greater_none : (a : Option ℤ) → greater a None ≡ a
greater_none None = refl
greater_none (Some a) = refl

-- the least so far, and one more
pub lesser_more : (a x : ℤ) (xs : List ℤ) → lesser (Some (int_min a x)) (least_of xs) ≡ lesser (Some a) (least_of (x ∷ xs))
lesser_more a x xs = lesser_assoc (Some a) (Some x) (least_of xs)

pub greater_more : (a x : ℤ) (xs : List ℤ) → greater (Some (int_max a x)) (greatest_of xs) ≡ greater (Some a) (greatest_of (x ∷ xs))
greater_more a x xs = greater_assoc (Some a) (Some x) (greatest_of xs)

-- the first may be taken twice
pub lesser_first : (o : Option ℤ) (x : ℤ) (xs : List ℤ) → lesser (Some (unwrap_or o x)) (least_of (x ∷ xs)) ≡ lesser o (least_of (x ∷ xs))
lesser_first None x xs = let same : int_min x x ≡ x = omega (arith, ints, clamps) in sym (lesser_more x x xs) ∙ ap (λ z. lesser (Some z) (least_of xs)) same
lesser_first (Some a) x xs = refl

pub greater_first : (o : Option ℤ) (x : ℤ) (xs : List ℤ) → greater (Some (unwrap_or o x)) (greatest_of (x ∷ xs)) ≡ greater o (greatest_of (x ∷ xs))
greater_first None x xs = let same : int_max x x ≡ x = omega (arith, ints, clamps) in sym (greater_more x x xs) ∙ ap (λ z. greater (Some z) (greatest_of xs)) same
greater_first (Some a) x xs = refl
