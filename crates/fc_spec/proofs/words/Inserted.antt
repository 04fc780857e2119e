-- Different members of a list can be put in order.
use Rattle.std.proofs.Common.{◌≡◌, List, [], ◌∷◌, false, ap, sym, ◌∙◌, refl}
use Rattle.std.specs.Prelude.{IsPermutation}
use Rattle.std.specs.Cmp.{IsTotalOrder}
use Rattle.std.specs.List.{AllByRecursion, IsDistinct}
use Rattle.std.specs.List.Sorted.{IsStrictlySortedBy}
use Rattle.std.specs.Ordering.{is_eq, match_ordering, ordering_reverse, eq_by_cmp}
use Rattle.std.specs.declared.cmp.Ordering.{Ordering}
use Rattle.std.specs.declared.cmp.Ordering.TheVariants.{Less, Equal, Greater}
use Rattle.std.proofs.lemmas.Bool.{false≢true}
use Rattle.std.proofs.lemmas.List.Elements.{All-from_recursion, recursion_from_All}
use Rattle.std.proofs.lemmas.List.Sorted.{IsPermutation-refl, IsPermutation-sym, IsPermutation-trans, IsPermutation-cons, IsPermutation-middle, All-permutation}

module _ {X : Type 0} (R : X → X → Ordering) (order : IsTotalOrder R) where
  -- x stands before each of the list
  abbrev IsBefore : X → List X → Type 0
  IsBefore x ys = AllByRecursion (λ y. R x y ≡ Less) ys

  -- x ties with none of the list
  abbrev IsApart : X → List X → Type 0
  IsApart x ys = AllByRecursion (λ y. is_eq (R x y) ≡ false) ys

  -- an ascending list with x put in its place
  abbrev inserted : X → List X → List X
  inserted x [] = x ∷ []
  inserted x (y ∷ ys) = match_ordering (R x y) (x ∷ y ∷ ys) (x ∷ y ∷ ys) (y ∷ inserted x ys)

  -- the members of a list, each put in its place
  abbrev pub in_order : List X → List X
  in_order [] = []
  in_order (x ∷ xs) = inserted x (in_order xs)

  members-inserted : (x : X) (ys : List X) → IsPermutation (x ∷ ys) (inserted x ys)
  members-inserted x [] = IsPermutation-refl (x ∷ [])
  members-inserted x (y ∷ ys) = go (R x y) (members-inserted x ys)
    where
      go : (o : Ordering) → IsPermutation (x ∷ ys) (inserted x ys) → IsPermutation (x ∷ y ∷ ys) (match_ordering o (x ∷ y ∷ ys) (x ∷ y ∷ ys) (y ∷ inserted x ys))
      go Less ih = IsPermutation-refl (x ∷ y ∷ ys)
      go Equal ih = IsPermutation-refl (x ∷ y ∷ ys)
      go Greater ih = IsPermutation-trans _ _ _ (IsPermutation-sym _ _ (IsPermutation-middle (y ∷ []) x ys)) (IsPermutation-cons y _ _ ih)

  -- they are its members
  pub members-in_order : (xs : List X) → IsPermutation xs (in_order xs)
  members-in_order [] = IsPermutation-refl []
  members-in_order (x ∷ xs) = IsPermutation-trans _ _ _ (IsPermutation-cons x _ _ (members-in_order xs)) (members-inserted x (in_order xs))

  -- what stands before the first of ascending ones stands before all
  before_all : (x y : X) (ys : List X) → R x y ≡ Less → IsBefore y ys → IsBefore x ys
  before_all x y [] h below = tt
  before_all x y (z ∷ zs) h below = (order.trans x y z h below.0, before_all x y zs h below.1)

  before-inserted : (x y : X) (ys : List X) → R y x ≡ Less → IsBefore y ys → IsBefore y (inserted x ys)
  before-inserted x y [] h below = (h, tt)
  before-inserted x y (z ∷ zs) h below = go (R x z) (before-inserted x y zs h below.1)
    where
      go : (o : Ordering) → IsBefore y (inserted x zs) → IsBefore y (match_ordering o (x ∷ z ∷ zs) (x ∷ z ∷ zs) (z ∷ inserted x zs))
      go Less ih = (h, below)
      go Equal ih = (h, below)
      go Greater ih = (below.0, ih)

  up-inserted : (x : X) (ys : List X) → IsApart x ys → IsStrictlySortedBy R ys → IsStrictlySortedBy R (inserted x ys)
  unfolding IsStrictlySortedBy
  up-inserted x [] apart up = (tt, tt)
  up-inserted x (y ∷ ys) apart up = go (R x y) refl (up-inserted x ys apart.1 up.1)
    where
      go : (o : Ordering) → R x y ≡ o → IsStrictlySortedBy R (inserted x ys) → IsStrictlySortedBy R (match_ordering o (x ∷ y ∷ ys) (x ∷ y ∷ ys) (y ∷ inserted x ys))
      go Less e ih = ((e, before_all x y ys e up.0), up)
      go Equal e ih = absurd (false≢true (sym apart.0 ∙ ap is_eq e))
      go Greater e ih = (before-inserted x y ys (order.antisymm y x ∙ ap ordering_reverse e) up.0, ih)

  -- where no two tie, they ascend
  pub up-in_order : (xs : List X) → IsDistinct (eq_by_cmp R) xs → IsStrictlySortedBy R (in_order xs)
  unfolding IsStrictlySortedBy IsDistinct
  up-in_order [] apart = tt
  up-in_order (x ∷ xs) apart =
      let P : X → Type 0 = λ y. is_eq (R x y) ≡ false in
      up-inserted x (in_order xs) (recursion_from_All P (in_order xs) (All-permutation P xs (in_order xs) (members-in_order xs) (All-from_recursion P xs apart.0))) (up-in_order xs apart.1)
