-- Lists of which each member has a relation to every later one.
use Rattle.std.specs.Prelude.{◌≡◌, ℕ, zero, suc, ◌<◌, ◌≤◌, List, [], ◌∷◌, ◌++◌, length, map, Bool, true, false, cond, AllPairs}
use Rattle.std.specs.List.{filter, flat_map, range_with_len}
use Rattle.std.specs.List.Sorted.{IsStrictlySortedBy}
use Rattle.std.specs.declared.cmp.Ordering.{Ordering}
use Rattle.std.specs.declared.cmp.Ordering.TheVariants.{Less}
use Rattle.std.proofs.Common.{◌+◌, refl, sym, subst, get_or, inl, inr, arith}
use Rattle.fc_spec.proofs.words.Members.{Member, filter_member, each_member}
use Rattle.fc_spec.proofs.words.AlikeLists.{member_append, member_flat_map}

-- each has the relation to every later one
abbrev pub Differ : {X : Type 0} → (X → X → Type 0) → List X → Type 0
Differ D [] = Unit {0}
Differ D (x ∷ xs) = ((y : _) → Member y xs → D x y) × Differ D xs

pub differ_filter : {X : Type 0} (D : X → X → Type 0) (p : X → Bool) (xs : List X) → Differ D xs → Differ D (filter p xs)
differ_filter D p [] d = tt
differ_filter D p (x ∷ xs) d = go (p x) (differ_filter D p xs d.1)
  where
    go : (b : Bool) → Differ D (filter p xs) → Differ D (cond b (x ∷ filter p xs) (filter p xs))
    go true ih = (λ m i. d.0 m (filter_member p xs m i).0, ih)
    go false ih = ih

pub differ_append : {X : Type 0} (D : X → X → Type 0) (xs ys : List X) → Differ D xs → Differ D ys → ((x y : X) → Member x xs → Member y ys → D x y) → Differ D (xs ++ ys)
differ_append D [] ys a b h = b
differ_append D (x ∷ xs) ys a b h = (
  λ m i. elim (member_append xs ys m i) [ inl j ↦ a.0 m j | inr j ↦ h x m (inl refl) j ],
  differ_append D xs ys a.1 b (λ l m i j. h l m (inr i) j),
)

pub differ_flat_map : {X Y : Type 0} (E : X → X → Type 0) (D : Y → Y → Type 0) (f : X → List Y) (xs : List X) → Differ E xs → ((x : X) → Differ D (f x)) → ((x z : X) (a b : Y) → E x z → Member a (f x) → Member b (f z) → D a b) → Differ D (flat_map f xs)
differ_flat_map E D f [] d each cross = tt
differ_flat_map E D f (x ∷ xs) d each cross =
    differ_append D (f x) (flat_map f xs) (each x) (differ_flat_map E D f xs d.1 each cross) (λ a b i j. let r = member_flat_map f xs b j in cross x r.0 a b (d.0 r.0 r.1) i r.2)

-- under a function that keeps the relation between members
pub differ_map : {X Y : Type 0} (E : X → X → Type 0) (D : Y → Y → Type 0) (f : X → Y) (xs : List X) → ((x z : X) → Member x xs → Member z xs → E x z → D (f x) (f z)) → Differ E xs → Differ D (map f xs)
differ_map E D f [] h d = tt
differ_map E D f (x ∷ xs) h d = (behind xs (λ z m. h x z (inl refl) (inr m) (d.0 z m)), differ_map E D f xs (λ y z m n. h y z (inr m) (inr n)) d.1)
  where
    behind : (zs : List _) → ((z : _) → Member z zs → D (f x) (f z)) → (y : _) → Member y (map f zs) → D (f x) y
    behind [] k y m = absurd m
    behind (z ∷ zs) k y (inl e) = subst (D (f x)) (sym e) (k z (inl refl))
    behind (z ∷ zs) k y (inr m) = behind zs (λ w n. k w (inr n)) y m

pub differ_weaken : {X : Type 0} (E D : X → X → Type 0) (xs : List X) → ((x y : X) → E x y → D x y) → Differ E xs → Differ D xs
differ_weaken E D [] h d = tt
differ_weaken E D (x ∷ xs) h d = (λ y m. h x y (d.0 y m), differ_weaken E D xs h d.1)

-- sorted lists
pub differ_sorted : {X : Type 0} (cmp : X → X → Ordering) (xs : List X) → IsStrictlySortedBy cmp xs → Differ (λ x y. cmp x y ≡ Less) xs
unfolding IsStrictlySortedBy
differ_sorted cmp [] s = tt
differ_sorted cmp (x ∷ xs) s = (λ y m. each_member (λ z. cmp x z ≡ Less) xs y s.0 m, differ_sorted cmp xs s.1)

-- the numbers from one on
abbrev pub Other : ℕ → ℕ → Type 0
Other i j = i ≡ j → ⊥

pub from_start_on : (n from j : ℕ) → Member j (range_with_len from n) → from ≤ j
from_start_on zero from j m = absurd m
from_start_on (suc n) from j (inl e) = omega arith
from_start_on (suc n) from j (inr m) = let le = from_start_on n (from + 1) j m in omega arith

pub differ_range : (n from : ℕ) → Differ Other (range_with_len from n)
differ_range zero from = tt
differ_range (suc n) from = (λ j m e. let le = from_start_on n (from + 1) j m in absurd (omega arith), differ_range n (from + 1))

-- they rise
pub rising_range : (n from : ℕ) → Differ (λ i j. i < j) (range_with_len from n)
rising_range zero from = tt
rising_range (suc n) from = (λ j m. let le = from_start_on n (from + 1) j m in omega arith, rising_range n (from + 1))

-- the same at indices
member_at : {X : Type 0} (xs : List X) (j : ℕ) (d : X) → j < length xs → Member (get_or xs j d) xs
member_at [] j d h = absurd (omega arith)
member_at (x ∷ xs) zero d h = inl refl
member_at (x ∷ xs) (suc j) d h = inr (member_at xs j d (omega arith))

pub differ_pairs : {X : Type 0} (D : X → X → Type 0) (xs : List X) → Differ D xs → AllPairs D xs
differ_pairs D [] d i j x lt within = absurd (omega arith)
differ_pairs D (y ∷ ys) d i zero x lt within = absurd (omega arith)
differ_pairs D (y ∷ ys) d zero (suc j) x lt within = d.0 (get_or ys j x) (member_at ys j x (omega arith))
differ_pairs D (y ∷ ys) d (suc i) (suc j) x lt within = differ_pairs D ys d.1 i j x (omega arith) (omega arith)

-- and from indices
behind_first : {X : Type 0} (P : X → Type 0) (xs : List X) → ((k : ℕ) (d : X) → k < length xs → P (get_or xs k d)) → (y : X) → Member y xs → P y
behind_first P [] h y m = absurd m
behind_first P (x ∷ xs) h y (inl e) = subst P (sym e) (h 0 x (omega arith))
behind_first P (x ∷ xs) h y (inr m) = behind_first P xs (λ k d l. h (suc k) d (omega arith)) y m

pub pairs_differ : {X : Type 0} (D : X → X → Type 0) (xs : List X) → AllPairs D xs → Differ D xs
pairs_differ D [] p = tt
pairs_differ D (x ∷ xs) p = (behind_first (D x) xs (λ k d l. p 0 (suc k) d (omega arith) (omega arith)), pairs_differ D xs (λ i j d a b. p (suc i) (suc j) d (omega arith) (omega arith)))
