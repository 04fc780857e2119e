-- The image of a list, and filters, tests and counts over it.
use Rattle.std.proofs.Common.{◌≡◌, List, [], ◌∷◌, map, Bool, true, false, cond, ◌||◌, refl, ◌∙◌, ap}
use Rattle.std.specs.Prelude.{count_by}
use Rattle.std.specs.List.{filter, list_any}
use Rattle.fc_spec.proofs.words.Members.{Every}
use Rattle.fc_spec.proofs.words.Counting.{count_by-cons}

-- functions that agree
pub map-same : {X Y : Type 0} (f g : X → Y) (xs : List X) → ((x : X) → f x ≡ g x) → map f xs ≡ map g xs
map-same f g [] same = refl
map-same f g (x ∷ xs) same = λ i. same x i ∷ map-same f g xs same i

-- a filter of an image is the image of a filter, where the tests agree at each member
pub filter-map : {X Y : Type 0} (f : X → Y) (known : X → Bool) (t : Y → Bool) (s : X → Bool) (xs : List X)
    → ((x : X) → known x ≡ true → t (f x) ≡ s x) → Every known xs → filter t (map f xs) ≡ map f (filter s xs)
filter-map f known t s [] same e = refl
filter-map f known t s (x ∷ xs) same e =
    ap (λ b. cond b (f x ∷ filter t (map f xs)) (filter t (map f xs))) (same x e.0) ∙ go (s x) (filter-map f known t s xs same e.1)
  where
    go : (b : Bool) → filter t (map f xs) ≡ map f (filter s xs) → cond b (f x ∷ filter t (map f xs)) (filter t (map f xs)) ≡ map f (cond b (x ∷ filter s xs) (filter s xs))
    go true h = ap (λ ys. f x ∷ ys) h
    go false h = h

-- some member of an image passes where some member does, where the tests agree at each
pub list_any-map : {X Y : Type 0} (f : X → Y) (known : X → Bool) (t : Y → Bool) (s : X → Bool) (xs : List X)
    → ((x : X) → known x ≡ true → t (f x) ≡ s x) → Every known xs → list_any t (map f xs) ≡ list_any s xs
list_any-map f known t s [] same e = refl
list_any-map f known t s (x ∷ xs) same e = λ i. same x e.0 i || list_any-map f known t s xs same e.1 i

-- a member of an image is counted where the member that it is made of is
pub count_by-map : {X Y : Type 0} (f : X → Y) (t : Y → Bool) (xs : List X) → count_by t (map f xs) ≡ count_by (λ x. t (f x)) xs
count_by-map f t [] = refl
count_by-map f t (x ∷ xs) = count_by-cons t (f x) (map f xs) ∙ rw (count_by-map f t xs, count_by-cons) refl
