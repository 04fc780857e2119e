-- Lists made by functions that agree on the members.
use Rattle.std.proofs.Common.{◌≡◌, ◌⊎◌, ℕ, suc, ◌+◌, List, [], ◌∷◌, ◌++◌, map, Bool, cond, Some, refl, inl, inr, arith}
use Rattle.std.specs.List.{filter, flat_map, enumerate_from, slice_get}
use Rattle.fc_spec.proofs.words.Members.{Member}

pub flat_map_alike : {X Y : Type 0} (f g : X → List Y) (xs : List X) → ((x : X) → Member x xs → f x ≡ g x) → flat_map f xs ≡ flat_map g xs
flat_map_alike f g [] h = refl
flat_map_alike f g (x ∷ xs) h = λ i. h x (inl refl) i ++ flat_map_alike f g xs (λ y m. h y (inr m)) i

pub map_alike : {X Y : Type 0} (f g : X → Y) (xs : List X) → ((x : X) → Member x xs → f x ≡ g x) → map f xs ≡ map g xs
map_alike f g [] h = refl
map_alike f g (x ∷ xs) h = λ i. h x (inl refl) i ∷ map_alike f g xs (λ y m. h y (inr m)) i

pub filter_alike_members : {X : Type 0} (p q : X → Bool) (xs : List X) → ((x : X) → Member x xs → p x ≡ q x) → filter p xs ≡ filter q xs
filter_alike_members p q [] h = refl
filter_alike_members p q (x ∷ xs) h = λ i. cond (h x (inl refl) i) (x ∷ filter_alike_members p q xs (λ y m. h y (inr m)) i) (filter_alike_members p q xs (λ y m. h y (inr m)) i)

-- numbered items, at each of which two functions agree
pub map_numbered_alike : {X Y : Type 0} (f g : ℕ × X → Y) (n : ℕ) (xs : List X) → ((k m : ℕ) (x : X) → k ≡ n + m → slice_get xs m ≡ Some x → f (k, x) ≡ g (k, x)) → map f (enumerate_from n xs) ≡ map g (enumerate_from n xs)
map_numbered_alike f g n [] h = refl
map_numbered_alike f g n (x ∷ xs) h = λ i. h n 0 x (omega arith) refl i ∷ map_numbered_alike f g (n + 1) xs (λ k m y e at. h k (suc m) y (omega arith) at) i

-- a member of a joined list is a member of one of the lists
pub member_append : {X : Type 0} (xs ys : List X) (x : X) → Member x (xs ++ ys) → Member x xs ⊎ Member x ys
member_append [] ys x m = inr m
member_append (z ∷ zs) ys x (inl e) = inl (inl e)
member_append (z ∷ zs) ys x (inr m) = elim (member_append zs ys x m) [ inl a ↦ inl (inr a) | inr b ↦ inr b ]

pub member_map : {X Y : Type 0} (f : X → Y) (xs : List X) (y : Y) → Member y (map f xs) → (x : X) × Member x xs × (y ≡ f x)
member_map f [] y m = absurd m
member_map f (x ∷ xs) y (inl e) = (x, inl refl, e)
member_map f (x ∷ xs) y (inr m) = let r = member_map f xs y m in (r.0, inr r.1, r.2)

pub member_flat_map : {X Y : Type 0} (f : X → List Y) (xs : List X) (y : Y) → Member y (flat_map f xs) → (x : X) × Member x xs × Member y (f x)
member_flat_map f [] y m = absurd m
member_flat_map f (x ∷ xs) y m = elim (member_append (f x) (flat_map f xs) y m) [ inl a ↦ (x, inl refl, a) | inr b ↦ (let r = member_flat_map f xs y b in (r.0, inr r.1, r.2)) ]
