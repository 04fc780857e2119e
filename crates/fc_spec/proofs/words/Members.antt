-- Members of lists, tests of them, and filters.
use Rattle.std.proofs.Common.{◌≡◌, ◌⊎◌, List, [], ◌∷◌, ◌++◌, map, Bool, true, false, cond, ◌||◌, ◌&&◌, refl, sym, ◌∙◌, ap, subst, inl, inr}
use Rattle.std.specs.List.{filter, list_any, flat_map, AllByRecursion}
use Rattle.std.proofs.lemmas.Bool.{false≢true, or_cases, or_left, or_right}
use Rattle.std.proofs.lemmas.List.Folds.{list_any-append}

-- x is a member of the list
abbrev pub Member : {X : Type 0} → X → List X → Type 0
Member x [] = ⊥
Member x (y ∷ ys) = (x ≡ y) ⊎ Member x ys

-- each member passes the test
abbrev pub Every : {X : Type 0} → (X → Bool) → List X → Type 0
Every p xs = AllByRecursion (λ x. p x ≡ true) xs

pub every_from_members : {X : Type 0} (p : X → Bool) (xs : List X) → ((x : X) → Member x xs → p x ≡ true) → Every p xs
every_from_members p [] h = tt
every_from_members p (x ∷ xs) h = (h x (inl refl), every_from_members p xs (λ y m. h y (inr m)))

-- the same of a fact about each
pub all_from_members : {X : Type 0} (P : X → Type 0) (xs : List X) → ((x : X) → Member x xs → P x) → AllByRecursion P xs
all_from_members P [] h = tt
all_from_members P (x ∷ xs) h = (h x (inl refl), all_from_members P xs (λ y m. h y (inr m)))

-- and back
pub each_member : {X : Type 0} (P : X → Type 0) (xs : List X) (x : X) → AllByRecursion P xs → Member x xs → P x
each_member P [] x all m = absurd m
each_member P (y ∷ ys) x all (inl e) = subst P (sym e) all.0
each_member P (y ∷ ys) x all (inr m) = each_member P ys x all.1 m

pub every_member : {X : Type 0} (p : X → Bool) (xs : List X) (x : X) → Every p xs → Member x xs → p x ≡ true
every_member p [] x e m = absurd m
every_member p (y ∷ ys) x e (inl h) = ap p h ∙ e.0
every_member p (y ∷ ys) x e (inr m) = every_member p ys x e.1 m

-- a member that passes, where some does
pub passing_member : {X : Type 0} (t : X → Bool) (xs : List X) → list_any t xs ≡ true → (x : X) × Member x xs × (t x ≡ true)
passing_member t [] h = absurd (false≢true h)
passing_member t (x ∷ xs) h = elim (or_cases (t x) (list_any t xs) h) [ inl e ↦ (x, inl refl, e) | inr e ↦ (let r = passing_member t xs e in (r.0, inr r.1, r.2)) ]

pub any_by_member : {X : Type 0} (t : X → Bool) (xs : List X) (x : X) → Member x xs → t x ≡ true → list_any t xs ≡ true
any_by_member t [] x m e = absurd m
any_by_member t (y ∷ ys) x (inl h) e = or_left (t y) (list_any t ys) (ap t (sym h) ∙ e)
any_by_member t (y ∷ ys) x (inr m) e = or_right (t y) (list_any t ys) (any_by_member t ys x m e)

filter_cons_member : {X : Type 0} (q : X → Bool) (y : X) (ys : List X) (x : X) (b : Bool) → q y ≡ b → (Member x (filter q ys) → Member x ys × (q x ≡ true)) → Member x (cond b (y ∷ filter q ys) (filter q ys)) → ((x ≡ y) ⊎ Member x ys) × (q x ≡ true)
filter_cons_member q y ys x true e ih (inl h) = (inl h, ap q h ∙ e)
filter_cons_member q y ys x true e ih (inr m) = let r = ih m in (inr r.0, r.1)
filter_cons_member q y ys x false e ih m = let r = ih m in (inr r.0, r.1)

-- a member of a filter is a member that passes
pub filter_member : {X : Type 0} (q : X → Bool) (xs : List X) (x : X) → Member x (filter q xs) → Member x xs × (q x ≡ true)
filter_member q [] x m = absurd m
filter_member q (y ∷ ys) x m = filter_cons_member q y ys x (q y) refl (filter_member q ys x) m

cons_into_filter : {X : Type 0} (q : X → Bool) (y : X) (ys : List X) (x : X) (b : Bool) → q y ≡ b → (Member x ys → Member x (filter q ys)) → ((x ≡ y) ⊎ Member x ys) → q x ≡ true → Member x (cond b (y ∷ filter q ys) (filter q ys))
cons_into_filter q y ys x true e ih (inl h) p = inl h
cons_into_filter q y ys x true e ih (inr m) p = inr (ih m)
cons_into_filter q y ys x false e ih (inl h) p = absurd (false≢true (sym e ∙ ap q (sym h) ∙ p))
cons_into_filter q y ys x false e ih (inr m) p = ih m

pub member_of_filter : {X : Type 0} (q : X → Bool) (xs : List X) (x : X) → Member x xs → q x ≡ true → Member x (filter q xs)
member_of_filter q [] x m p = m
member_of_filter q (y ∷ ys) x m p = cons_into_filter q y ys x (q y) refl (λ n. member_of_filter q ys x n p) m p

-- a filter that each member passes changes nothing
pub filter_every : {X : Type 0} (q : X → Bool) (xs : List X) → Every q xs → filter q xs ≡ xs
filter_every q [] e = refl
filter_every q (x ∷ xs) e = ap (λ b. cond b (x ∷ filter q xs) (filter q xs)) e.0 ∙ ap (λ ys. x ∷ ys) (filter_every q xs e.1)

-- what each member passes, each member of a filter passes
pub every_filter : {X : Type 0} (p q : X → Bool) (xs : List X) → Every p xs → Every p (filter q xs)
every_filter p q xs e = every_from_members p (filter q xs) (λ x m. every_member p xs x e (filter_member q xs x m).0)

-- each member of a filter passes it
pub every_own_filter : {X : Type 0} (q : X → Bool) (xs : List X) → Every q (filter q xs)
every_own_filter q xs = every_from_members q (filter q xs) (λ x m. (filter_member q xs x m).1)

-- two tests that agree where one of them is true
pub same_tests : (a b : Bool) → (a ≡ true → b ≡ true) → (b ≡ true → a ≡ true) → a ≡ b
same_tests true b h k = sym (h refl)
same_tests false true h k = k refl
same_tests false false h k = refl

pub or_swap : (a b c : Bool) → (a || (b || c)) ≡ (b || (a || c))
or_swap true true c = refl
or_swap true false c = refl
or_swap false b c = refl

-- whether some member of some list passes
pub list_any-flat_map : {X Y : Type 0} (t : Y → Bool) (f : X → List Y) (xs : List X) → list_any t (flat_map f xs) ≡ list_any (λ x. list_any t (f x)) xs
list_any-flat_map t f [] = refl
list_any-flat_map t f (x ∷ xs) = list_any-append t (f x) (flat_map f xs) ∙ ap (λ b. list_any t (f x) || b) (list_any-flat_map t f xs)

-- whether some member of a filter passes
pub list_any-filter : {X : Type 0} (t q : X → Bool) (xs : List X) → list_any t (filter q xs) ≡ list_any (λ x. q x && t x) xs
list_any-filter t q [] = refl
list_any-filter t q (x ∷ xs) = go (q x) (list_any-filter t q xs)
  where
    go : (b : Bool) → list_any t (filter q xs) ≡ list_any (λ x. q x && t x) xs → list_any t (cond b (x ∷ filter q xs) (filter q xs)) ≡ ((b && t x) || list_any (λ x. q x && t x) xs)
    go true h = ap (λ b. t x || b) h
    go false h = h

-- what the members of lists pass, those of the joined list pass
pub every_append : {X : Type 0} (p : X → Bool) (xs ys : List X) → Every p xs → Every p ys → Every p (xs ++ ys)
every_append p [] ys e f = f
every_append p (x ∷ xs) ys e f = (e.0, every_append p xs ys e.1 f)

pub every_flat_map : {X Y : Type 0} (p : Y → Bool) (f : X → List Y) (xs : List X) → ((x : X) → Every p (f x)) → Every p (flat_map f xs)
every_flat_map p f [] h = tt
every_flat_map p f (x ∷ xs) h = every_append p (f x) (flat_map f xs) (h x) (every_flat_map p f xs h)

-- what the images of the members pass, the members of the image pass
pub every_map : {X Y : Type 0} (p : Y → Bool) (f : X → Y) (xs : List X) → Every (λ x. p (f x)) xs → Every p (map f xs)
every_map p f [] e = tt
every_map p f (x ∷ xs) e = (e.0, every_map p f xs e.1)
