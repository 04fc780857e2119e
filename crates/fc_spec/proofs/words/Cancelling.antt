-- Bytes that tell where they end.
use Rattle.std.specs.Prelude.{◌≡◌, ℕ, List, [], ◌∷◌, ◌++◌, length, take, drop}
use Rattle.std.specs.List.{flat_map, AllByRecursion}
use Rattle.std.proofs.Common.{refl, ap, sym, ◌∙◌, append_assoc}
use Rattle.std.proofs.lemmas.List.{take_at, drop_at}
use Rattle.std.proofs.lemmas.List.Concat.{flat_map-cons}

-- lists that are one and begin with the bytes of two things that fit: the things are one, and so is what follows
abbrev pub Cancels : {A : Type 0} → (A → List ℕ) → (A → Type 0) → Type 0
Cancels {A = A} bytes Fits = (a b : A) (x y : List ℕ) → Fits a → Fits b → bytes a ++ x ≡ bytes b ++ y → (a ≡ b) × (x ≡ y)

-- a reader takes from the front what was written there
abbrev pub Reads : {A : Type 0} → (List ℕ → A × List ℕ) → (A → List ℕ) → (A → Type 0) → Type 0
Reads {A = A} read bytes Fits = (a : A) (x : List ℕ) → Fits a → read (bytes a ++ x) ≡ (a, x)

-- what has a reader cancels
pub Cancels-from_reader : {A : Type 0} (read : List ℕ → A × List ℕ) (bytes : A → List ℕ) (Fits : A → Type 0) → Reads read bytes Fits → Cancels bytes Fits
Cancels-from_reader {A = A} read bytes Fits reads a b x y p q e =
    let both : read (bytes a ++ x) ≡ read (bytes b ++ y) = ap read e in
    let pairs = sym (reads a x p) ∙ (both ∙ reads b y q) in
    (ap (λ (t : A × List ℕ). t.0) pairs, ap (λ (t : A × List ℕ). t.1) pairs)

-- a reader of n bytes
abbrev pub read_fixed : {A : Type 0} → ℕ → (List ℕ → A) → List ℕ → A × List ℕ
read_fixed n decode l = (decode (take n l), drop n l)

-- it reads what has n bytes and is what they decode to
pub Reads-fixed : {A : Type 0} (n : ℕ) (decode : List ℕ → A) (bytes : A → List ℕ) (Fits : A → Type 0)
    → ((a : A) → length (bytes a) ≡ n) → ((a : A) → Fits a → decode (bytes a) ≡ a) → Reads (read_fixed n decode) bytes Fits
Reads-fixed n decode bytes Fits len again a x p = rw (take_at (bytes a) x n (len a), drop_at (bytes a) x n (len a), again a p) refl

-- the first parts of two lists of three
pub regroup : (a b s t x y : List ℕ) → (a ++ s) ++ x ≡ (b ++ t) ++ y → a ++ (s ++ x) ≡ b ++ (t ++ y)
regroup a b s t x y e = sym (append_assoc a s x) ∙ (e ∙ append_assoc b t y)

-- the bytes of two things in front of others
pub cancel_front : {A : Type 0} (bytes : A → List ℕ) (Fits : A → Type 0) → Cancels bytes Fits
    → (a b : A) (s t x y : List ℕ) → Fits a → Fits b → (bytes a ++ s) ++ x ≡ (bytes b ++ t) ++ y → (a ≡ b) × (s ++ x ≡ t ++ y)
cancel_front bytes Fits cancels a b s t x y p q e = cancels a b (s ++ x) (t ++ y) p q (regroup (bytes a) (bytes b) s t x y e)

-- the bytes of as many things
pub Cancels-flat_map : {A : Type 0} (bytes : A → List ℕ) (Fits : A → Type 0) → Cancels bytes Fits
    → (us vs : List A) (x y : List ℕ) → length us ≡ length vs → AllByRecursion Fits us → AllByRecursion Fits vs
    → flat_map bytes us ++ x ≡ flat_map bytes vs ++ y → (us ≡ vs) × (x ≡ y)
Cancels-flat_map bytes Fits cancels [] [] x y n p q e = (refl, e)
Cancels-flat_map bytes Fits cancels [] (b ∷ vs) x y n p q e = absurd cc
Cancels-flat_map bytes Fits cancels (a ∷ us) [] x y n p q e = absurd cc
Cancels-flat_map bytes Fits cancels (a ∷ us) (b ∷ vs) x y n p q e =
    let parts : (bytes a ++ flat_map bytes us) ++ x ≡ (bytes b ++ flat_map bytes vs) ++ y =
    ap (λ l. l ++ x) (sym (flat_map-cons bytes a us)) ∙ (e ∙ ap (λ l. l ++ y) (flat_map-cons bytes b vs)) in
    let first = cancel_front bytes Fits cancels a b (flat_map bytes us) (flat_map bytes vs) x y p.0 q.0 parts in
    let others = Cancels-flat_map bytes Fits cancels us vs x y (cc) p.1 q.1 first.1 in
    (cc, others.1)
