-- What is taken from the front of bytes.
use Rattle.std.proofs.Common.{◌≡◌, ℕ, suc, ◌+◌, ◌<◌, Bool, true, false, cond, List, [], ◌∷◌, ◌++◌, get_or, take, drop, Result, Ok, Err, refl, sym, ap, ◌∙◌, append_assoc, arith, inl, inr}
use Rattle.std.proofs.lemmas.Bool.{cases_lt}
use Rattle.std.proofs.lemmas.List.{length-take, get_or-drop, get_or-take, get_or_past}
use Rattle.fc_spec.specs.words.Walks.{◌>>=◌}
use Rattle.fc_wire.specs.FieldReading.{Read}

-- ---- steps that did not fail

abbrev pub done : {A : Type 0} → A → Result A (Unit {0})
done x = Ok x

pub bind_ok : {A B : Type 0} (r : Result A (Unit {0})) (f : A → Result B (Unit {0})) (y : B) → (r >>= f) ≡ Ok y → (x : A) × (r ≡ Ok x) × (f x ≡ Ok y)
bind_ok (Ok x) f y e = (x, refl, e)
bind_ok (Err d) f y e = absurd cc

pub guard_ok : {A : Type 0} (b : Bool) (x y : A) → cond b (Err tt) (done x) ≡ done y → (b ≡ false) × (x ≡ y)
guard_ok true x y e = absurd cc
guard_ok false x y e = (refl, cc)

pub guard_passed : {A : Type 0} (b : Bool) (x y : A) → cond b (done x) (Err tt) ≡ done y → (b ≡ true) × (x ≡ y)
guard_passed true x y e = (refl, cc)
guard_passed false x y e = absurd cc

pub ok_is : {A : Type 0} (x y : A) → done x ≡ done y → x ≡ y
ok_is x y e = cc

-- ---- bytes

abbrev pub AreBytes : List ℕ → Type 0
AreBytes bytes = (i : ℕ) → get_or bytes i 0 < 256

pub are_dropped : (n : ℕ) (bytes : List ℕ) → AreBytes bytes → AreBytes (drop n bytes)
are_dropped n bytes h i = rw get_or-drop (h (n + i))

pub are_taken : (n : ℕ) (bytes : List ℕ) → AreBytes bytes → AreBytes (take n bytes)
are_taken n bytes h i =
    elim (cases_lt i n) [
      | inl lt ↦ rw (get_or-take n bytes i 0 lt) (h i)
      | inr le ↦ rw (get_or_past (take n bytes) i 0 (omega (arith, length-take n bytes))) (omega arith)
    ]

pub are_behind : (b : ℕ) (bytes : List ℕ) → AreBytes (b ∷ bytes) → AreBytes bytes
are_behind b bytes h i = h (suc i)

-- what was taken from the front, and what is left
pub record Takes (bytes front rest : List ℕ) : Type 0 where
  pub parts : bytes ≡ front ++ rest
  pub rest_are : AreBytes rest

pub nothing_taken : (bytes : List ℕ) → AreBytes bytes → Takes bytes [] bytes
nothing_taken bytes are = record { parts = refl; rest_are = are }

pub takes_both : (a x b y c : List ℕ) → Takes a x b → Takes b y c → Takes a (x ++ y) c
takes_both a x b y c p q = record { parts = p.parts ∙ ap (λ t. x ++ t) q.parts ∙ sym (append_assoc x y c); rest_are = q.rest_are }

pub takes_behind : (b : ℕ) (bytes front rest : List ℕ) → Takes bytes front rest → Takes (b ∷ bytes) (b ∷ front) rest
takes_behind b bytes front rest t = record { parts = ap (λ l. b ∷ l) t.parts; rest_are = t.rest_are }

-- a reader takes what is spelled so
abbrev pub TakesBy : {A : Type 0} → (List ℕ → Read A) → (A → List ℕ) → (A → Type 0) → Type 0
TakesBy {A} one spell Fits = (bytes : List ℕ) (x : A × List ℕ) → AreBytes bytes → one bytes ≡ Ok x → Takes bytes (spell x.0) x.1 × Fits x.0

-- and what is spelled so is read
abbrev pub ReadsBy : {A : Type 0} → (List ℕ → Read A) → (A → List ℕ) → (A → Type 0) → Type 0
ReadsBy {A} one spell Fits = (a : A) (rest : List ℕ) → Fits a → one (spell a ++ rest) ≡ Ok (a, rest)
