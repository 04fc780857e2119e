-- The same so many times: what is read is spelled so, and what is spelled so is read.
use Rattle.std.proofs.Common.{◌≡◌, ℕ, zero, suc, ◌^◌, ◌<◌, List, [], ◌∷◌, ◌++◌, length, Ok, refl, sym, ap, subst, ◌∙◌, append_assoc}
use Rattle.std.specs.List.{flat_map, AllByRecursion}
use Rattle.std.proofs.lemmas.List.Concat.{flat_map-cons}
use Rattle.fc_spec.specs.words.Walks.{◌>>=◌}
use Rattle.fc_spec.specs.messages.MessageBytes.{long_bytes}
use Rattle.fc_wire.specs.FieldReading.{Read, long_at, many, counted}
use Rattle.fc_wire.proofs.Taking.{bind_ok, ok_is, AreBytes, Takes, takes_both, TakesBy, ReadsBy}
use Rattle.fc_wire.proofs.NumberLaws.{long_takes}

many_takes : {A : Type 0} (one : List ℕ → Read A) (spell : A → List ℕ) (Fits : A → Type 0) → TakesBy one spell Fits
    → (n : ℕ) (bytes : List ℕ) (x : List A × List ℕ) → AreBytes bytes → many one n bytes ≡ Ok x → Takes bytes (flat_map spell x.0) x.1 × (length x.0 ≡ n) × AllByRecursion Fits x.0
unfolding many
many_takes {A} one spell Fits takes zero bytes x are e =
    subst (λ (y : List A × List ℕ). Takes bytes (flat_map spell y.0) y.1 × (length y.0 ≡ 0) × AllByRecursion Fits y.0) (ok_is ([], bytes) x e) (record { parts = refl; rest_are = are }, refl, tt)
many_takes {A} one spell Fits takes (suc n) bytes x are e =
    let a = bind_ok (one bytes) (λ first. many one n first.1 >>= λ others. Ok (first.0 ∷ others.0, others.1)) x e in
    let b = bind_ok (many one n a.0.1) (λ others. Ok (a.0.0 ∷ others.0, others.1)) x a.2 in
    let first = takes bytes a.0 are a.1 in
    let second = many_takes one spell Fits takes n a.0.1 b.0 first.0.rest_are b.1 in
    let both = takes_both bytes (spell a.0.0) a.0.1 (flat_map spell b.0.0) b.0.1 first.0 second.0 in
    let made : List A × List ℕ = (a.0.0 ∷ b.0.0, b.0.1) in
    subst (λ (y : List A × List ℕ). Takes bytes (flat_map spell y.0) y.1 × (length y.0 ≡ suc n) × AllByRecursion Fits y.0) (ok_is made x b.2) (rw flat_map-cons both, ap suc second.1, (first.1, second.2))

pub counted_takes : {A : Type 0} (one : List ℕ → Read A) (spell : A → List ℕ) (Fits : A → Type 0) → TakesBy one spell Fits
    → TakesBy (counted one) (λ xs. long_bytes (length xs) ++ flat_map spell xs) (λ xs. (length xs < 2 ^ 64) × AllByRecursion Fits xs)
unfolding counted
counted_takes one spell Fits takes bytes x are e =
    let a = bind_ok (long_at bytes) (λ n. many one n.0 n.1) x e in
    let number = long_takes bytes a.0 are a.1 in
    let items = many_takes one spell Fits takes a.0.0 a.0.1 x number.0.rest_are a.2 in
    let both = takes_both bytes (long_bytes a.0.0) a.0.1 (flat_map spell x.0) x.1 number.0 items.0 in
    (subst (λ n. Takes bytes (long_bytes n ++ flat_map spell x.0) x.1) (sym items.1) both, (subst (λ n. n < 2 ^ 64) (sym items.1) number.1, items.2))

pub many_again : {A : Type 0} (one : List ℕ → Read A) (spell : A → List ℕ) (Fits : A → Type 0) → ReadsBy one spell Fits
    → (xs : List A) (rest : List ℕ) → AllByRecursion Fits xs → many one (length xs) (flat_map spell xs ++ rest) ≡ Ok (xs, rest)
unfolding many
many_again one spell Fits reads [] rest fits = refl
many_again one spell Fits reads (x ∷ xs) rest fits =
    let regrouped : flat_map spell (x ∷ xs) ++ rest ≡ spell x ++ (flat_map spell xs ++ rest) = ap (λ l. l ++ rest) (flat_map-cons spell x xs) ∙ append_assoc (spell x) (flat_map spell xs) rest in
    ap (many one (suc (length xs))) regrouped ∙ rw (reads x (flat_map spell xs ++ rest) fits.0, many_again one spell Fits reads xs rest fits.1) refl
