-- Keys that are read are spelled so, and keys that are spelled so are read.
use Rattle.std.proofs.Common.{◌≡◌, ℕ, zero, suc, ◌^◌, ◌<◌, ◌≤◌, Bool, true, false, cond, ltb, List, [], ◌∷◌, ◌++◌, length, take, drop, Ok, Err, refl, sym, ap, subst, ◌∙◌, append_assoc, arith}
use Rattle.std.specs.Int.{w32, to_le_bytes}
use Rattle.std.specs.Str.{is_utf8}
use Rattle.std.proofs.lemmas.Bool.{ltb-false, le-ltb}
use Rattle.std.proofs.lemmas.List.{take_at, drop_at, take-append-drop, length-append, length-take}
use Rattle.fc_spec.specs.documents.Val.{Text, text, long}
use Rattle.fc_spec.specs.requests.Buckets.{Key, value, missing, gap, before, between, after, whole}
use Rattle.fc_spec.specs.messages.MessageBytes.{long_bytes, integer_bytes, key_bytes}
use Rattle.fc_wire.specs.Fitting.{KeyFits}
use Rattle.fc_wire.specs.FieldReading.{number_at, long_at, integer_at, text_at, key_at}
use Rattle.fc_wire.proofs.Taking.{done, bind_ok, ok_is, are_dropped, are_behind, Takes, takes_both, takes_behind, nothing_taken, TakesBy, ReadsBy}
use Rattle.fc_wire.proofs.NumberLaws.{wide32, number_takes, number_again, long_takes, long_again, integer_takes, integer_again}

abbrev text_bytes : Text → List ℕ
text_bytes t = long_bytes (length t) ++ t

abbrev TextFits : Text → Type 0
TextFits t = (length t < 2 ^ 64) × (is_utf8 t ≡ true)

utf8_passed : (b c : Bool) (x y : Text × List ℕ) → cond b (Err tt) (cond c (done x) (Err tt)) ≡ done y → (b ≡ false) × (c ≡ true) × (x ≡ y)
utf8_passed true c x y e = absurd cc
utf8_passed false true x y e = (refl, refl, cc)
utf8_passed false false x y e = absurd cc

text_takes : TakesBy text_at text_bytes TextFits
unfolding text_at
text_takes bytes x are e =
    let a = bind_ok (long_at bytes) (λ n. cond (ltb (length n.1) n.0) (Err tt) (cond (is_utf8 (take n.0 n.1)) (Ok (take n.0 n.1, drop n.0 n.1)) (Err tt))) x e in
    let n = a.0 in
    let t = long_takes bytes n are a.1 in
    let g = utf8_passed (ltb (length n.1) n.0) (is_utf8 (take n.0 n.1)) (take n.0 n.1, drop n.0 n.1) x a.2 in
    let long : n.0 ≤ length n.1 = ltb-false _ _ g.0 in
    let len : length (take n.0 n.1) ≡ n.0 = omega (arith, length-take n.0 n.1) in
    let second : Takes n.1 (take n.0 n.1) (drop n.0 n.1) = record { parts = sym (take-append-drop n.0 n.1); rest_are = are_dropped n.0 n.1 t.0.rest_are } in
    let both = takes_both bytes (long_bytes n.0) n.1 (take n.0 n.1) (drop n.0 n.1) t.0 second in
    let own : Takes bytes (text_bytes (take n.0 n.1)) (drop n.0 n.1) = subst (λ k. Takes bytes (long_bytes k ++ take n.0 n.1) (drop n.0 n.1)) (sym len) both in
    let below : length (take n.0 n.1) < 2 ^ 64 = subst (λ k. k < 2 ^ 64) (sym len) t.1 in
    subst (λ (y : Text × List ℕ). Takes bytes (text_bytes y.0) y.1 × TextFits y.0) g.2 (own, (below, g.1))

text_again : ReadsBy text_at text_bytes TextFits
unfolding text_at
text_again t rest fits =
    let long : ltb (length (t ++ rest)) (length t) ≡ false = le-ltb _ _ (omega (arith, length-append t rest)) in
    ap text_at (append_assoc (long_bytes (length t)) t rest) ∙ rw (long_again (length t) (t ++ rest) fits.0, long, take_at t rest (length t) refl, drop_at t rest (length t) refl, fits.1) refl

-- behind a first byte something is made of what was taken
made_of : (b : ℕ) (bytes front : List ℕ) (rest : List ℕ) (x : Key × List ℕ) (k : Key) → done (k, rest) ≡ done x → key_bytes k ≡ b ∷ front → Takes bytes front rest → KeyFits k → Takes (b ∷ bytes) (key_bytes x.0) x.1 × KeyFits x.0
made_of b bytes front rest x k e spelled takes fits = subst (λ (y : Key × List ℕ). Takes (b ∷ bytes) (key_bytes y.0) y.1 × KeyFits y.0) (ok_is (k, rest) x e) (subst (λ l. Takes (b ∷ bytes) l rest) (sym spelled) (takes_behind b bytes front rest takes), fits)

pub key_takes : TakesBy key_at key_bytes KeyFits
unfolding key_at
key_takes [] x are e = absurd cc
key_takes (zero ∷ bytes) x are e =
    let a = bind_ok (text_at bytes) (λ t. Ok (value (text t.0), t.1)) x e in
    let t = text_takes bytes a.0 (are_behind 0 bytes are) a.1 in
    made_of 0 bytes (text_bytes a.0.0) a.0.1 x (value (text a.0.0)) a.2 refl t.0 t.1
key_takes (suc zero ∷ bytes) x are e =
    let a = bind_ok (integer_at bytes) (λ z. Ok (value (long z.0), z.1)) x e in
    let t = integer_takes bytes a.0 (are_behind 1 bytes are) a.1 in
    made_of 1 bytes (integer_bytes a.0.0) a.0.1 x (value (long a.0.0)) a.2 refl t.0 (t.1, refl)
key_takes (suc (suc zero) ∷ bytes) x are e = made_of 2 bytes [] bytes x missing e refl (nothing_taken bytes (are_behind 2 bytes are)) (tt, refl)
key_takes (suc (suc (suc zero)) ∷ bytes) x are e =
    let a = bind_ok (number_at w32 bytes) (λ n. Ok (gap n.0, n.1)) x e in
    let t = number_takes w32 (2 ^ 32) wide32 bytes a.0 (are_behind 3 bytes are) a.1 in
    made_of 3 bytes (to_le_bytes w32 a.0.0) a.0.1 x (gap a.0.0) a.2 refl t.0 (t.1, refl)
key_takes (suc (suc (suc (suc zero))) ∷ bytes) x are e = made_of 4 bytes [] bytes x before e refl (nothing_taken bytes (are_behind 4 bytes are)) (tt, refl)
key_takes (suc (suc (suc (suc (suc zero)))) ∷ bytes) x are e = made_of 5 bytes [] bytes x between e refl (nothing_taken bytes (are_behind 5 bytes are)) (tt, refl)
key_takes (suc (suc (suc (suc (suc (suc zero))))) ∷ bytes) x are e = made_of 6 bytes [] bytes x after e refl (nothing_taken bytes (are_behind 6 bytes are)) (tt, refl)
key_takes (suc (suc (suc (suc (suc (suc (suc zero)))))) ∷ bytes) x are e = made_of 7 bytes [] bytes x whole e refl (nothing_taken bytes (are_behind 7 bytes are)) (tt, refl)
key_takes (suc (suc (suc (suc (suc (suc (suc (suc b))))))) ∷ bytes) x are e = absurd cc

pub key_again : ReadsBy key_at key_bytes KeyFits
unfolding key_at
key_again (value (text t)) rest fits = rw (text_again t rest fits) refl
key_again (value (long z)) rest fits = rw (integer_again z rest fits.0) refl
key_again missing rest fits = refl
key_again (gap i) rest fits = rw (number_again w32 (2 ^ 32) wide32 i rest fits.0) refl
key_again before rest fits = refl
key_again between rest fits = refl
key_again after rest fits = refl
key_again whole rest fits = refl
