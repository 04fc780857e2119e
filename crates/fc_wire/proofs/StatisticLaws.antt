-- Statistics that are read are spelled so, and statistics that are spelled so are read.
use Rattle.std.proofs.Common.{◌≡◌, ℕ, zero, suc, List, [], ◌∷◌, ◌++◌, length, None, Some, Ok, refl, sym, ap, subst, ◌∙◌, append_assoc}
use Rattle.std.specs.List.{flat_map}
use Rattle.fc_spec.specs.words.Walks.{◌>>=◌}
use Rattle.fc_spec.specs.requests.Statistics.{StatValue, number, extreme, Stats}
use Rattle.fc_spec.specs.messages.MessageBytes.{long_bytes, integer_bytes, value_bytes, stats_bytes}
use Rattle.fc_spec.specs.laws.SpellingLaw.{FitsValue, FitsStats}
use Rattle.fc_wire.specs.FieldReading.{long_at, integer_at, counted, value_at, stats_at}
use Rattle.fc_wire.proofs.Taking.{done, bind_ok, ok_is, are_behind, Takes, takes_both, takes_behind, nothing_taken, TakesBy, ReadsBy}
use Rattle.fc_wire.proofs.NumberLaws.{long_takes, long_again, integer_takes, integer_again}
use Rattle.fc_wire.proofs.ManyLaws.{counted_takes, many_again}

value_made : (b : ℕ) (bytes front : List ℕ) (rest : List ℕ) (x : StatValue × List ℕ) (v : StatValue) → done (v, rest) ≡ done x → value_bytes v ≡ b ∷ front → Takes bytes front rest → FitsValue v → Takes (b ∷ bytes) (value_bytes x.0) x.1 × FitsValue x.0
value_made b bytes front rest x v e spelled takes fits = subst (λ (y : StatValue × List ℕ). Takes (b ∷ bytes) (value_bytes y.0) y.1 × FitsValue y.0) (ok_is (v, rest) x e) (subst (λ l. Takes (b ∷ bytes) l rest) (sym spelled) (takes_behind b bytes front rest takes), fits)

value_takes : TakesBy value_at value_bytes FitsValue
unfolding value_at
value_takes [] x are e = absurd cc
value_takes (zero ∷ bytes) x are e =
    let a = bind_ok (integer_at bytes) (λ z. Ok (number z.0, z.1)) x e in
    let t = integer_takes bytes a.0 (are_behind 0 bytes are) a.1 in
    value_made 0 bytes (integer_bytes a.0.0) a.0.1 x (number a.0.0) a.2 refl t.0 t.1
value_takes (suc zero ∷ bytes) x are e = value_made 1 bytes [] bytes x (extreme None) e refl (nothing_taken bytes (are_behind 1 bytes are)) tt
value_takes (suc (suc zero) ∷ bytes) x are e =
    let a = bind_ok (integer_at bytes) (λ z. Ok (extreme (Some z.0), z.1)) x e in
    let t = integer_takes bytes a.0 (are_behind 2 bytes are) a.1 in
    value_made 2 bytes (integer_bytes a.0.0) a.0.1 x (extreme (Some a.0.0)) a.2 refl t.0 t.1
value_takes (suc (suc (suc b)) ∷ bytes) x are e = absurd cc

value_again : ReadsBy value_at value_bytes FitsValue
unfolding value_at
value_again (number z) rest fits = rw (integer_again z rest fits) refl
value_again (extreme None) rest fits = refl
value_again (extreme (Some z)) rest fits = rw (integer_again z rest fits) refl

pub stats_takes : TakesBy stats_at stats_bytes FitsStats
unfolding stats_at
stats_takes bytes x are e =
    let a = bind_ok (long_at bytes) (λ count. counted value_at count.1 >>= λ values. Ok (record { count = count.0; values = values.0 }, values.1)) x e in
    let b = bind_ok (counted value_at a.0.1) (λ values. Ok (record { count = a.0.0; values = values.0 }, values.1)) x a.2 in
    let count = long_takes bytes a.0 are a.1 in
    let values = counted_takes value_at value_bytes FitsValue value_takes a.0.1 b.0 count.0.rest_are b.1 in
    let both = takes_both bytes (long_bytes a.0.0) a.0.1 (long_bytes (length b.0.0) ++ flat_map value_bytes b.0.0) b.0.1 count.0 values.0 in
    let made : Stats × List ℕ = (record { count = a.0.0; values = b.0.0 }, b.0.1) in
    subst (λ (y : Stats × List ℕ). Takes bytes (stats_bytes y.0) y.1 × FitsStats y.0) (ok_is made x b.2) (both, (count.1, values.1.0, values.1.1))

pub stats_again : ReadsBy stats_at stats_bytes FitsStats
unfolding stats_at counted
stats_again s rest fits =
    let behind = flat_map value_bytes s.values ++ rest in
    let regrouped : stats_bytes s ++ rest ≡ long_bytes s.count ++ (long_bytes (length s.values) ++ behind) = append_assoc (long_bytes s.count) (long_bytes (length s.values) ++ flat_map value_bytes s.values) rest ∙ ap (λ l. long_bytes s.count ++ l) (append_assoc (long_bytes (length s.values)) (flat_map value_bytes s.values) rest) in
    ap stats_at regrouped ∙ rw (long_again s.count (long_bytes (length s.values) ++ behind) fits.0, long_again (length s.values) behind fits.1, many_again value_at value_bytes FitsValue value_again s.values rest fits.2) refl
