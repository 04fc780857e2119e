-- Reading the same so many times, as a loop does.
use Rattle.std.proofs.Common.{◌≡◌, ℕ, suc, ◌-◌, ◌+◌, ◌≤◌, ◌<◌, List, [], ◌∷◌, ◌++◌, Ok, Err, refl, sym, ap, ◌∙◌, append_assoc, arith}
use Rattle.std.proofs.lemmas.List.{append-nil}
use Rattle.fc_spec.specs.words.Walks.{◌>>=◌}
use Rattle.fc_base.specs.Answers.{Answers, one_fault}
use Rattle.fc_base.specs.declared.error.Refusal.{Refusal}
use Rattle.fc_base.specs.declared.error.Refusal.TheVariants.{Memory, Fault}
use Rattle.fc_wire.specs.declared.fault.WireFault.{WireFault}
use Rattle.fc_wire.specs.FieldReading.{Read, many}

-- what was read before, and what is still read
abbrev pub with_front : {A : Type 0} → List A → Read (List A) → Read (List A)
with_front front read = read >>= λ x. Ok (front ++ x.0, x.1)

regroup : {A : Type 0} (front : List A) (a : A) (read : Read (List A)) → with_front front (read >>= λ x. Ok (a ∷ x.0, x.1)) ≡ with_front (front ++ a ∷ []) read
regroup {A} front a (Ok x) = ap (λ (as' : List A). Ok (as', x.1)) (sym (append_assoc front (a ∷ []) x.0))
regroup front a (Err f) = refl

pub goes_on : {A : Type 0} (one : List ℕ → Read A) (front : List A) (count i : ℕ) (bytes : List ℕ) (a : A) (after : List ℕ) (total : Read (List A)) → i < count → one bytes ≡ Ok (a, after)
    → with_front front (many one (count - i) bytes) ≡ total → with_front (front ++ a ∷ []) (many one (count - (i + 1)) after) ≡ total
unfolding many
goes_on one front count i bytes a after total lt h so_far =
    let k : count - i ≡ suc (count - (i + 1)) = omega arith in
    let step : with_front front (many one (count - i) bytes) ≡ with_front (front ++ a ∷ []) (many one (count - (i + 1)) after) = rw (k, h) (regroup front a (many one (count - (i + 1)) after)) in
    sym step ∙ so_far

pub ends : {A X Y : Type 0} (one : List ℕ → Read A) (x : X → A × List ℕ) (y : Y → List A × List ℕ) (e : Refusal WireFault) (front : List A) (count i : ℕ) (bytes : List ℕ) (total : Read (List A)) → i < count → Answers x one_fault (Err e) (one bytes)
    → with_front front (many one (count - i) bytes) ≡ total → Answers y one_fault (Err e) total
unfolding many
ends one x y Memory front count i bytes total lt h so_far = tt
ends one x y (Fault f) front count i bytes total lt h so_far =
    let k : count - i ≡ suc (count - (i + 1)) = omega arith in
    let step : with_front front (many one (count - i) bytes) ≡ Err tt = rw (k, h) refl in
    sym so_far ∙ step

pub is_done : {A : Type 0} (one : List ℕ → Read A) (front : List A) (count i : ℕ) (bytes : List ℕ) (total : Read (List A)) → count ≤ i → with_front front (many one (count - i) bytes) ≡ total → total ≡ Ok (front, bytes)
unfolding many
is_done {A} one front count i bytes total le so_far =
    let k : count - i ≡ 0 = omega arith in
    let step : with_front front (many one (count - i) bytes) ≡ Ok (front, bytes) = rw k (ap (λ (as' : List A). Ok (as', bytes)) (append-nil front)) in
    sym so_far ∙ step
