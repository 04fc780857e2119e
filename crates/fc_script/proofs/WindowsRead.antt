-- The lines of a window, gathered one after another, and those behind it.
use Rattle.std.proofs.Common.{◌≡◌, ℕ, ◌+◌, ◌<◌, List, [], ◌∷◌, ◌++◌, length, drop, get_or, set, All, Result, Ok, Err, refl, sym, ◌∙◌, ap, subst, arith}
use Rattle.std.proofs.lemmas.List.{drop_more, drop-set-lt}
use Rattle.fc_spec.specs.words.Walks.{◌>>=◌}
use Rattle.fc_base.specs.declared.error.Refusal.{Refusal}
use Rattle.fc_base.specs.declared.error.Refusal.TheVariants as refusal
use Rattle.fc_spec.specs.scripts.ScriptFault as fault
use Rattle.fc_spec.specs.scripts.ScriptReading.{Numbered}
use Rattle.fc_spec.specs.scripts.ScriptTotals.{Limits}
use Rattle.fc_lines.specs.AskedLines.{asked_on}
use Rattle.fc_lines.specs.FaultView.{script_fault_view}
use Rattle.fc_lines.specs.declared.fault.ScriptFault.{ScriptFault}
use Rattle.fc_script.specs.Meets.{Meets}
use Rattle.fc_script.specs.ReadSoFar.{ReadSoFar, with_all, with_numbered, with_rest}
use Rattle.fc_script.specs.ReadView.{HasParts, HasRead}
use Rattle.fc_script.specs.declared.script_reader.ScriptReader.{ScriptReader}
use Rattle.fc_script.proofs.LinesRead.{ReadsOn, asked_limits}

-- a step that is refused
module _ {A V F G : Type 0} (Related : A → V → Type 0) (see : F → G) where
  refused_first : {B W : Type 0} (first : B → W → Type 0) (e : Refusal F) (d : Result W G) (next : W → Result V G) → Meets first see (Err e) d → Meets Related see (Err e) (d >>= next)
  refused_first first refusal.Memory d next answer = tt
  refused_first first (refusal.Fault f) d next answer = ap (λ (r : Result _ G). r >>= next) answer

-- ---- behind a window

-- what follows the lines of a window
step_append : (d : Result ReadSoFar fault.ScriptFault) (xs ys : List Numbered) → ((T : ReadSoFar) → with_rest T (xs ++ ys) ≡ (with_all T xs >>= λ U. with_rest U ys))
    → (d >>= λ T. with_rest T (xs ++ ys)) ≡ ((d >>= λ T. with_all T xs) >>= λ U. with_rest U ys)
step_append (Ok T) xs ys rest = rest T
step_append (Err f) xs ys rest = refl

with_rest-append : (xs ys : List Numbered) (S : ReadSoFar) → with_rest S (xs ++ ys) ≡ (with_all S xs >>= λ U. with_rest U ys)
with_rest-append [] ys S = refl
with_rest-append (x ∷ xs) ys S = step_append (with_numbered S x) xs ys (with_rest-append xs ys)

step_limits : (S U : ReadSoFar) (x : Numbered) (xs : List Numbered) (d : Result ReadSoFar fault.ScriptFault) → with_numbered S x ≡ d → ((T : ReadSoFar) → with_all T xs ≡ Ok U → U.limits ≡ T.limits) → (d >>= λ T. with_all T xs) ≡ Ok U → U.limits ≡ S.limits
step_limits S U x xs (Ok T) is rest all = rest T all ∙ asked_limits S T x.0 (asked_on S.schema x.1) is
step_limits S U x xs (Err f) is rest all = cc

all_limits : (xs : List Numbered) (U S : ReadSoFar) → with_all S xs ≡ Ok U → U.limits ≡ S.limits
all_limits [] U S is = let same : S ≡ U = cc in ap (λ (T : ReadSoFar). T.limits) (sym same)
all_limits (x ∷ xs) U S is = step_limits S U x xs (with_numbered S x) refl (all_limits xs U) is

pub window_on : (from : ReadSoFar) (all left : List Numbered) (before after : ScriptReader) (ws ls : List Numbered) → ReadsOn from all before left → left ≡ ws ++ ls
    → ((S : ReadSoFar) → HasRead before S → Meets HasRead script_fault_view (Ok after) (with_all S ws)) → ReadsOn from all after ls
window_on from all left before after ws ls reads first meets = go (with_all reads.now ws) refl (meets reads.now reads.has)
  where
    go : (d : Result ReadSoFar fault.ScriptFault) → with_all reads.now ws ≡ d → Meets HasRead script_fault_view (Ok after) d → ReadsOn from all after ls
    go (Ok T) is has = record {
      now = T;
      has = has;
      limits = all_limits ws T reads.now is ∙ reads.limits;
      same = reads.same ∙ ap (with_rest reads.now) first ∙ with_rest-append ws ls reads.now ∙ ap (λ (d : Result ReadSoFar fault.ScriptFault). d >>= λ now. with_rest now ls) is;
    }
    go (Err f) is has = absurd has

pub window_stops : (from : ReadSoFar) (all left : List Numbered) (before : ScriptReader) (e : Refusal ScriptFault) (ws ls : List Numbered) (limits : Limits) → ReadsOn from all before left → left ≡ ws ++ ls
    → ((S : ReadSoFar) → HasRead before S → Meets HasRead script_fault_view (Err e) (with_all S ws)) → Meets (HasParts limits) script_fault_view (Err e) (with_rest from all)
window_stops from all left before e ws ls limits reads first meets =
    subst (Meets (HasParts limits) script_fault_view (Err e)) (sym (reads.same ∙ ap (with_rest reads.now) first ∙ with_rest-append ws ls reads.now))
    (refused_first (HasParts limits) script_fault_view HasRead e (with_all reads.now ws) (λ now. with_rest now ls) (meets reads.now reads.has))

-- ---- in a window

-- a reader that holds the lines before those that are left of it
pub record GoesOn (from : ReadSoFar) (all : List Numbered) (r : ScriptReader) (left : List Numbered) : Type 0 where
  pub now : ReadSoFar
  pub has : HasRead r now
  pub same : with_all from all ≡ with_all now left

pub goes_on : (from : ReadSoFar) (all left : List Numbered) (before after : ScriptReader) (l : Numbered) (ls : List Numbered) → GoesOn from all before left → left ≡ l ∷ ls
    → ((S : ReadSoFar) → HasRead before S → Meets HasRead script_fault_view (Ok after) (with_numbered S l)) → GoesOn from all after ls
goes_on from all left before after l ls goes first meets = go (with_numbered goes.now l) refl (meets goes.now goes.has)
  where
    go : (d : Result ReadSoFar fault.ScriptFault) → with_numbered goes.now l ≡ d → Meets HasRead script_fault_view (Ok after) d → GoesOn from all after ls
    go (Ok T) is has = record { now = T; has = has; same = goes.same ∙ ap (with_all goes.now) first ∙ ap (λ (d : Result ReadSoFar fault.ScriptFault). d >>= λ now. with_all now ls) is }
    go (Err f) is has = absurd has

pub goes_wrong : (from : ReadSoFar) (all left : List Numbered) (before : ScriptReader) (e : Refusal ScriptFault) (l : Numbered) (ls : List Numbered) → GoesOn from all before left → left ≡ l ∷ ls
    → ((S : ReadSoFar) → HasRead before S → Meets HasRead script_fault_view (Err e) (with_numbered S l)) → Meets HasRead script_fault_view (Err e) (with_all from all)
goes_wrong from all left before e l ls goes first meets =
    subst (Meets HasRead script_fault_view (Err e)) (sym (goes.same ∙ ap (with_all goes.now) first))
    (refused_first HasRead script_fault_view HasRead e (with_numbered goes.now l) (λ now. with_all now ls) (meets goes.now goes.has))

pub went : (from : ReadSoFar) (all left : List Numbered) (r : ScriptReader) → GoesOn from all r left → left ≡ [] → Meets HasRead script_fault_view (Ok r) (with_all from all)
went from all left r goes none = subst (Meets HasRead script_fault_view (Ok r)) (sym (goes.same ∙ ap (with_all goes.now) none)) goes.has

-- ---- lists

pub first_of_all : {X : Type 0} (P : X → Type 0) (x : X) (xs ys : List X) → ys ≡ x ∷ xs → All P ys → P x
first_of_all P x xs ys is all = let here : All P (x ∷ xs) = subst (All P) is all in here 0 x (omega arith)

-- those from place i on, where the item at it is written
pub next_left : {X : Type 0} (xs : List X) (i : ℕ) (d new : X) → i < length xs → drop i xs ≡ get_or xs i d ∷ drop (i + 1) (set xs i new)
next_left xs i d new below = drop_more xs i d below ∙ ap (λ ys. get_or xs i d ∷ ys) (sym (drop-set-lt (i + 1) xs i new (omega arith)))
