-- What a reader answers to one line more, by the lines before it alone.
use Rattle.std.proofs.Common.{◌≡◌, List, [], ◌∷◌, ◌++◌, Result, Ok, Err, sym, ap, subst}
use Rattle.fc_spec.specs.documents.Schema.{Schema}
use Rattle.fc_spec.specs.documents.Val.{Text}
use Rattle.fc_spec.specs.scripts.AskedScripts.{AskedLine}
use Rattle.fc_spec.specs.scripts.ScriptFault as fault
use Rattle.fc_spec.specs.scripts.ScriptReading.{check_last}
use Rattle.fc_spec.specs.scripts.ScriptTotals.{Limits}
use Rattle.fc_spec.specs.words.Walks.{◌>>=◌}
use Rattle.fc_script.specs.ReadSoFar.{ReadSoFar, with_asked}
use Rattle.fc_script.specs.ReadView.{HasRead, Holds}
use Rattle.fc_script.specs.declared.counts.documents.DocumentCounts.{DocumentCounts}
use Rattle.fc_script.specs.declared.gather.gathered.Gathered.{Gathered}
use Rattle.fc_script.specs.declared.script_reader.ScriptReader.{ScriptReader}

-- what was read, of a reader's own schema
abbrev pub so_far : Limits → ScriptReader → List AskedLine → ReadSoFar
so_far m r ls = record { limits = m; schema = r.schema; lines = ls }

-- with a line behind the others
abbrev pub pushed : ReadSoFar → AskedLine → ReadSoFar
pushed S l = record S { lines = S.lines ++ l ∷ [] }

-- so what holds of the lines holds of what was read
pub by_lines : (r : ScriptReader) (P : ReadSoFar → Type 0) → ((m : Limits) (ls : List AskedLine) → HasRead r (so_far m r ls) → P (so_far m r ls)) → (S : ReadSoFar) → HasRead r S → P S
by_lines r P holds S has = subst P same (holds S.limits S.lines (subst (HasRead r) (sym same) has))
  where
    same : so_far S.limits r S.lines ≡ S
    same = λ i. record { limits = S.limits; schema = has.schema i; lines = S.lines }

-- ---- answers

-- what the last of the lines counts is looked at
abbrev pub check : ReadSoFar → AskedLine → Result (Unit {0}) fault.LineFault
check S l = check_last S.limits S.schema (S.lines ++ l ∷ []) l

-- what a reader of these parts answers
abbrev HoldsOf : Schema → DocumentCounts → List Text → Gathered → Result ReadSoFar fault.LineFault → Type 0
HoldsOf s counts names g (Ok S) = Holds s counts names g S
HoldsOf s counts names g (Err f) = ⊥

-- a line is taken, where what it counts is within its limit
pub taken : (old : ScriptReader) (counts : DocumentCounts) (names : List Text) (g : Gathered) (l : AskedLine)
    → ((m : Limits) (ls : List AskedLine) → HasRead old (so_far m old ls) → (check (so_far m old ls) l ≡ Ok tt) × Holds old.schema counts names g (pushed (so_far m old ls) l))
    → (S : ReadSoFar) → HasRead old S → HoldsOf old.schema counts names g (with_asked S l)
taken old counts names g l step = by_lines old (λ S. HoldsOf old.schema counts names g (with_asked S l)) (λ m ls has.
    let both = step m ls has in
    subst (λ (v : Result (Unit {0}) fault.LineFault). HoldsOf old.schema counts names g (v >>= λ u. Ok (pushed (so_far m old ls) l))) (sym both.0) both.1)

-- and refused with the fault of that else
pub refused : (old : ScriptReader) (l : AskedLine) (f : fault.LineFault) → ((m : Limits) (ls : List AskedLine) → HasRead old (so_far m old ls) → check (so_far m old ls) l ≡ Err f)
    → (S : ReadSoFar) → HasRead old S → with_asked S l ≡ Err f
refused old l f step = by_lines old (λ S. with_asked S l ≡ Err f) (λ m ls has. ap (λ (v : Result (Unit {0}) fault.LineFault). v >>= λ u. Ok (pushed (so_far m old ls) l)) (step m ls has))
