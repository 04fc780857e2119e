-- The lines of a script, read one after another.
use Rattle.std.proofs.Common.{◌≡◌, ℕ, List, [], ◌∷◌, ◌++◌, Result, Ok, Err, refl, sym, ◌∙◌, ap}
use Rattle.fc_spec.specs.words.Walks.{◌>>=◌}
use Rattle.fc_spec.specs.scripts.ScriptFault as fault
use Rattle.fc_lines.specs.FaultView.{script_fault_view}
use Rattle.fc_spec.specs.documents.Val.{Text}
use Rattle.fc_spec.specs.scripts.AskedScripts.{AskedLine}
use Rattle.fc_spec.specs.scripts.ScriptReading.{Numbered, at_line, check_last}
use Rattle.fc_lines.specs.AskedLines.{asked_on}
use Rattle.fc_script.specs.Meets.{Meets}
use Rattle.fc_script.specs.ReadSoFar.{ReadSoFar, with_asked, with_numbered, with_rest}
use Rattle.fc_script.specs.ReadView.{HasRead}
use Rattle.fc_script.specs.declared.script_reader.ScriptReader.{ScriptReader}

-- a reader that holds the lines before those that are left
pub record ReadsOn (from : ReadSoFar) (all : List Numbered) (r : ScriptReader) (left : List Numbered) : Type 0 where
  pub now : ReadSoFar
  pub has : HasRead r now
  pub limits : now.limits ≡ from.limits
  pub same : with_rest from all ≡ with_rest now left

-- a line leaves the limits as they are
checked_limits : (S T : ReadSoFar) (l : AskedLine) (n : ℕ) (c : Result (Unit {0}) fault.LineFault) → at_line n (c >>= λ u. Ok (record S { lines = S.lines ++ l ∷ [] })) ≡ Ok T → T.limits ≡ S.limits
checked_limits S T l n (Ok u) is = let same : record S { lines = S.lines ++ l ∷ [] } ≡ T = cc in ap (λ (T : ReadSoFar). T.limits) (sym same)
checked_limits S T l n (Err f) is = cc

pub asked_limits : (S T : ReadSoFar) (n : ℕ) (r : Result AskedLine fault.LineFault) → at_line n (r >>= with_asked S) ≡ Ok T → T.limits ≡ S.limits
asked_limits S T n (Ok l) is = checked_limits S T l n (check_last S.limits S.schema (S.lines ++ l ∷ []) l) is
asked_limits S T n (Err f) is = cc

-- with the next of them
pub reads_on : (from : ReadSoFar) (all left : List Numbered) (before after : ScriptReader) (n : ℕ) (t : Text) (ls : List Numbered) → ReadsOn from all before left → left ≡ (n, t) ∷ ls
    → ((S : ReadSoFar) → HasRead before S → Meets HasRead script_fault_view (Ok after) (with_numbered S (n, t))) → ReadsOn from all after ls
reads_on from all left before after n t ls reads first meets = go (with_numbered reads.now (n, t)) refl (meets reads.now reads.has)
  where
    go : (d : Result ReadSoFar fault.ScriptFault) → with_numbered reads.now (n, t) ≡ d → Meets HasRead script_fault_view (Ok after) d → ReadsOn from all after ls
    go (Ok T) is has = record {
      now = T;
      has = has;
      limits = asked_limits reads.now T n (asked_on reads.now.schema t) is ∙ reads.limits;
      same = reads.same ∙ ap (with_rest reads.now) first ∙ ap (λ (d : Result ReadSoFar fault.ScriptFault). d >>= λ now. with_rest now ls) is;
    }
    go (Err f) is has = absurd has
