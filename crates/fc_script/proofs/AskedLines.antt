-- The search of a line that was read asks a request that is valid, or has a fault.
use Rattle.std.proofs.Common.{◌≡◌, IfOk, Result, Ok, Err, refl, subst}
use Rattle.serde_json.specs.Data.{Data}
use Rattle.fc_spec.specs.documents.Schema.{Schema}
use Rattle.fc_spec.specs.documents.Val.{Text}
use Rattle.fc_spec.specs.laws.RequestLaws.{AsksValid}
use Rattle.fc_spec.specs.requests.Request.{Request}
use Rattle.fc_spec.specs.requests.RequestReading.{request_of}
use Rattle.fc_spec.specs.requests.ValidRequests.{IsValidRequest}
use Rattle.fc_spec.specs.scripts.AskedScripts.{Asked, line_asking}
use Rattle.fc_spec.specs.scripts.LineReading.{line_said}
use Rattle.fc_spec.specs.scripts.Script.{Line, add, delete, commit, sync, asks}
use Rattle.fc_spec.specs.scripts.ScriptReading.{value_on}
use Rattle.fc_spec.proofs.scripts.JsonTexts.{IsJson}
use Rattle.fc_spec.proofs.scripts.ValidSearches.{AsksJson, asks_valid, line_asks, value_is}
use Rattle.fc_spec.proofs.words.ReadingWords.{going_on}
use Rattle.fc_base.specs.Answers.{Answers}
use Rattle.fc_base.specs.declared.error.Refusal.{Refusal}
use Rattle.fc_lines.specs.AskedLines.{asked_on}
use Rattle.fc_lines.specs.FaultView.{line_fault_view}
use Rattle.fc_lines.specs.LineView.{line_view}
use Rattle.fc_lines.specs.declared.fault.LineFault as fault
use Rattle.fc_lines.specs.declared.line.Line as code
use Rattle.fc_script.specs.AskedRequests.{IsAskedOf}

asked_is_valid : (s : Schema) (d : Data) → ((r : Request) → request_of s d ≡ Ok r → IsValidRequest s r) → IfOk (request_of s d) (IsValidRequest s)
asked_is_valid s d valid = go (request_of s d) refl
  where
    go : (a : Asked) → request_of s d ≡ a → IfOk a (IsValidRequest s)
    go (Ok r) is = valid r is
    go (Err f) is = tt

line_is_asked : (s : Schema) (l : Line Data) → AsksValid s l → IsAskedOf s (line_asking (request_of s) l)
line_is_asked s (asks session d) valid = asked_is_valid s d valid
line_is_asked s (add shard block) valid = tt
line_is_asked s (delete shard id) valid = tt
line_is_asked s (commit shard) valid = tt
line_is_asked s sync valid = tt

-- a line that a text says
line_on_is_asked : (s : Schema) (t : Text) → IfOk (asked_on s t) (IsAskedOf s)
line_on_is_asked s t =
    going_on (IsAskedOf s) IsJson (value_on t) _ (value_is t)
    (λ d json. going_on (IsAskedOf s) AsksJson (line_said s d) _ (line_asks s d json) (λ l asks. line_is_asked s l (asks_valid s l asks)))

-- the line that answers
pub answer_is_asked : (s : Schema) (t : Text) (answer : Result code.Line (Refusal fault.LineFault)) → Answers line_view line_fault_view answer (asked_on s t) → IfOk answer (λ line. IsAskedOf s (line_view line))
answer_is_asked s t (Ok line) is = subst (λ r. IfOk r (IsAskedOf s)) is (line_on_is_asked s t)
answer_is_asked s t (Err refusal) is = tt
