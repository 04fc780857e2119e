-- How what a run writes ends.
use Rattle.std.specs.Prelude.{◌≡◌, ℕ, List, ◌++◌, Option, Result, Ok, Err, ⊤}
use Rattle.std.specs.Io.KnownBytes.{Appends}
use Rattle.fc_spec.specs.documents.Val.{Text}
use Rattle.fc_spec.specs.scripts.AskedScripts.{AskedScript, asked_script}
use Rattle.fc_spec.specs.scripts.Booked.{Books}
use Rattle.fc_spec.specs.scripts.Outputs.{IsOutputBy}
use Rattle.fc_spec.specs.scripts.ScriptFault.{ScriptFault}
use Rattle.fc_spec.specs.scripts.ScriptParts.{parts_of}
use Rattle.fc_spec.specs.words.Walks.{◌>>=◌}
use Rattle.fc_base.specs.declared.error.Refusal.{Refusal}
use Rattle.fc_base.specs.declared.error.Refusal.TheVariants.{Memory as NoMemory, Fault as Faulty}
use Rattle.fc_lines.specs.FaultView.{script_fault_view}
use Rattle.fc_lines.specs.declared.fault.ScriptFault as code
use Rattle.fc_io.specs.WriteEnd.{AppendsFront}
use Rattle.fc_run.specs.Booking.{AreBookedIn}
use Rattle.fc_run.specs.Outcome.{single_without_limits, ArePrinted, IsOneOutput, IsRefinedOutput, Leaves, OnDone, Wrote, WroteFor}
use Rattle.fc_run.specs.declared.status.Status.{Status}
use Rattle.fc_run.specs.declared.status.Status.TheVariants.{Usage, Read, Memory, Write}
use Rattle.fc_run.specs.declared.stop.Stop.{Stop}
use Rattle.fc_run.specs.declared.stop.Stop.TheVariants.{OutOfMemory, SinkFailed}

-- ---- texts

-- a text was written: all of it; nothing; or a front that is not all of it
abbrev pub WritesPart : {A : Type 0} → Result A Stop → (old new : Option (List ℕ)) → Text → Type 0
WritesPart (Ok a) old new t = Appends old new t
WritesPart (Err OutOfMemory) old new t = new ≡ old
WritesPart (Err SinkFailed) old new t = AppendsFront old new t

-- so was a text with P
abbrev pub WritesNext : {A : Type 0} → Result A Stop → (old new : Option (List ℕ)) → (Text → Type 0) → Type 0
WritesNext (Ok a) old new P = Wrote old new P
WritesNext (Err OutOfMemory) old new P = new ≡ old
WritesNext (Err SinkFailed) old new P = (t : Text) × AppendsFront old new t × P t

-- a text with P was written, or a front of one
abbrev pub WritesAll : Result (Unit {0}) Stop → (old new : Option (List ℕ)) → (Text → Type 0) → Type 0
WritesAll (Ok u) old new P = Wrote old new P
WritesAll (Err stop) old new P = Wrote old new (λ t. (rest : Text) × P (t ++ rest))

-- ---- statuses

-- the status of a run that wrote all, or stopped
abbrev pub status_after : Result (Unit {0}) Stop → (whole : Status) → Status
status_after (Ok u) whole = whole
status_after (Err OutOfMemory) whole = Memory
status_after (Err SinkFailed) whole = Write

-- a status of a run whose words were taken
abbrev pub IsRun : Status → Type 0
IsRun Usage = ⊥
IsRun status = ⊤

-- a status of a run whose script was read
abbrev pub IsEnded : Status → Type 0
IsEnded Usage = ⊥
IsEnded Read = ⊥
IsEnded status = ⊤

-- all that is promised of the text that is left, by what the bytes spell and by what the book tells before and after
pub record IsLeft (status : Status) (before after : Option Books) (spelled : Result AskedScript ScriptFault) (t : Text) : Type 0 where
  pub leaves : Leaves status spelled t
  pub printed : OnDone status spelled ArePrinted t
  pub booked : OnDone status spelled (AreBookedIn before after) t

-- so of a script that was not read, for want of memory or since it has a fault
abbrev pub IsRefused : Refusal code.ScriptFault → Status → (old new : Option (List ℕ)) → Type 0
IsRefused NoMemory status old new = (spelled : Result AskedScript ScriptFault) (before after : Option Books) → Wrote old new (IsLeft status before after spelled)
IsRefused (Faulty f) status old new =
    (spelled : Result AskedScript ScriptFault) (before after : Option Books) → (spelled >>= λ S. Ok (parts_of S)) ≡ Err (script_fault_view f) → Wrote old new (IsLeft status before after spelled)

-- each clause on what is written, where these are the bytes of the script, if they are known
pub record IsLeftOf (status : Status) (bytes old new : Option (List ℕ)) (before after : Option Books) : Type 0 where
  pub leaves : WroteFor bytes old new (λ all. Leaves status (asked_script all))
  pub single_index : WroteFor bytes old new (λ all. OnDone status (asked_script all) (IsOutputBy single_without_limits))
  pub refined : WroteFor bytes old new (λ all. OnDone status (asked_script all) IsRefinedOutput)
  pub one_output : WroteFor bytes old new (λ all. OnDone status (asked_script all) IsOneOutput)
  pub booked : WroteFor bytes old new (λ all. OnDone status (asked_script all) (AreBookedIn before after))
