-- What was written of a text, as what was written of a text with a fact.
use Rattle.std.proofs.Common.{◌≡◌, ℕ, List, [], Option, None, Some, Err, sym, subst, append-nil}
use Rattle.std.specs.Io.KnownBytes.{Appends}
use Rattle.fc_spec.specs.documents.Val.{Text}
use Rattle.fc_run.specs.Ending.{WritesNext, WritesPart}
use Rattle.fc_run.specs.declared.stop.Stop.{Stop}
use Rattle.fc_run.specs.declared.stop.Stop.TheVariants.{OutOfMemory, SinkFailed}

pub appends_nothing : (old new : Option (List ℕ)) → new ≡ old → Appends old new []
appends_nothing None new same = tt
appends_nothing (Some xs) new same = subst (λ o. Appends (Some xs) o []) (sym same) (sym (append-nil xs))

-- a text was written in part, which has the fact
pub part_next : (A B : Type 0) (stop : Stop) (old new : Option (List ℕ)) (t : Text) (P : Text → Type 0) → WritesPart {A = A} (Err stop) old new t → P t → WritesNext {A = B} (Err stop) old new P
part_next A B OutOfMemory old new t P same holds = same
part_next A B SinkFailed old new t P front holds = (t, front, holds)
