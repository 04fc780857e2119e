-- What statuses say.
use Rattle.std.proofs.Common.{◌≡◌, subst}
use Rattle.fc_run.specs.Ending.{IsEnded, IsRun}
use Rattle.fc_run.specs.Outcome.{IfDone, OnRead}
use Rattle.fc_run.specs.declared.status.Status.{Status}
use Rattle.fc_run.specs.declared.status.Status.TheVariants.{Done, Usage, Script, Read, Memory, Write}

pub ended_is_run : (s : Status) → IsEnded s → IsRun s
ended_is_run Done is = tt
ended_is_run Usage is = absurd is
ended_is_run Script is = tt
ended_is_run Read is = tt
ended_is_run Memory is = tt
ended_is_run Write is = tt

pub run_not_usage : (s : Status) → IsRun s → s ≡ Usage → ⊥
run_not_usage s is same = subst IsRun same is

pub ended_unread : (s : Status) (P : Type 0) → IsEnded s → OnRead s P
ended_unread Done P is = tt
ended_unread Usage P is = tt
ended_unread Script P is = tt
ended_unread Read P is = absurd is
ended_unread Memory P is = tt
ended_unread Write P is = tt

pub done_if : (s : Status) (P : Type 0) → P → IfDone s P
done_if Done P holds = holds
done_if Usage P holds = tt
done_if Script P holds = tt
done_if Read P holds = tt
done_if Memory P holds = tt
done_if Write P holds = tt
