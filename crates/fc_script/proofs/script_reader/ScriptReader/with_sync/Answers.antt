use Rattle.std.proofs.Common.{length, true, false, refl, arith}
use Rattle.std.proofs.lemmas.Bool.Decides.{nat_tests}
use Rattle.fc_spec.specs.scripts.Script.{sync}
use Rattle.fc_script.proofs.GatheredSteps.{phases_length}
use Rattle.fc_script.proofs.LimitsKept.{few_syncs_then}
use Rattle.fc_script.proofs.ReadSteps.{with_sync}
use Rattle.fc_script.proofs.ReaderAnswers.{taken, refused}
use Rattle.fc_script.proofs.script_reader.ScriptReader.with_sync.Goals as goal

pub returns-then-len-gt-SYNC_LIMIT-clause-meets : goal.returns-then-len-gt-SYNC_LIMIT-clause-meets
returns-then-len-gt-SYNC_LIMIT-clause-meets c = refused c.args.self sync _ (λ m ls has.
    let long = phases_length c.args.self.sessions.items c.sync.new.self.phases.items in
    few_syncs_then m c.args.self ls has false _ (c.in_ok-sync.ensures.lines c.args.self.sessions.items) (let many = c.if-len-gt-SYNC_LIMIT.true in let is = c.len.ensures in grind (arith, nat_tests)))

pub returns-clause-meets : goal.returns-clause-meets
returns-clause-meets c = taken c.args.self c.args.self.documents c.args.self.sessions.items c.sync.new.self sync (λ m ls has.
    let long = phases_length c.args.self.sessions.items c.sync.new.self.phases.items in (
      few_syncs_then m c.args.self ls has true _ (c.in_ok-sync.ensures.lines c.args.self.sessions.items) (let few = c.if-len-gt-SYNC_LIMIT.false in let is = c.len.ensures in grind (arith, nat_tests)),
      with_sync m c.args.self ls has c.args.self.documents c.args.self.sessions.items c.sync.new.self refl refl (c.in_ok-sync.ensures.lines c.args.self.sessions.items) (c.in_ok-sync.ensures.sound c.args.self.schema (length c.args.self.sessions.items) has.sound),
    ))
