use Rattle.fc_spec.specs.scripts.AskedScripts.{asked_script_of}
use Rattle.fc_spec.specs.scripts.ScriptTotals.{script_limits}
use Rattle.fc_checks.proofs.ReadShards.{shards_read}
use Rattle.fc_checks.proofs.tests.scripts.script_of.Goals as goal

pub returns-clause-shards : goal.returns-clause-shards
returns-clause-shards c =
    (shards_read c.added_are_within_limits.ensures (asked_script_of script_limits c.as_bytes.result.now) c.in_ok-script.script c.in_ok-script.ensures.answer c.in_ok-script.ensures.within c.in_ok-script.ensures.sound).shards

pub returns-clause-limits : goal.returns-clause-limits
returns-clause-limits c =
    (shards_read c.added_are_within_limits.ensures (asked_script_of script_limits c.as_bytes.result.now) c.in_ok-script.script c.in_ok-script.ensures.answer c.in_ok-script.ensures.within c.in_ok-script.ensures.sound).limits
