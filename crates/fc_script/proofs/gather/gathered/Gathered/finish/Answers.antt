use Rattle.std.proofs.Common.{length, refl}
use Rattle.fc_script.proofs.GatheredSteps.{finished}
use Rattle.fc_script.proofs.gather.gathered.Gathered.finish.Goals as goal

pub returns-clause-parts : goal.returns-clause-parts
returns-clause-parts c =
    finished c.args.schema c.args.sessions.items c.args.self c.sync.new.self (record { schema = c.in_ok-new.field-0; sessions = c.args.sessions; batches = c.in_ok-batches.batches; phases = c.sync.new.self.phases })
    (c.in_ok-sync.ensures.lines c.args.sessions.items) c.in_ok-sync.ensures.shards c.in_ok-new.ensures.ok refl c.in_ok-batches.ensures refl

pub returns-clause-sound : goal.returns-clause-sound
returns-clause-sound c = λ sound. (c.in_ok-sync.ensures.sound c.args.schema (length c.args.sessions.items) sound).phases
