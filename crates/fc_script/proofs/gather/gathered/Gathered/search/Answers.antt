use Rattle.std.proofs.Common.{refl}
use Rattle.fc_script.proofs.GatheredSteps.{searched}
use Rattle.fc_script.proofs.gather.gathered.Gathered.search.Goals as goal

pub returns-clause-lines : goal.returns-clause-lines
returns-clause-lines c = λ sessions.
    searched c.args.self.now (record { shards = c.args.self.now.shards; phases = c.args.self.now.phases; searches = c.push.new.self }) (record { session = c.args.session; request = c.args.request }) refl refl c.in_ok-push.ensures.items
    sessions _ refl
