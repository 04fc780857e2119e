use Rattle.std.proofs.Common.{length, map, refl, ◌∙◌, ap}
use Rattle.fc_script.proofs.GatheredSteps.{synced}
use Rattle.fc_script.proofs.gather.gathered.Gathered.sync.Goals as goal

pub returns-clause-lines : goal.returns-clause-lines
returns-clause-lines c = λ sessions.
    synced c.args.self.now (record { shards = c.args.self.now.shards; phases = c.push.new.self; searches = c.replace-searches.new.dest }) _ refl c.in_ok-push.ensures.items
    (ap (λ v. v.items) c.replace-searches.ensures.after ∙ c.new.ensures.items) (c.in_ok-commits.ensures ∙ ap (map (λ x. length x.batches.items)) c.deref.ensures.value) (ap (λ v. v.items) c.replace-searches.ensures.value) sessions
