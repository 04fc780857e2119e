use Rattle.std.proofs.Common.{true, false, refl, sym, ◌∙◌}
use Rattle.fc_spec.specs.scripts.Script.{commit}
use Rattle.fc_script.proofs.LimitsKept.{few_commits_then}
use Rattle.fc_script.proofs.ReadSteps.{with_commit}
use Rattle.fc_script.proofs.ReaderAnswers.{taken, refused}
use Rattle.fc_script.proofs.script_reader.ScriptReader.with_commit.Goals as goal

pub returns-then-not-has_few_commits-clause-meets : goal.returns-then-not-has_few_commits-clause-meets
returns-then-not-has_few_commits-clause-meets c = refused c.args.self (commit c.args.shard) _ (λ m ls has.
    few_commits_then m c.args.self ls has c.args.shard false _ c.in_ok-commit.ensures.shards (sym c.has_few_commits.ensures ∙ c.if-not-has_few_commits.true))

pub returns-clause-meets : goal.returns-clause-meets
returns-clause-meets c = taken c.args.self c.args.self.documents c.args.self.sessions.items c.commit.new.self (commit c.args.shard) (λ m ls has. (
  few_commits_then m c.args.self ls has c.args.shard true _ c.in_ok-commit.ensures.shards (sym c.has_few_commits.ensures ∙ c.if-not-has_few_commits.false),
  with_commit m c.args.self ls has c.args.self.documents c.args.self.sessions.items c.commit.new.self c.args.shard refl refl c.in_ok-commit.ensures.shards c.in_ok-commit.ensures.phases c.in_ok-commit.ensures.searches,
))
