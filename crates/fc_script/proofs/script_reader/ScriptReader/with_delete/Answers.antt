use Rattle.std.proofs.Common.{refl, ◌∙◌}
use Rattle.fc_spec.specs.documents.Document.{deleting}
use Rattle.fc_spec.specs.scripts.Script.{delete}
use Rattle.fc_script.specs.Gathered as definition
use Rattle.fc_script.proofs.FewCommits.{still_few}
use Rattle.fc_script.proofs.ReadSteps.{with_delete}
use Rattle.fc_script.proofs.ReaderAnswers.{taken}
use Rattle.fc_script.proofs.script_reader.ScriptReader.with_delete.Goals as goal

pub invariant_of-result : goal.invariant_of-result
invariant_of-result c =
    let within = c.args.self.within in
    record {
      within = record {
        fields = within.fields;
        sums = within.sums;
        shards = c.in_ok-add.ensures.count ∙ within.shards;
        commits = still_few (definition.with_op (deleting c.args.id)) (λ x. refl) c.args.shard _ _ c.in_ok-add.ensures.shards within.commits;
        sessions = within.sessions;
        phases = let few = within.phases in rw c.in_ok-add.ensures.phases few;
      };
    }

pub returns-clause-meets : goal.returns-clause-meets
returns-clause-meets c = taken c.args.self c.args.self.documents c.args.self.sessions.items c.add.new.self (delete c.args.shard c.args.id) (λ m ls has. (
  refl,
  with_delete m c.args.self ls has c.args.self.documents c.args.self.sessions.items c.add.new.self c.args.shard c.args.id refl refl c.in_ok-add.ensures.shards c.in_ok-add.ensures.phases c.in_ok-add.ensures.searches,
))
