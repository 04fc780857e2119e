use Rattle.std.proofs.Common.{[], length, refl, ◌∙◌, ap, arith}
use Rattle.std.specs.List.{list_all}
use Rattle.std.proofs.lemmas.List.Elements.{All-nil}
use Rattle.fc_spec.specs.documents.ValidBlocks.{IsBlockOf}
use Rattle.fc_script.specs.Gathered.{Gathered, has_few}
use Rattle.fc_script.proofs.FewCommits.{none_are_few}
use Rattle.fc_script.proofs.GatheredSteps.{phases_length}
use Rattle.fc_script.proofs.script_reader.ScriptReader.new.Goals as goal

pub invariant_of-result : goal.invariant_of-result
invariant_of-result c =
    let counted = c.in_ok-documents.ensures in
    record {
      within = record {
        fields = counted.count;
        sums = counted.within;
        shards = c.in_ok-gathered.ensures.shards;
        commits = ap (λ (g : Gathered). list_all has_few g.shards) (c.in_ok-gathered.ensures.lines []) ∙ none_are_few c.args.schema.shards;
        sessions = rw c.new-3.ensures.items (omega arith);
        phases = let long = phases_length [] c.in_ok-gathered.gathered.phases.items in let none = ap (λ (g : Gathered). length g.phases) (c.in_ok-gathered.ensures.lines []) in omega arith;
      };
    }

pub returns : goal.returns
returns c = record {
  schema = refl;
  blocks = All-nil (IsBlockOf c.args.schema);
  documents = c.in_ok-documents.ensures;
  sessions = c.new-3.ensures.items;
  gathered = c.in_ok-gathered.ensures.lines c.new-3.result.items;
  sound = c.in_ok-gathered.ensures.sound c.args.schema (length c.new-3.result.items);
}
