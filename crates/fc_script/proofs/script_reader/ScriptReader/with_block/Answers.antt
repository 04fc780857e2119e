use Rattle.std.proofs.Common.{refl, sym, ◌∙◌, ap}
use Rattle.std.specs.List.{filter_map}
use Rattle.std.proofs.lemmas.Result.{err_from_is_err_and}
use Rattle.fc_spec.specs.documents.Document.{adding}
use Rattle.fc_spec.specs.documents.Totals.{documents_in}
use Rattle.fc_spec.specs.scripts.Script.{add}
use Rattle.fc_spec.specs.scripts.ScriptReading.{check_documents}
use Rattle.fc_spec.specs.scripts.ScriptTotals.{added}
use Rattle.fc_docs.specs.View.{block_view}
use Rattle.fc_script.specs.Gathered as definition
use Rattle.fc_script.proofs.CountedLines.{added-add}
use Rattle.fc_script.proofs.FewCommits.{still_few}
use Rattle.fc_script.proofs.ReadSteps.{with_block}
use Rattle.fc_script.proofs.ReaderAnswers.{taken, refused}
use Rattle.fc_script.proofs.script_reader.ScriptReader.with_block.Goals as goal

pub returns-in_err-documents-clause-meets : goal.returns-in_err-documents-clause-meets
returns-in_err-documents-clause-meets c =
    let p = err_from_is_err_and c.from_residual.result c.from_residual.ensures.1 in
    let block = block_view c.args.block in
    λ S has. rw (p.1, p.2) (refused c.args.self (add c.args.shard block) _ (λ m ls has.
    ap (λ bs. check_documents m c.args.self.schema (documents_in bs)) (added-add ls c.args.shard block) ∙ sym (c.in_err-documents.ensures.counted m (filter_map added ls) has.documents).0) S has)

pub invariant_of-result : goal.invariant_of-result
invariant_of-result c =
    let within = c.args.self.within in
    record {
      within = record {
        fields = c.in_ok-documents.ensures.fields;
        sums = c.in_ok-documents.ensures.within;
        shards = c.in_ok-add.ensures.count ∙ within.shards;
        commits = still_few (definition.with_op (adding (block_view c.args.block))) (λ x. refl) c.args.shard _ _ c.in_ok-add.ensures.shards within.commits;
        sessions = within.sessions;
        phases = let few = within.phases in rw c.in_ok-add.ensures.phases few;
      };
    }

pub returns-clause-meets : goal.returns-clause-meets
returns-clause-meets c = taken c.args.self c.in_ok-documents.documents c.args.self.sessions.items c.add.new.self (add c.args.shard (block_view c.args.block)) (λ m ls has.
    let block = block_view c.args.block in
    let counted = c.in_ok-documents.ensures.counted m (filter_map added ls) has.documents in (
      ap (λ bs. check_documents m c.args.self.schema (documents_in bs)) (added-add ls c.args.shard block) ∙ sym counted.0,
      with_block m c.args.self ls has c.in_ok-documents.documents c.args.self.sessions.items c.add.new.self c.args.shard block c.requires.valid refl counted.1 c.in_ok-add.ensures.shards c.in_ok-add.ensures.phases c.in_ok-add.ensures.searches,
    ))
