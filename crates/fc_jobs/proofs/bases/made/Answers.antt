use Rattle.std.proofs.Common.{◌+◌, drop, sym, ap, ◌∙◌}
use Rattle.std.proofs.lemmas.List.{drop_all}
use Rattle.fc_spec.specs.requests.DomainSets.{filtered_set}
use Rattle.fc_domain.proofs.StepSets.{passing_of-all}
use Rattle.fc_jobs.specs.FilterLists.{queries_in}
use Rattle.fc_jobs.proofs.BasesFound.{filtered_from}
use Rattle.fc_jobs.proofs.bases.made.Goals as goal

pub loop-queries-preserved : goal.loop-queries-preserved
loop-queries-preserved c =
    let blocks = c.args.segment.now.blocks in
    let filters = c.args.filters.now in
    let i = c.loop-queries.queries-index in
    record {
      kept = ap (filtered_set (queries_in (drop (i + 1) filters)) blocks) c.in_ok-keep_matching.ensures.set
          ∙ filtered_from blocks filters i c.queries-item.result c.loop-queries.docs c.loop-queries-test.true c.queries-item.is ∙ c.loop-queries.invariant.kept;
      long = c.in_ok-keep_matching.ensures.length ∙ c.loop-queries.invariant.long;
    }

pub returns-clause-set : goal.returns-clause-set
returns-clause-set c =
    let blocks = c.args.segment.now.blocks in
    let docs = c.loop-queries.docs in
    sym (passing_of-all blocks docs c.loop-queries.invariant.long)
    ∙ sym (ap (λ lists. filtered_set (queries_in lists) blocks docs) (drop_all c.loop-queries.queries-index c.args.filters.now c.loop-queries-test.false)) ∙ c.loop-queries.invariant.kept
