use Rattle.std.proofs.Common.{◌≡◌, ◌+◌, [], ◌&&◌, drop, length, map, sym, ap, ◌∙◌, subst}
use Rattle.std.proofs.lemmas.Bool.{eqb-true}
use Rattle.std.proofs.lemmas.List.{nil_from_length}
use Rattle.fc_spec.specs.documents.Sets.{zip_with}
use Rattle.fc_spec.specs.queries.Matching.{matches}
use Rattle.fc_spec.specs.requests.DomainSets.{filtered_set}
use Rattle.fc_query.specs.QueryView.{query_view}
use Rattle.fc_domain.specs.FieldsFit.{FitsFields}
use Rattle.fc_domain.proofs.ItemsLeft.{fact_at, next_left, none_left}
use Rattle.fc_domain.proofs.StepSets.{AreFilteredTo, passing_of-all, one_filtered, all_filtered}
use Rattle.fc_domain.proofs.changes.keep_matching.Goals as goal

pub returns-then-is_empty-clause-set : goal.returns-then-is_empty-clause-set
returns-then-is_empty-clause-set c =
    let blocks = c.args.segment.now.blocks in
    let into = c.args.into.now in
    let none : c.args.queries.now ≡ [] = nil_from_length c.args.queries.now (eqb-true (length c.args.queries.now) 0 (sym c.if-is_empty.ensures)) in
    sym (ap (λ queries. filtered_set (map query_view queries) blocks into) none ∙ passing_of-all blocks into c.requires.length)

pub matches-requires-clause-fits : goal.matches-requires-clause-fits
matches-requires-clause-fits c =
    fact_at (FitsFields c.args.segment.now.texts) query_view c.args.queries.now c.loop-query.query-index c.query-item.result c.requires.fits c.loop-query-test.true c.query-item.is

pub loop-query-preserved : goal.loop-query-preserved
loop-query-preserved c =
    let blocks = c.args.segment.now.blocks in
    let queries = c.args.queries.now in
    let i = c.loop-query.query-index in
    let q = query_view c.query-item.result in
    let whole = map query_view queries in
    let old = c.args.into.now in
    let left = next_left query_view queries i c.query-item.result c.loop-query-test.true c.query-item.is in (
      one_filtered matches blocks q (map query_view (drop (i + 1) queries)) whole old c.loop-query.into c.and_with.new.self
          (subst (λ l. AreFilteredTo matches blocks l whole old c.loop-query.into) left c.loop-query.invariant.0)
          (c.and_with.ensures ∙ ap (zip_with ◌&&◌ c.loop-query.into) c.in_ok-matches.ensures.set),
      c.in_ok-matches.ensures.length ∙ c.loop-query.invariant.1,
    )

pub returns-clause-set : goal.returns-clause-set
returns-clause-set c =
    let blocks = c.args.segment.now.blocks in
    let queries = c.args.queries.now in
    let whole = map query_view queries in
    all_filtered matches blocks whole c.args.into.now c.loop-query.into
    (subst (λ l. AreFilteredTo matches blocks l whole c.args.into.now c.loop-query.into) (none_left query_view queries c.loop-query.query-index c.loop-query-test.false) c.loop-query.invariant.0)
