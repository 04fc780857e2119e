use Rattle.std.proofs.Common.{◌≡◌, ◌&&◌, length, sym, ap, ◌∙◌, arith}
use Rattle.fc_spec.specs.documents.Sets.{zip_with, passing_of}
use Rattle.fc_spec.specs.documents.Bits.{words_for}
use Rattle.fc_spec.specs.queries.Query.{all}
use Rattle.fc_spec.specs.queries.Matching.{matches}
use Rattle.fc_spec.specs.requests.Request.{children}
use Rattle.fc_spec.specs.requests.DomainSets.{moved_set}
use Rattle.fc_spec.proofs.words.WhereTrue.{length-zip_with}
use Rattle.fc_lane.proofs.BitLists.{first_bits_is, length-first_bits}
use Rattle.fc_query.specs.QueryView.{query_view}
use Rattle.fc_facet.specs.KindView.{step_view}
use Rattle.fc_domain.proofs.GroupSets.{on_ok}
use Rattle.fc_domain.proofs.StepSets.{parents_matching, children_matching}
use Rattle.fc_domain.proofs.changes.move_in_blocks.Goals as goal

pub set_mask-requires : goal.set_mask-requires
set_mask-requires c = let e = c.requires.docs ∙ sym c.requires.length in omega (arith, c.words.ensures.count, ap words_for e)

pub returns-in-Stay-clause-set : goal.returns-in-Stay-clause-set
returns-in-Stay-clause-set c =
    let blocks = c.args.segment.now.blocks in
    let size = length c.args.into.now in
    c.set_mask.ensures
    ∙ first_bits_is size c.words.result.now c.args.docs.now (c.requires.docs ∙ sym c.requires.length) (λ k below. c.words.ensures.bits k)
    ∙ sym (ap (λ step. moved_set (step_view step) blocks c.args.docs.now) c.in-Stay.is)

pub returns-in-Stay-clause-length : goal.returns-in-Stay-clause-length
returns-in-Stay-clause-length c = ap length c.set_mask.ensures ∙ length-first_bits (length c.args.into.now) c.words.result.now

pub returns-in-Parents-clause-set : goal.returns-in-Parents-clause-set
returns-in-Parents-clause-set c =
    let blocks = c.args.segment.now.blocks in
    let docs = c.args.docs.now in
    let q = query_view c.in-Parents.query in
    on_ok c.keep_match.result (c.keep_match.new.into ≡ passing_of (matches q) blocks c.gather.new.into) _
    (λ is. is ∙ ap (passing_of (matches q) blocks) c.gather.ensures.set ∙ parents_matching q blocks docs c.requires.docs
    ∙ sym (ap (λ step. moved_set (step_view step) blocks docs) c.in-Parents.is))
    c.keep_match.ensures.set

pub returns-in-Parents-clause-length : goal.returns-in-Parents-clause-length
returns-in-Parents-clause-length c = c.keep_match.ensures.length ∙ c.gather.ensures.length

pub spread-requires : goal.spread-requires
spread-requires c =
    ap length c.and_with.ensures
    ∙ length-zip_with ◌&&◌ c.matches.new.into c.args.docs.now (c.in_ok-matches-in-Children.ensures.length ∙ c.requires.length ∙ sym c.requires.docs)
    ∙ c.in_ok-matches-in-Children.ensures.length ∙ c.requires.length

pub returns-in_ok-matches-in-Children-clause-set : goal.returns-in_ok-matches-in-Children-clause-set
returns-in_ok-matches-in-Children-clause-set c =
    let blocks = c.args.segment.now.blocks in
    let docs = c.args.docs.now in
    c.spread.ensures.set
    ∙ ap (moved_set (children all) blocks) (c.and_with.ensures ∙ ap (λ set. zip_with ◌&&◌ set docs) c.in_ok-matches-in-Children.ensures.set)
    ∙ children_matching (query_view c.in-Children.query) blocks docs c.requires.docs
    ∙ sym (ap (λ step. moved_set (step_view step) blocks docs) c.in-Children.is)

pub returns-in_ok-matches-in-Children-clause-length : goal.returns-in_ok-matches-in-Children-clause-length
returns-in_ok-matches-in-Children-clause-length c =
    c.spread.ensures.length
    ∙ ap length c.and_with.ensures
    ∙ length-zip_with ◌&&◌ c.matches.new.into c.args.docs.now (c.in_ok-matches-in-Children.ensures.length ∙ c.requires.length ∙ sym c.requires.docs)
    ∙ c.in_ok-matches-in-Children.ensures.length
