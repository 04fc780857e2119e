use Rattle.std.proofs.Common.{◌≡◌, ◌∙◌, true, length, sym, ap}
use Rattle.fc_spec.specs.requests.Buckets.{is_whole}
use Rattle.fc_query.specs.QueryView.{query_view}
use Rattle.fc_partial.specs.View.{key_view}
use Rattle.fc_kind.proofs.BucketPlaces.{length-zip_with}
use Rattle.fc_range.proofs.Whole.{whole_set}
use Rattle.fc_range.proofs.query.QueryKindFacetKind.select.Goals as goal

pub returns-clause-set : goal.returns-clause-set
returns-clause-set c =
    let blocks = c.args.segment.now.blocks in
    let q = query_view c.in-Query.query in
    let whole : is_whole (key_view c.args._key.now) ≡ true = rw c.in-Query.is at c.requires.key in
    rw (c.and_with.ensures, c.in-Query.is, c.in_ok-matches.ensures.set) (whole_set q (key_view c.args._key.now) blocks c.args.docs.now whole)

pub returns-clause-kept : goal.returns-clause-kept
returns-clause-kept c =
    ap length c.and_with.ensures ∙ length-zip_with _ c.matches.new.into c.args.docs.now (c.in_ok-matches.ensures.length ∙ c.requires.same_length ∙ sym c.requires.length) ∙ c.in_ok-matches.ensures.length
