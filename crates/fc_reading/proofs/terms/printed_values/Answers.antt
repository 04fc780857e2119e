use Rattle.std.proofs.Common.{sym, subst, nat_le}
use Rattle.std.specs.Prelude.{All}
use Rattle.std.proofs.lemmas.List.Elements.{All-filter}
use Rattle.fc_spec.specs.replies.Chosen as chosen
use Rattle.fc_facet.specs.KindView.{terms_view}
use Rattle.fc_request.specs.NodeView.{inner_view}
use Rattle.fc_reading.specs.Terms.{candidates_view, IsOn}
use Rattle.fc_refine.proofs.Among.{All-among}
use Rattle.fc_reading.proofs.ValueParts.{counted_ascend, page_entries}
use Rattle.fc_reading.proofs.terms.printed_values.Goals as goal

pub page-requires : goal.page-requires
page-requires g c = record { ascend = counted_ascend c.args.terms.now.mincount c.in_ok-chosen.chosen.items c.in_ok-kept.kept.items c.in_ok-kept.ensures c.in_ok-chosen.ensures.ascend }

pub returns-clause-on : goal.returns-clause-on
returns-clause-on g c =
    let R = g.R.BucketReading.reading c.args.reading.now in
    let t = terms_view c.args.terms.now in
    let inner = inner_view c.args.node.now in
    let K = c.args.shards.now in
    let Y = g.R.BucketReading.over c.args.domain.now in
    let P = IsOn R t inner K Y g.R.BucketReading.held (chosen.known R t inner K Y) in
    All-among P c.in_ok-page.page.items c.in_ok-kept.kept.items c.in_ok-page.ensures.among
    (subst (All P) (sym c.in_ok-kept.ensures) (All-filter (λ c. nat_le t.mincount c.stats.count) P c.in_ok-chosen.chosen.items c.in_ok-chosen.ensures.on))

pub returns-clause-entries : goal.returns-clause-entries
returns-clause-entries g c =
    let R = g.R.BucketReading.reading c.args.reading.now in
    let t = terms_view c.args.terms.now in
    let es = chosen.chosen_entries R t (inner_view c.args.node.now) c.args.shards.now (g.R.BucketReading.over c.args.domain.now) in
    page_entries t c.in_ok-chosen.chosen.items c.in_ok-kept.kept.items es (candidates_view c.in_ok-page.page.items) c.in_ok-kept.ensures c.in_ok-chosen.ensures.entries c.in_ok-page.ensures.ranks
