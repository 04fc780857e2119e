use Rattle.std.proofs.Common.{ap, sym, subst}
use Rattle.std.specs.Prelude.{All}
use Rattle.fc_spec.specs.replies.Reply.{as_missing}
use Rattle.fc_facet.specs.KindView.{terms_view}
use Rattle.fc_request.specs.NodeView.{inner_view}
use Rattle.fc_request.specs.FacetNode.{kind_of, kind_view}
use Rattle.fc_reading.specs.Parts.{beside, IsCounted}
use Rattle.fc_reading.proofs.ValueParts.{missing_made, parts_counted, terms_parts_are}
use Rattle.fc_reading.proofs.terms.terms_parts.Goals as goal

pub returns-clause-parts : goal.returns-clause-parts
returns-clause-parts g c =
    let R = g.R.BucketReading.reading c.args.reading.now in
    let held = g.R.BucketReading.held in
    let t = terms_view c.args.terms.now in
    let inner = inner_view c.args.node.now in
    let K = c.args.shards.now in
    let Y = g.R.BucketReading.over c.args.domain.now in
    let apart = beside held as_missing c.in_ok-missing.missing in
    terms_parts_are R t inner K Y held c.in_ok-printed.printed.items c.in_ok-list.list.items apart c.in_ok-printed.ensures.on c.in_ok-printed.ensures.entries c.in_ok-list.ensures
    (missing_made R t inner K Y held (kind_view (kind_of c.args.node.now)) t.missing apart (ap kind_view c.requires.terms) c.in_ok-missing.ensures.part)

pub returns-clause-counted : goal.returns-clause-counted
returns-clause-counted g c =
    let R = g.R.BucketReading.reading c.args.reading.now in
    let held = g.R.BucketReading.held in
    let list = c.in_ok-list.list.items in
    let counted = parts_counted R (terms_view c.args.terms.now) (inner_view c.args.node.now) c.args.shards.now (g.R.BucketReading.over c.args.domain.now) held c.requires.distinct c.in_ok-printed.printed.items c.in_ok-printed.ensures.on in
    record {
      list = subst (λ ss. All (IsCounted R held ss) list) (sym c.requires.stats) (subst (All (IsCounted R held _)) (sym c.in_ok-list.ensures) counted);
      missing = c.in_ok-missing.ensures.counted;
      before = tt;
      between = tt;
      after = tt;
    }
