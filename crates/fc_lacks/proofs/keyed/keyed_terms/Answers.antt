use Rattle.std.proofs.Common.{ap, map, subst, sym}
use Rattle.fc_facet.specs.KindView.{terms_view}
use Rattle.fc_request.specs.NodeView.{inner_view}
use Rattle.fc_request.specs.FacetNode.{kind_of, kind_view}
use Rattle.fc_lacks.specs.Keys.{AreCountedKeys, keyed_view}
use Rattle.fc_lacks.proofs.KeyedBuckets.{terms_keyed, values_counted}
use Rattle.fc_lacks.proofs.keyed.keyed_terms.Goals as goal

pub returns-clause-keyed : goal.returns-clause-keyed
returns-clause-keyed g c =
    let held = g.R.BucketReading.held in
    terms_keyed (g.R.BucketReading.reading c.args.reading.now) (inner_view c.args.node.now) c.args.shards.now (g.R.BucketReading.over c.args.domain.now) held (terms_view c.args.terms.now)
    (kind_view (kind_of c.args.node.now)) c.in_ok-printed.printed.items _ c.in_ok-list.list.items (map (keyed_view held) c.push_asked.new.list.items) (ap kind_view c.requires.terms)
    c.in_ok-printed.ensures.on c.in_ok-printed.ensures.entries c.in_ok-list.ensures c.in_ok-push_asked.ensures.keyed

pub returns-clause-counted : goal.returns-clause-counted
returns-clause-counted g c =
    let R = g.R.BucketReading.reading c.args.reading.now in
    let held = g.R.BucketReading.held in
    c.in_ok-push_asked.ensures.counted
    (subst (AreCountedKeys R held) (sym c.in_ok-list.ensures)
    (values_counted R (inner_view c.args.node.now) c.args.shards.now (g.R.BucketReading.over c.args.domain.now) held (terms_view c.args.terms.now) c.requires.distinct c.in_ok-printed.printed.items c.in_ok-printed.ensures.on))
