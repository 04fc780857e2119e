use Rattle.std.proofs.Common.{◌∙◌, ap, sym, map}
use Rattle.fc_spec.specs.replies.Chosen as chosen
use Rattle.fc_facet.specs.KindView.{terms_view}
use Rattle.fc_request.specs.NodeView.{inner_view}
use Rattle.fc_request.specs.FacetNode.{vals_view}
use Rattle.fc_reading.proofs.OfferedValues.{offered_shards, offered_vals}
use Rattle.fc_reading.proofs.terms.candidates.Goals as goal

pub candidates_of-requires-clause-offering : goal.candidates_of-requires-clause-offering
candidates_of-requires-clause-offering g c =
    let R = g.R.BucketReading.reading c.args.reading.now in
    let t = terms_view c.args.terms.now in
    let inner = inner_view c.args.node.now in
    let K = c.args.shards.now in
    let Y = g.R.BucketReading.over c.args.domain.now in
    let lists = ap (λ lists. map (λ list. vals_view list.items) lists) c.deref.ensures.value ∙ c.in_ok-offers.ensures.offered inner (sym c.requires.stats) in
    offered_shards (chosen.offering R t inner K Y) (chosen.candidates R t inner K Y) c.in_ok-offered.offered.items (c.in_ok-offered.ensures (λ i. R.offered_by t inner Y i) lists)

pub returns-clause-vals : goal.returns-clause-vals
returns-clause-vals g c =
    let R = g.R.BucketReading.reading c.args.reading.now in
    let t = terms_view c.args.terms.now in
    let inner = inner_view c.args.node.now in
    let K = c.args.shards.now in
    let Y = g.R.BucketReading.over c.args.domain.now in
    let lists = ap (λ lists. map (λ list. vals_view list.items) lists) c.deref.ensures.value ∙ c.in_ok-offers.ensures.offered inner (sym c.requires.stats) in
    c.in_ok-list.ensures.vals
    ∙ offered_vals (chosen.offering R t inner K Y) (chosen.candidates R t inner K Y) c.in_ok-offered.offered.items (c.in_ok-offered.ensures (λ i. R.offered_by t inner Y i) lists)
