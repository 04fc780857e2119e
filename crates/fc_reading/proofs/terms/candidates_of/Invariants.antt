use Rattle.std.proofs.Common.{◌≡◌, ◌++◌, map}
use Rattle.std.specs.Prelude.{All}
use Rattle.fc_base.specs.View.{val_view}
use Rattle.fc_facet.specs.KindView.{terms_view}
use Rattle.fc_request.specs.NodeView.{inner_view}
use Rattle.fc_spec.specs.replies.Chosen.{offering}
use Rattle.fc_reading.specs.Terms.{candidate_vals, counted_first, IsOn}
use Rattle.fc_reading.proofs.terms.candidates_of.Given as goal

abbrev pub invariant-loop-one : goal.invariant-loop-one
invariant-loop-one g l =
    let R = g.R.BucketReading.reading l.reading in
    let Y = g.R.BucketReading.over l.domain in
    All (IsOn R (terms_view l.terms) (inner_view l.node) l.shards Y g.R.BucketReading.held (counted_first R (terms_view l.terms) (inner_view l.node) l.shards Y)) l.list.items
    × (candidate_vals l.list.items ++ map (λ o. val_view o.val.now) l.one-iterator.rest.items ≡ map (λ o. val_view o.val.now) l.fn.offered.items)
    × All (λ o. o.shards.items ≡ offering R (terms_view l.terms) (inner_view l.node) l.shards Y (val_view o.val.now)) l.one-iterator.rest.items
