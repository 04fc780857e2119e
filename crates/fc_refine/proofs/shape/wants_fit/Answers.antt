use Rattle.std.proofs.Common.{◌∙◌, ◌&&◌, ◌+◌, Bool, ap, sym, subst, drop, arith}
use Rattle.fc_spec.specs.messages.Message.{way_of}
use Rattle.fc_spec.specs.messages.MessageShape.{top_fits, wants_fit}
use Rattle.fc_spec.specs.requests.Ranks.{offered_bound}
use Rattle.fc_partial.specs.BucketView.{bucket_view, buckets_view}
use Rattle.fc_partial.specs.View.{key_view}
use Rattle.fc_request.specs.NodeView.{nodes_view}
use Rattle.fc_refine.specs.AskView.{want_view, wants_view}
use Rattle.fc_refine.specs.CountableRanges.{AreCountable}
use Rattle.fc_refine.proofs.Shapes.{countable_along, wants_differ, want_step}
use Rattle.fc_refine.proofs.shape.wants_fit.Goals as goal

pub returns-then-wants-buckets : goal.returns-then-wants-buckets
returns-then-wants-buckets c = wants_differ (nodes_view c.args.nodes.now) c.args.wants.now c.args.buckets.now c.if-wants-buckets.true

pub top_fits-requires : goal.top_fits-requires
top_fits-requires c = subst AreCountable (sym c.wanted_nodes.ensures) (countable_along (nodes_view c.args.nodes.now) (way_of (want_view c.index-wants-at.result)) c.requires)

pub returns-then-not-top_fits : goal.returns-then-not-top_fits
returns-then-not-top_fits c =
    let N = nodes_view c.args.nodes.now in
    let ws = c.args.wants.now in
    let bs = c.args.buckets.now in
    let i = c.loop-at.at in
    let w = c.index-wants-at.result in
    let b = c.index-buckets-at.result in
    let same = c.if-wants-buckets.false in
    let here = c.loop-at-test.true in
    let rest : Bool = wants_fit offered_bound N (wants_view (drop (i + 1) ws)) (buckets_view (drop (i + 1) bs)) in
    sym (c.loop-at.invariant ∙ want_step N ws bs i w b here c.index-wants-at.is (omega (arith, same, here)) c.index-buckets-at.is
    ∙ ap (λ t. t && rest) (ap (λ ns. top_fits offered_bound (key_view w.key) ns (bucket_view b).key (bucket_view b).stats (bucket_view b).rows) (sym c.wanted_nodes.ensures) ∙ sym c.top_fits.ensures ∙ c.if-not-top_fits.true))

pub loop-at-preserved : goal.loop-at-preserved
loop-at-preserved c =
    let N = nodes_view c.args.nodes.now in
    let ws = c.args.wants.now in
    let bs = c.args.buckets.now in
    let i = c.loop-at.at in
    let w = c.index-wants-at.result in
    let b = c.index-buckets-at.result in
    let same = c.if-wants-buckets.false in
    let here = c.loop-at-test.true in
    let rest : Bool = wants_fit offered_bound N (wants_view (drop (i + 1) ws)) (buckets_view (drop (i + 1) bs)) in
    c.loop-at.invariant ∙ want_step N ws bs i w b here c.index-wants-at.is (omega (arith, same, here)) c.index-buckets-at.is
    ∙ ap (λ t. t && rest) (ap (λ ns. top_fits offered_bound (key_view w.key) ns (bucket_view b).key (bucket_view b).stats (bucket_view b).rows) (sym c.wanted_nodes.ensures) ∙ sym c.top_fits.ensures ∙ c.if-not-top_fits.false)
