use Rattle.std.proofs.Common.{◌∙◌, ◌&&◌, ap, sym, drop, ◌+◌, None}
use Rattle.std.proofs.lemmas.List.{drop_all}
use Rattle.fc_spec.specs.messages.MessageShape.{is_complete, buckets_fit, rows_fit, insides_fit}
use Rattle.fc_spec.specs.requests.Ranks.{offered_bound}
use Rattle.fc_partial.specs.BucketView.{buckets_view, rows_view}
use Rattle.fc_request.specs.FacetNode.{kind_of, kind_view}
use Rattle.fc_request.specs.NodeView.{inner_view, nodes_view}
use Rattle.fc_request.proofs.Nodes.{has_buckets_by}
use Rattle.fc_refine.proofs.Shapes.{row_fits, not_complete, bad_buckets, bad_insides, rows_end, inside_step}
use Rattle.fc_refine.proofs.nested_shape.+shape.Goals as goal

pub rows_left-returns-then-not-is_complete : goal.rows_left-returns-then-not-is_complete
rows_left-returns-then-not-is_complete t c = λ rest.
    let n = c.args.node.now in
    let K = kind_view (kind_of n) in
    not_complete n c.in_ok-row.row.now c.in_ok-row.left.now c.args.rows.now rest (has_buckets_by (kind_of n) c.in_default.not-Stat) c.in_ok-row.ensures.cases.0
    (ap (λ bs. is_complete offered_bound K (buckets_view bs)) (sym c.deref.ensures.value) ∙ sym c.is_complete.ensures ∙ c.if-not-is_complete.true)

pub rows_left-returns-then-not-buckets_fit : goal.rows_left-returns-then-not-buckets_fit
rows_left-returns-then-not-buckets_fit t c = λ rest.
    let n = c.args.node.now in
    let K = kind_view (kind_of n) in
    bad_buckets n c.in_ok-row.row.now c.in_ok-row.left.now c.args.rows.now rest (has_buckets_by (kind_of n) c.in_default.not-Stat) c.in_ok-row.ensures.cases.0
    (ap (λ bs. buckets_fit K (inner_view n) (buckets_view bs) None) (sym c.deref-3.ensures.value)
    ∙ ap (λ ns. buckets_fit K (nodes_view ns) (buckets_view c.deref-3.result.now) None) (sym c.deref-2.ensures.value) ∙ sym c.buckets_fit.ensures ∙ c.if-not-buckets_fit.true)

pub rows_left-returns-then-not-insides_fit : goal.rows_left-returns-then-not-insides_fit
rows_left-returns-then-not-insides_fit t c = λ rest.
    let n = c.args.node.now in
    bad_insides n c.in_ok-row.row.now c.in_ok-row.left.now c.args.rows.now rest (has_buckets_by (kind_of n) c.in_default.not-Stat) c.in_ok-row.ensures.cases.0
    (ap (λ bs. insides_fit offered_bound (buckets_view bs) (inner_view n)) (sym c.deref-5.ensures.value)
    ∙ ap (λ ns. insides_fit offered_bound (buckets_view c.deref-5.result.now) (nodes_view ns)) (sym c.deref-4.ensures.value) ∙ sym c.insides_fit.ensures ∙ c.if-not-insides_fit.true)

pub rows_left-returns : goal.rows_left-returns
rows_left-returns t c = λ rest.
    let n = c.args.node.now in
    let K = kind_view (kind_of n) in
    row_fits n c.in_ok-row.row.now c.in_ok-row.left.now c.args.rows.now rest (has_buckets_by (kind_of n) c.in_default.not-Stat) c.in_ok-row.ensures.cases.0
    (ap (λ bs. is_complete offered_bound K (buckets_view bs)) (sym c.deref.ensures.value) ∙ sym c.is_complete.ensures ∙ c.if-not-is_complete.false)
    (ap (λ bs. buckets_fit K (inner_view n) (buckets_view bs) None) (sym c.deref-3.ensures.value)
    ∙ ap (λ ns. buckets_fit K (nodes_view ns) (buckets_view c.deref-3.result.now) None) (sym c.deref-2.ensures.value) ∙ sym c.buckets_fit.ensures ∙ c.if-not-buckets_fit.false)
    (ap (λ bs. insides_fit offered_bound (buckets_view bs) (inner_view n)) (sym c.deref-5.ensures.value)
    ∙ ap (λ ns. insides_fit offered_bound (buckets_view c.deref-5.result.now) (nodes_view ns)) (sym c.deref-4.ensures.value) ∙ sym c.insides_fit.ensures ∙ c.if-not-insides_fit.false)

pub rows_fit-returns : goal.rows_fit-returns
rows_fit-returns t c =
    let left = c.loop-node.left.now in
    c.is_empty.ensures ∙ rows_end left
    ∙ sym (c.loop-node.invariant.is ∙ ap (λ l. rows_fit offered_bound (rows_view left) (nodes_view l)) (drop_all c.loop-node.node-index c.args.nodes.now c.loop-node-test.false))

pub insides_fit-returns-then-not-rows_fit : goal.insides_fit-returns-then-not-rows_fit
insides_fit-returns-then-not-rows_fit t c =
    let N = nodes_view c.args.nodes.now in
    let rest = insides_fit offered_bound (buckets_view (drop (c.loop-bucket.bucket-index + 1) c.args.all.now)) N in
    sym (c.loop-bucket.invariant ∙ inside_step c.args.all.now c.loop-bucket.bucket-index c.bucket-item.result N c.loop-bucket-test.true c.bucket-item.is
    ∙ ap (λ b. b && rest) (ap (λ rows. rows_fit offered_bound (rows_view rows) N) (sym c.deref.ensures.value) ∙ sym c.rows_fit.ensures ∙ c.if-not-rows_fit.true))

pub insides_fit-loop-bucket-preserved : goal.insides_fit-loop-bucket-preserved
insides_fit-loop-bucket-preserved t c =
    let N = nodes_view c.args.nodes.now in
    let rest = insides_fit offered_bound (buckets_view (drop (c.loop-bucket.bucket-index + 1) c.args.all.now)) N in
    c.loop-bucket.invariant ∙ inside_step c.args.all.now c.loop-bucket.bucket-index c.bucket-item.result N c.loop-bucket-test.true c.bucket-item.is
    ∙ ap (λ b. b && rest) (ap (λ rows. rows_fit offered_bound (rows_view rows) N) (sym c.deref.ensures.value) ∙ sym c.rows_fit.ensures ∙ c.if-not-rows_fit.false)
