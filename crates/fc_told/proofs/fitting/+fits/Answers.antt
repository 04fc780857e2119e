use Rattle.std.proofs.Common.{◌∙◌, ◌&&◌, ◌+◌, Bool, ap, sym, drop}
use Rattle.std.specs.Prelude.{option_map}
use Rattle.std.proofs.lemmas.List.{drop_all}
use Rattle.fc_partial.specs.BucketView.{buckets_view, rows_view}
use Rattle.fc_request.specs.FacetNode.{kind_of}
use Rattle.fc_request.specs.NodeView.{nodes_view}
use Rattle.fc_request.proofs.Nodes.{has_buckets_by}
use Rattle.fc_told.specs.Fitting as fitting
use Rattle.fc_told.specs.Trees.{Tree}
use Rattle.fc_told.specs.TreeView.{tree_there}
use Rattle.fc_told.proofs.Fits.{bucket_first, statistic_passed, row_first, rows_done}
use Rattle.fc_told.proofs.fitting.+fits.Goals as goal

pub row_fits-returns-then-not-bucket_fits : goal.row_fits-returns-then-not-bucket_fits
row_fits-returns-then-not-bucket_fits t c =
    let T : Tree = tree_there (option_map (λ bucket. bucket.now) c.args.told) in
    let bs = c.deref-bucket-items.result.now in
    let N = nodes_view c.args.nodes.now in
    let rest : Bool = fitting.partials_fit T c.args.number (buckets_view (drop (c.loop-bucket.bucket-index + 1) bs)) N in
    sym (c.loop-bucket.invariant ∙ bucket_first T _ c.args.number bs c.loop-bucket.bucket-index c.bucket-item.result N _ c.loop-bucket-test.true c.bucket-item.is c.child_of-there.ensures c.bucket_fits.ensures
    ∙ ap (λ b. b && rest) c.if-not-bucket_fits.true)

pub row_fits-loop-bucket-preserved : goal.row_fits-loop-bucket-preserved
row_fits-loop-bucket-preserved t c =
    let T : Tree = tree_there (option_map (λ bucket. bucket.now) c.args.told) in
    let bs = c.deref-bucket-items.result.now in
    let N = nodes_view c.args.nodes.now in
    let rest : Bool = fitting.partials_fit T c.args.number (buckets_view (drop (c.loop-bucket.bucket-index + 1) bs)) N in
    c.loop-bucket.invariant ∙ bucket_first T _ c.args.number bs c.loop-bucket.bucket-index c.bucket-item.result N _ c.loop-bucket-test.true c.bucket-item.is c.child_of-there.ensures c.bucket_fits.ensures
    ∙ ap (λ b. b && rest) c.if-not-bucket_fits.false

pub rows_fit-loop-number-preserved-in-Stat : goal.rows_fit-loop-number-preserved-in-Stat
rows_fit-loop-number-preserved-in-Stat t c =
    let T : Tree = tree_there (option_map (λ bucket. bucket.now) c.args.told) in
    c.loop-number.invariant ∙ statistic_passed T c.args.nodes.now c.loop-number.number c.index-nodes-number.result c.loop-number-test.true c.index-nodes-number.is c.loop-number.left.now _ c.in-Stat.is

pub rows_fit-returns-then-not-row_fits : goal.rows_fit-returns-then-not-row_fits
rows_fit-returns-then-not-row_fits t c =
    let T : Tree = tree_there (option_map (λ bucket. bucket.now) c.args.told) in
    let ns = c.args.nodes.now in
    let i = c.loop-number.number in
    let n = c.index-nodes-number.result in
    let rest : Bool = fitting.rows_fit T (i + 1) (rows_view c.in-Some.rest.now) (nodes_view (drop (i + 1) ns)) in
    sym (c.loop-number.invariant
    ∙ row_first T ns i n c.loop-number-test.true c.index-nodes-number.is c.loop-number.left.now c.in-Some.rest.now c.in-Some.row.now c.deref.result.now _ (has_buckets_by (kind_of n) c.in_default.not-Stat) c.in-Some.ensures.cases.0 c.deref.ensures.value c.row_fits.ensures
    ∙ ap (λ b. b && rest) c.if-not-row_fits.true)

pub rows_fit-loop-number-preserved : goal.rows_fit-loop-number-preserved
rows_fit-loop-number-preserved t c =
    let T : Tree = tree_there (option_map (λ bucket. bucket.now) c.args.told) in
    let ns = c.args.nodes.now in
    let i = c.loop-number.number in
    let n = c.index-nodes-number.result in
    let rest : Bool = fitting.rows_fit T (i + 1) (rows_view c.in-Some.rest.now) (nodes_view (drop (i + 1) ns)) in
    c.loop-number.invariant
    ∙ row_first T ns i n c.loop-number-test.true c.index-nodes-number.is c.loop-number.left.now c.in-Some.rest.now c.in-Some.row.now c.deref.result.now _ (has_buckets_by (kind_of n) c.in_default.not-Stat) c.in-Some.ensures.cases.0 c.deref.ensures.value c.row_fits.ensures
    ∙ ap (λ b. b && rest) c.if-not-row_fits.false

pub rows_fit-returns : goal.rows_fit-returns
rows_fit-returns t c =
    let T : Tree = tree_there (option_map (λ bucket. bucket.now) c.args.told) in
    sym (c.loop-number.invariant ∙ rows_done T c.loop-number.number c.loop-number.number c.loop-number.left.now c.args.nodes.now (drop_all c.loop-number.number c.args.nodes.now c.loop-number-test.false))
