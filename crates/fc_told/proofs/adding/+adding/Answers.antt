use Rattle.std.proofs.Common.{◌∙◌, ap, sym, unwrap_or, true, rules}
use Rattle.std.specs.BTreeMap.Entry.{map_with_value}
use Rattle.std.proofs.lemmas.List.{drop_all}
use Rattle.fc_partial.specs.BucketView as partial
use Rattle.fc_partial.specs.BucketView.{rows_view}
use Rattle.fc_partial.specs.StatsView.{stats_view}
use Rattle.fc_partial.specs.declared.bucket.PartialBucket.{out-PartialBucket}
use Rattle.fc_request.specs.FacetNode.{kind_of}
use Rattle.fc_request.specs.NodeView.{nodes_view}
use Rattle.fc_request.proofs.Nodes.{has_buckets_by}
use Rattle.fc_told.specs.Adding.{forks_of, numbers_added, partials_added, rows_added}
use Rattle.fc_told.specs.Parts.{forks_view}
use Rattle.fc_told.specs.Trees.{Branches, Tree}
use Rattle.fc_told.specs.TreeView.{node_view}
use Rattle.fc_told.proofs.Adds.{bucket_written, listed_is, node_put, row_added, rows_end, statistic_added}
use Rattle.fc_told.proofs.adding.+adding.Goals as goal

pub add_listed-returns : goal.add_listed-returns
add_listed-returns t c =
    let b = out-PartialBucket c.args.bucket in
    let s = c.args.shard in
    let N = nodes_view c.args.nodes.now in
    let f : Tree → Tree = λ T. numbers_added (record { shard = s; stats = stats_view b.stats; listed = true }) T (rows_added s 0 (rows_view b.nodes.items) N (forks_of T)) in
    bucket_written f c.args.told.now _ (map_with_value c.in_ok-told.field-0) b.key c.or_insert-there.result.now c.add_bucket.new.told c.new.result c.in_ok-told.ensures.ordered c.new.ensures (λ w. c.in_ok-told.ensures.update.1 w)
    (c.or_insert-there.ensures.value ∙ ap (λ o. unwrap_or o c.new.result) c.in_ok-told.ensures.value) c.in_ok-add_bucket.ensures (search rules)
    ∙ sym (listed_is s c.args.bucket N (node_view c.args.told.now))

pub add_rows-loop-number-preserved-in-Stat : goal.add_rows-loop-number-preserved-in-Stat
add_rows-loop-number-preserved-in-Stat t c =
    c.loop-number.invariant
    ∙ statistic_added c.args.shard c.args.nodes.now c.loop-number.number c.index-nodes-number.result c.loop-number-test.true c.index-nodes-number.is (forks_view c.loop-number.told.items) c.loop-number.left.rest.items _ c.in-Stat.is

pub add_rows-loop-number-preserved : goal.add_rows-loop-number-preserved
add_rows-loop-number-preserved t c =
    let i = c.loop-number.number in
    let n = c.index-nodes-number.result in
    let f : Branches → Branches = partials_added c.args.shard (partial.node_view c.in-Some.row) (nodes_view c.deref.result.now) in
    let d = c.index_mut-there.result.now in
    c.loop-number.invariant
    ∙ row_added c.args.shard c.args.nodes.now i n c.loop-number-test.true c.index-nodes-number.is (forks_view c.loop-number.told.items) c.loop-number.left.rest.items c.next.new.self.rest.items c.in-Some.row c.deref.result.now _
    (has_buckets_by (kind_of n) c.in_default.not-Stat) c.in-Some.ensures.items c.deref.ensures.value
    (node_put f c.make_room.new.told.items i c.add_row.new.told d c.in_ok-make_room.ensures.there (c.in_ok-add_row.ensures ∙ ap (λ x. f (node_view x)) c.index_mut-there.ensures.value) ∙ c.in_ok-make_room.ensures.same f)

pub add_rows-returns : goal.add_rows-returns
add_rows-returns t c =
    let i = c.loop-number.number in
    sym (c.loop-number.invariant ∙ rows_end c.args.shard i i c.loop-number.left.rest.items c.args.nodes.now (forks_view c.loop-number.told.items) (drop_all i c.args.nodes.now c.loop-number-test.false))
