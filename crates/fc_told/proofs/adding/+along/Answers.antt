use Rattle.std.proofs.Common.{◌∙◌, ◌∷◌, ap, sym, refl}
use Rattle.std.specs.Vec.{with_item}
use Rattle.std.specs.BTreeMap.{insert_entry}
use Rattle.fc_spec.specs.messages.Message.{Step}
use Rattle.fc_partial.specs.BucketView.{rows_view}
use Rattle.fc_partial.specs.StatsView.{stats_view}
use Rattle.fc_partial.specs.View.{key_view}
use Rattle.fc_partial.specs.declared.bucket.PartialBucket.{out-PartialBucket}
use Rattle.fc_refine.specs.Along.{nodes_along}
use Rattle.fc_request.specs.NodeView.{nodes_view}
use Rattle.fc_told.specs.Adding.{bucket_added, changed_at, changed_branch}
use Rattle.fc_told.specs.Steps.{steps_view}
use Rattle.fc_told.specs.Trees.{Tree}
use Rattle.fc_told.specs.TreeView.{node_view, tree_view}
use Rattle.fc_told.specs.declared.tree.ToldNode.{out-roll-ToldNode}
use Rattle.fc_told.proofs.Adds.{bucket_changed, bucket_put, names_within, step_put}
use Rattle.fc_told.proofs.Levels.{code_cmp}
use Rattle.fc_told.proofs.adding.+along.Goals as goal

pub add_along-prove-unreachable-requires : goal.add_along-prove-unreachable-requires
add_along-prove-unreachable-requires t c =
    names_within c.args.nodes.now (steps_view c.args.left) (steps_view c.in-Some.behind) (record { node = c.in-Some.node; key = key_view c.in-Some.key.now }) c.in-Some.ensures c.requires c.if-prove.true

pub add_along-returns-in_ok-add_below-in-Some : goal.add_along-returns-in_ok-add_below-in-Some
add_along-returns-in_ok-add_below-in-Some t c =
    let b = out-PartialBucket c.args.asked.bucket in
    let N = nodes_view c.args.nodes.now in
    let s : Step = record { node = c.in-Some.node; key = key_view c.in-Some.key.now } in
    let way = steps_view c.in-Some.behind in
    let there = c.index_mut-there.result.now in
    let added = bucket_added c.args.asked.shard (stats_view b.stats) (rows_view b.nodes.items) in
    step_put s way (added (nodes_along N (s ∷ way))) c.args.told.now c.make_room.new.told.items (with_item c.make_room.new.told c.in-Some.node c.add_below.new.told) c.add_below.new.told there c.in_ok-make_room-in-Some.ensures.there c.in_ok-make_room-in-Some.ensures.same
    c.index_mut-there.ensures.value (c.in_ok-add_below-in-Some.ensures ∙ ap (λ ns. changed_branch s.key (changed_at way (added (nodes_along ns way))) (node_view there)) c.nodes_in.ensures) refl
    ∙ ap (λ l. changed_at l (added (nodes_along N l)) (tree_view c.args.told.now)) (sym c.in-Some.ensures)

pub add_below-returns-in_ok-add_along-in-Some : goal.add_below-returns-in_ok-add_along-in-Some
add_below-returns-in_ok-add_along-in-Some t c =
    let b = out-PartialBucket c.args.asked.bucket in
    let way = steps_view c.args.left in
    let f : Tree → Tree = changed_at way (bucket_added c.args.asked.shard (stats_view b.stats) (rows_view b.nodes.items) (nodes_along (nodes_view c.args.nodes.now) way)) in
    let w = c.add_along.new.told in
    bucket_changed f c.args.told.now (c.get_mut.follows.lender w) c.args.key.now w c.get_mut.ensures.ordered c.in-Some.there.now (sym c.in-Some.ensures.value) c.in_ok-add_along-in-Some.ensures (c.get_mut.follows.holds w).0

pub add_below-returns-in_ok-insert-in-None : goal.add_below-returns-in_ok-insert-in-None
add_below-returns-in_ok-insert-in-None t c =
    let b = out-PartialBucket c.args.asked.bucket in
    let way = steps_view c.args.left in
    let f : Tree → Tree = changed_at way (bucket_added c.args.asked.shard (stats_view b.stats) (rows_view b.nodes.items) (nodes_along (nodes_view c.args.nodes.now) way)) in
    let w = c.add_along-in-None.new.told in
    let same = c.get_mut.follows.holds-at-none in
    bucket_put f c.args.told.now c.insert.new.self c.args.key.now w c.get_mut.ensures.ordered c.new-there.result c.new-there.ensures (sym c.in-None.ensures.value) c.in_ok-add_along-in-None.ensures
    (c.in_ok-insert-in-None.ensures.entries
    ∙ ap (λ r. insert_entry code_cmp r.by_key.entries c.in_ok-copy-in-None.field-0 w) (out-roll-ToldNode (record { by_key = c.get_mut.follows.lender-at-none }))
    ∙ (λ j. insert_entry code_cmp (same j).entries (c.in_ok-copy-in-None.ensures j) w))
