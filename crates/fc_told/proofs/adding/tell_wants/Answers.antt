use Rattle.std.proofs.Common.{◌≡◌, ◌∙◌, ◌+◌, ◌∷◌, suc, drop, drop-cons, add-one, ap, sym}
use Rattle.fc_request.specs.NodeView.{nodes_view}
use Rattle.fc_told.specs.TreeView.{tree_view}
use Rattle.fc_told.proofs.Adds.{want_added, names_later}
use Rattle.fc_told.proofs.adding.tell_wants.Goals as goal

pub loop-want-preserved : goal.loop-want-preserved
loop-want-preserved c =
    let N = nodes_view c.args.nodes.now in
    let ws = c.args.wants.now in
    let i = c.loop-want.want-index in
    let w = c.want-item.result in
    let first : drop i ws ≡ w ∷ drop (i + 1) ws = rw add-one (drop-cons ws i w c.loop-want-test.true ∙ ap (λ x. x ∷ drop (suc i) ws) (sym c.want-item.is)) in
    record {
      added = c.loop-want.invariant.added
          ∙ want_added N c.args.shard (tree_view c.loop-want.told) (tree_view c.add_wanted.new.told) (drop i ws) (drop (i + 1) ws) w c.loop-want.left.rest.items c.next.new.self.rest.items c.in-Some.bucket
          first c.in-Some.ensures.items c.in_ok-add_wanted.ensures;
      named = names_later N (drop i ws) (drop (i + 1) ws) w first c.loop-want.invariant.named;
    }
