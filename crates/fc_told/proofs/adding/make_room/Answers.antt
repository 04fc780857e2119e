use Rattle.std.proofs.Common.{◌≡◌, ◌≤◌, ◌∙◌, ap, arith, length, length-append, ◌∷◌, []}
use Rattle.fc_told.specs.Adding.{changed_fork}
use Rattle.fc_told.specs.Parts.{branches_view, forks_view}
use Rattle.fc_told.specs.Trees.{no_branches}
use Rattle.fc_told.specs.TreeView.{node_view}
use Rattle.fc_told.specs.declared.tree.ToldNode.{ToldNode, roll-ToldNode, out-roll-ToldNode}
use Rattle.fc_told.proofs.Adds.{room_made}
use Rattle.fc_told.proofs.Levels.{node_is}
use Rattle.fc_told.proofs.adding.make_room.Goals as goal

pub loop-alloc-preserved : goal.loop-alloc-preserved
loop-alloc-preserved c =
    let n = roll-ToldNode (record { by_key = c.new-by_key.result }) in
    let empty : node_view n ≡ no_branches = node_is n ∙ ap (λ r. branches_view r.by_key.entries) (out-roll-ToldNode (record { by_key = c.new-by_key.result })) ∙ ap branches_view c.new-by_key.ensures.empty in
    let short : length c.loop-alloc.told.items ≤ c.args.place = omega arith in
    let more = ap (length {A = ToldNode}) c.in_ok-push.ensures.items in
    let joined = length-append {A = ToldNode} c.loop-alloc.told.items (n ∷ []) in
    record {
      same = λ f. ap (λ ns. changed_fork c.args.place f (forks_view ns)) c.in_ok-push.ensures.items ∙ room_made f c.loop-alloc.told.items n c.args.place short empty ∙ c.loop-alloc.invariant.same f;
      no_more = omega (arith, more, joined);
    }
