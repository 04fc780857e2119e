use Rattle.std.proofs.Common.{arith}
use Rattle.std.proofs.lemmas.List.{length-map}
use Rattle.fc_exact.specs.ToldView.{lent_view, lists_view}
use Rattle.fc_exact.specs.View.{told_view}
use Rattle.fc_exact.proofs.LentLists.{lists_set, with_told_past}
use Rattle.fc_exact.proofs.by_facet.add.Goals as goal

pub returns-then-len-node : goal.returns-then-len-node
returns-then-len-node c = with_told_past c.args.told.now.node (told_view c.args.told.now) (lists_view c.args.lists.now.items) (omega (arith, length-map c.args.lists.now.items (λ list. lent_view list.items)))

pub returns : goal.returns
returns c = lists_set c.args.lists.now.items c.args.told.now.node c.index_mut.result.now c.push.new.self c.args.told c.index_mut.ensures.value c.in_ok-push.ensures.items
