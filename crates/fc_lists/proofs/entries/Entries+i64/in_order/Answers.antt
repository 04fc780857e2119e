use Rattle.std.proofs.Common.{subst, ap, ◌∙◌}
use Rattle.fc_lists.specs.Ordered.{AreInOrder}
use Rattle.fc_lists.proofs.ItemsAt.{entries_below}
use Rattle.fc_lists.proofs.SortedEntries.{order_of_rows}
use Rattle.fc_lists.proofs.entries.Entries+i64.in_order.Goals as goal

pub returns : goal.returns
returns c =
    let inside = c.self.inside in
    let es = inside.entries.items in
    let values = c.in_ok-made.made.0.items in
    let positions = c.in_ok-made.made.1.items in
    let below = entries_below es inside.len c.self.invariant.within (ap (λ laid. laid.next) c.self.view_is ∙ c.requires) in
    subst (AreInOrder values positions) (ap (λ laid. laid.rows) c.self.view_is)
    (order_of_rows es inside.len values positions below c.in_ok-made.ensures)
