use Rattle.std.proofs.Common.{ap, ◌∙◌}
use Rattle.fc_lists.specs.Items.{rows_below}
use Rattle.fc_lists.proofs.ItemsAt.{entries_below}
use Rattle.fc_lists.proofs.entries.Entries.rows.Goals as goal

pub of-requires-clause-below : goal.of-requires-clause-below
of-requires-clause-below g c =
    let inside = c.self.inside in
    rw c.deref.ensures.value (entries_below inside.entries.items inside.len c.self.invariant.within (ap (λ laid. laid.next) c.self.view_is ∙ c.requires))

pub returns : goal.returns
returns g c =
    c.in_ok-rows.ensures ∙ ap (λ entries. rows_below entries c.self.inside.len) c.deref.ensures.value ∙ ap (λ laid. laid.rows) c.self.view_is
