use Rattle.std.proofs.Common.{◌≡◌, ◌+◌, ◌++◌, ◌∷◌, [], ap, ◌∙◌, rules}
use Rattle.fc_lists.specs.Entries.{laid_of}
use Rattle.fc_lists.proofs.ItemsAt.{laid_of-end}
use Rattle.fc_lists.proofs.entries.Entries.end_row.Goals as goal

pub returns-clause-ok : goal.returns-clause-ok
returns-clause-ok g c =
    let inside = c.self.inside in
    let more : c.in_ok-self-inside.field-0 ≡ inside.len + 1 = search rules in
    ap (laid_of inside.entries.items) more
    ∙ laid_of-end inside.entries.items inside.len c.self.invariant.within
    ∙ ap (λ laid. record { rows = laid.rows ++ laid.next ∷ []; next = [] }) c.self.view_is
