use Rattle.std.proofs.Common.{◌++◌, ◌∷◌, [], refl, ap, ◌∙◌}
use Rattle.fc_lists.specs.Entries.{laid_of}
use Rattle.fc_lists.proofs.ItemsAt.{laid_of-push}
use Rattle.fc_lists.proofs.entries.Entries.push.Goals as goal

pub returns-clause-ok : goal.returns-clause-ok
returns-clause-ok g c =
    let inside = c.self.inside in
    ap (λ es. laid_of es inside.len) c.in_ok-push.ensures.items
    ∙ laid_of-push inside.entries.items _ inside.len refl
    ∙ ap (λ laid. record { rows = laid.rows; next = laid.next ++ c.args.item ∷ [] }) c.self.view_is
