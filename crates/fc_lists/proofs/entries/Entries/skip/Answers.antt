use Rattle.std.proofs.Common.{◌≡◌, ◌+◌, ◌++◌, [], replicate, ap, ◌∙◌, rules}
use Rattle.fc_lists.specs.Entries.{laid_of}
use Rattle.fc_lists.proofs.ItemsAt.{laid_of-skip}
use Rattle.fc_lists.proofs.entries.Entries.skip.Goals as goal

pub returns-clause-ok : goal.returns-clause-ok
returns-clause-ok g c =
    let inside = c.self.inside in
    let more : c.in_ok-self-inside.field-0 ≡ inside.len + c.args.count = search rules in
    ap (laid_of inside.entries.items) more
    ∙ laid_of-skip inside.entries.items inside.len c.args.count c.self.invariant.within (ap (λ laid. laid.next) c.self.view_is ∙ c.requires)
    ∙ ap (λ laid. record { rows = laid.rows ++ replicate c.args.count []; next = [] }) c.self.view_is
