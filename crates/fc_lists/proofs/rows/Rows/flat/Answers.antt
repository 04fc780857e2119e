use Rattle.std.proofs.Common.{sym, ap, ◌∙◌}
use Rattle.fc_lists.specs.Flat.{flat}
use Rattle.fc_lists.proofs.FlatRows.{flat_all}
use Rattle.fc_lists.proofs.rows.Rows.flat.Goals as goal

pub returns : goal.returns
returns g c =
    let inside = c.self.inside in
    c.flat.ensures ∙ sym (flat_all inside.words.items inside.lists c.self.invariant.whole inside.len c.self.invariant.none_past) ∙ ap flat c.self.view_is
