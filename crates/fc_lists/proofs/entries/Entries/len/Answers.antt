use Rattle.std.proofs.Common.{ap, arith, length}
use Rattle.std.proofs.lemmas.List.FromFn.{length-map-range_with_len}
use Rattle.fc_lists.specs.Items.{items_at}
use Rattle.fc_lists.proofs.entries.Entries.len.Goals as goal

pub returns : goal.returns
returns g c =
    let inside = c.self.inside in
    omega (arith, length-map-range_with_len (items_at inside.entries.items) 0 inside.len, ap (λ laid. length laid.rows) c.self.view_is)
