use Rattle.std.proofs.Common.{length, ap, arith}
use Rattle.std.proofs.lemmas.List.FromFn.{length-map-range_with_len}
use Rattle.fc_lists.specs.Rows.{row_at}
use Rattle.fc_lists.proofs.rows.Rows.len.Goals as goal

pub returns : goal.returns
returns g c =
    let inside = c.self.inside in
    omega (arith, length-map-range_with_len (row_at inside.words.items inside.lists) 0 inside.len, ap length c.self.view_is)
