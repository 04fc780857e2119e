use Rattle.std.proofs.Common.{vec_len, length, ap, arith}
use Rattle.fc_lists.specs.Starts.{starts_in}
use Rattle.fc_lists.proofs.Cuts.{length-cut}
use Rattle.fc_lists.proofs.lists.Lists.len.Goals as goal

pub returns : goal.returns
returns g c =
    let inside = c.self.inside in
    let long = length-cut (starts_in inside.starts (vec_len inside.items)) inside.items.items in
    let counted = rw c.len.ensures at c.count.ensures in
    omega (arith, long, ap length c.self.view_is, counted)
