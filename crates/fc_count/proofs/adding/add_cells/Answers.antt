use Rattle.std.proofs.Common.{◌≡◌, ◌<◌, pos, to_z, w64, sym, subst, arith}
use Rattle.std.proofs.lemmas.Int.{ints}
use Rattle.std.specs.Option.{ForSome}
use Rattle.fc_spec.specs.requests.Statistics.{Stats}
use Rattle.fc_partial.specs.Adding.{AddUp}
use Rattle.fc_partial.specs.Celled.{cell_at}
use Rattle.fc_partial.specs.StatsView.{stats_view}
use Rattle.fc_partial.specs.Tallying.{entry_at}
use Rattle.fc_count.proofs.AddedKeys.{next_adds_up}
use Rattle.fc_count.proofs.adding.add_cells.Goals as goal

pub add-requires-clause-fits : goal.add-requires-clause-fits
add-requires-clause-fits g c =
    let n = c.loop-number.number in
    let key = g.K.Keys.key c.args.keys.now in
    let cells = c.args.cells.now.cells in
    let same : pos n ≡ to_z w64 n = omega (arith, ints) in
    let some : 0 < (cell_at cells n).count = omega (arith, c.count.ensures) in
    let fits = next_adds_up key cells c.args.bound n (omega arith) c.requires.apart c.args.into.now c.loop-number.into c.loop-number.invariant c.requires.add_up some in
    subst (λ z. ForSome (entry_at c.loop-number.into.entries (key z)) (λ there. AddUp there (stats_view c.in_ok-stats.field-0))) same
    (subst (λ (s : Stats). ForSome (entry_at c.loop-number.into.entries (key (pos n))) (λ there. AddUp there s)) (sym c.in_ok-stats.ensures) fits)
