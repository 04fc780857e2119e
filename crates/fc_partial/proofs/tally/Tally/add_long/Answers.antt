use Rattle.std.proofs.Common.{◌∙◌, w64, of_z, to_z, sym, ap}
use Rattle.std.proofs.lemmas.Int.{to_z-of_z}
use Rattle.fc_partial.specs.StatsView.{stats_view}
use Rattle.fc_partial.specs.Tallied.{Tallied}
use Rattle.fc_partial.specs.Tallying.{entry_at}
use Rattle.fc_partial.specs.TallyParts.{long_key}
use Rattle.fc_partial.proofs.TallyEntries.{adds_when, at_long, with_long}
use Rattle.fc_partial.proofs.tally.Tally.add_long.Goals as goal

pub add_at-requires-clause-fits : goal.add_at-requires-clause-fits
add_at-requires-clause-fits c x found =
    let n = c.args.number in
    let same = to_z-of_z w64 n c.ranges.number in
    c.requires.fits x (ap (λ (t : Tallied). entry_at t.entries (long_key n)) (sym c.self.view_is) ∙ at_long c.self.inside c.self.invariant n (to_z w64 (of_z w64 n)) same ∙ found)

pub returns-clause-ok : goal.returns-clause-ok
returns-clause-ok c =
    let n = c.args.number in
    let same = to_z-of_z w64 n c.ranges.number in
    rw (← c.self.view_is) (with_long c.self.inside c.self.invariant (stats_view c.args.stats.now) c.add_at.new.entries n (to_z w64 (of_z w64 n)) same (rw c.deref.ensures.value at c.in_ok-add_at.ensures.added))

pub returns-clause-keys : goal.returns-clause-keys
returns-clause-keys c = adds_when c.args.self.now _ (long_key c.args.number) (stats_view c.args.stats.now) (returns-clause-ok c)
