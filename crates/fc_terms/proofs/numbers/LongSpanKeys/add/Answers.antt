use Rattle.std.proofs.Common.{◌≡◌, ◌+ℤ◌, ap, subst, to_z, of_z, w64, arith}
use Rattle.std.proofs.lemmas.Int.{ints}
use Rattle.std.specs.Option.{ForSome}
use Rattle.fc_spec.specs.requests.Buckets.{Key}
use Rattle.fc_partial.specs.Adding.{AddUp}
use Rattle.fc_partial.specs.StatsView.{stats_view}
use Rattle.fc_partial.specs.TallyParts.{long_key}
use Rattle.fc_partial.specs.Tallying.{entry_at}
use Rattle.fc_terms.proofs.numbers.LongSpanKeys.add.Goals as goal

pub add_long-requires-clause-fits : goal.add_long-requires-clause-fits
add_long-requires-clause-fits c =
    let least = c.args.self.now.least in
    let number = c.requires.number in
    let same : least +ℤ c.args.number ≡ to_z w64 (of_z w64 (to_z w64 (of_z w64 least) +ℤ to_z w64 (of_z w64 c.args.number))) = omega (arith, ints) in
    subst (λ (k : Key). ForSome (entry_at c.args.into.now.entries k) (λ there. AddUp there (stats_view c.args.stats.now))) (ap long_key same) c.requires.fits
