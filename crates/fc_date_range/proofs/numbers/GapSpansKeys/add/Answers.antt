use Rattle.std.proofs.Common.{w64}
use Rattle.std.proofs.lemmas.Int.{to_z-of_z}
use Rattle.fc_date_range.proofs.numbers.GapSpansKeys.add.Goals as goal

pub add-requires-clause-fits : goal.add-requires-clause-fits
add-requires-clause-fits c =
    rw (to_z-of_z w64 c.args.number c.ranges.number) c.requires.fits
