use Rattle.std.proofs.Common.{◌∙◌, w64, sym, ap}
use Rattle.std.proofs.lemmas.Int.{to_z-of_z}
use Rattle.fc_partial.specs.Tallying.{entry_at}
use Rattle.fc_partial.specs.TallyParts.{long_key}
use Rattle.fc_terms.proofs.long_keys.LongKeysKeys.add.Goals as goal

pub add_long-requires-clause-fits : goal.add_long-requires-clause-fits
add_long-requires-clause-fits c x found =
    c.requires.fits x (ap (λ n. entry_at c.args.into.now.entries (long_key n)) (sym (to_z-of_z w64 c.args.number c.ranges.number)) ∙ found)
