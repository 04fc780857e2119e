use Rattle.std.proofs.Common.{◌∙◌, ap, w64, FitsSigned, unsigned_abs, arith, rules}
use Rattle.std.proofs.lemmas.Int.{to_z-of_z}
use Rattle.fc_facet.proofs.RangeGaps.{whole_width, some_step}
use Rattle.fc_facet.proofs.kind.Range.gap_count.Goals as goal

pub returns-clause-narrow : goal.returns-clause-narrow
returns-clause-narrow c =
    let fits : FitsSigned w64 c.args.self.now.gap = search rules in
    let size = c.unsigned_abs.ensures.value ∙ ap unsigned_abs (to_z-of_z w64 c.args.self.now.gap fits) in
    let count = c.div_ceil.ensures in
    let narrow = whole_width c.abs_diff.result (unsigned_abs c.args.self.now.gap) (some_step c.args.self.now.gap c.requires) in
    rw (count, size) (omega (arith, narrow))
