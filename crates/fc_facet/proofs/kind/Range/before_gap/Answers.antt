use Rattle.std.proofs.Common.{◌∙◌, ◌*◌, ap, pos, w64, FitsSigned, unsigned_abs, ◌-ℤ◌, rules}
use Rattle.std.proofs.lemmas.Int.{to_z-of_z}
use Rattle.fc_facet.proofs.RangeGaps.{below_width, product_is, product_small, some_step}
use Rattle.fc_facet.proofs.kind.Range.before_gap.Goals as goal

pub overflow_mul-result : goal.overflow_mul-result
overflow_mul-result c =
    let first = c.from.ensures in
    let second = c.from-2.ensures in
    let small = product_small c.from.result c.from-2.result (search rules) (search rules) in
    search (rules, small)

pub returns-clause-small : goal.returns-clause-small
returns-clause-small c = product_small c.from.result c.from-2.result (search rules) (search rules)

pub returns-clause-product : goal.returns-clause-product
returns-clause-product c =
    let fits : FitsSigned w64 c.args.self.now.gap = search rules in
    let size = c.from-2.ensures ∙ c.unsigned_abs.ensures.value ∙ ap unsigned_abs (to_z-of_z w64 c.args.self.now.gap fits) in
    ap (λ n. pos (n * c.from-2.result)) c.from.ensures ∙ ap (λ n. pos (c.args.gap * n)) size ∙ product_is c.args.gap c.args.self.now.gap c.requires.forward.forward

pub returns-clause-below : goal.returns-clause-below
returns-clause-below c =
    let fits : FitsSigned w64 c.args.self.now.gap = search rules in
    let size = c.from-2.ensures ∙ c.unsigned_abs.ensures.value ∙ ap unsigned_abs (to_z-of_z w64 c.args.self.now.gap fits) in
    let step = some_step c.args.self.now.gap c.requires.forward.forward in
    let below = below_width c.args.gap (unsigned_abs c.args.self.now.gap) (unsigned_abs (c.args.self.now.end -ℤ c.args.self.now.start)) step c.requires.there in
    let first = c.from.ensures in
    rw (first, size) below
