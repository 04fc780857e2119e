use Rattle.std.proofs.Common.{◌∙◌, ◌*◌, ◌+◌, ◌<◌, ◌^◌, ap, pos, w64, FitsSigned, unsigned_abs, arith, rules}
use Rattle.std.proofs.lemmas.Int.{to_z-of_z}
use Rattle.fc_spec.specs.requests.Gaps.{gap_count}
use Rattle.fc_facet.specs.KindView.{range_view}
use Rattle.fc_facet.proofs.RangeGaps.{product_is}
use Rattle.fc_facet.proofs.kind.Range.gaps_width.Goals as goal

pub overflow_mul-result : goal.overflow_mul-result
overflow_mul-result c =
    let fits : FitsSigned w64 c.args.self.now.gap = search rules in
    let size = c.from-2.ensures ∙ c.unsigned_abs.ensures.value ∙ ap unsigned_abs (to_z-of_z w64 c.args.self.now.gap fits) in
    let first = c.from.ensures in
    let narrow : c.from.result * c.from-2.result < 2 ^ 64 + c.from-2.result = rw (first, size) c.gap_count.ensures.narrow in
    search (rules, narrow)

pub returns-clause-small : goal.returns-clause-small
returns-clause-small c =
    let fits : FitsSigned w64 c.args.self.now.gap = search rules in
    let size = c.from-2.ensures ∙ c.unsigned_abs.ensures.value ∙ ap unsigned_abs (to_z-of_z w64 c.args.self.now.gap fits) in
    let first = c.from.ensures in
    let narrow : c.from.result * c.from-2.result < 2 ^ 64 + c.from-2.result = rw (first, size) c.gap_count.ensures.narrow in
    omega (arith, narrow)

pub returns-clause-product : goal.returns-clause-product
returns-clause-product c =
    let fits : FitsSigned w64 c.args.self.now.gap = search rules in
    let size = c.from-2.ensures ∙ c.unsigned_abs.ensures.value ∙ ap unsigned_abs (to_z-of_z w64 c.args.self.now.gap fits) in
    ap (λ n. pos (n * c.from-2.result)) (c.from.ensures ∙ c.gap_count.ensures.count) ∙ ap (λ n. pos (gap_count (range_view c.args.self.now) * n)) size ∙ product_is (gap_count (range_view c.args.self.now)) c.args.self.now.gap c.requires
