use Rattle.std.proofs.Common.{◌≡◌, ◌∙◌, ◌&&◌, true, false, sym}
use Rattle.std.specs.Int.{w128}
use Rattle.std.proofs.lemmas.Int.{to_z-of_z}
use Rattle.fc_range.specs.HeldEnds.{is_alone, is_from, is_to}
use Rattle.fc_range.proofs.HeldEnds.{lies_alone, lies_both}
use Rattle.fc_range.proofs.spans.between.Goals as goal

pub returns-then-is_alone : goal.returns-then-is_alone
returns-then-is_alone c = λ z long.
    let low = to_z-of_z w128 c.args.low c.ranges.low in
    let high = to_z-of_z w128 c.args.high c.ranges.high in
    let alone : is_alone c.args.low c.args.with_low c.args.high c.args.with_high ≡ true =
    (λ i. is_alone (sym low i) c.args.with_low (sym high i) c.args.with_high) ∙ sym c.is_alone.ensures ∙ c.if-is_alone.true in
    lies_alone c.args.low c.args.high z c.args.with_low c.args.with_high alone ∙ (λ i. is_from (sym low i) true z && is_to (sym high i) true z) ∙ c.from_to.ensures z long

pub returns : goal.returns
returns c = λ z long.
    let low = to_z-of_z w128 c.args.low c.ranges.low in
    let high = to_z-of_z w128 c.args.high c.ranges.high in
    let apart : is_alone c.args.low c.args.with_low c.args.high c.args.with_high ≡ false =
    (λ i. is_alone (sym low i) c.args.with_low (sym high i) c.args.with_high) ∙ sym c.is_alone.ensures ∙ c.if-is_alone.false in
    lies_both c.args.low c.args.high z c.args.with_low c.args.with_high c.requires apart ∙ (λ i. is_from (sym low i) c.args.with_low z && is_to (sym high i) c.args.with_high z) ∙ c.from_to-2.ensures z long
