use Rattle.std.proofs.Common.{◌≡◌, ◌∙◌, sym, to_z, of_z, rules}
use Rattle.std.specs.Int.{w128}
use Rattle.fc_spec.specs.requests.Gaps.{lies_in}
use Rattle.fc_range.proofs.spans.of_gap.Goals as goal

pub returns : goal.returns
returns c = λ z long.
    let low : to_z w128 (of_z w128 c.low_end_of.result) ≡ c.low_end_of.result = search rules in
    let high : to_z w128 (of_z w128 c.high_end_of.result) ≡ c.high_end_of.result = search rules in
    (λ i. lies_in (sym (low ∙ c.low_end_of.ensures) i) (sym c.holds_low.ensures i) (sym (high ∙ c.high_end_of.ensures) i) (sym c.holds_high.ensures i) z) ∙ c.between.ensures z long
