use Rattle.std.proofs.Common.{◌≡◌, ◌∙◌, sym, to_z, of_z, rules}
use Rattle.std.specs.Int.{w128}
use Rattle.fc_spec.specs.requests.Gaps.{lies_in}
use Rattle.fc_range.proofs.spans.of_between.Goals as goal

pub returns : goal.returns
returns c = λ z long.
    let low : to_z w128 (of_z w128 c.from.result) ≡ c.args.range.now.start = search rules in
    let high : to_z w128 (of_z w128 c.last_end.result) ≡ c.last_end.result = search rules in
    (λ i. lies_in (sym low i) (sym c.holds_start.ensures i) (sym (high ∙ c.last_end.ensures) i) (sym c.holds_end.ensures i) z) ∙ c.between.ensures z long
