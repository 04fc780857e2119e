use Rattle.std.proofs.Common.{◌≡◌, [], false, map, get_or, w64, to_z, of_z, sym, ap, ap₂, ◌∙◌, arith, rules}
use Rattle.fc_lane.specs.Between.{is_between}
use Rattle.fc_column.specs.Longs.{has_between}
use Rattle.fc_column.proofs.InOrder.{among_if_any, any_at}
use Rattle.fc_column.proofs.Singles.{has_between-singles}
use Rattle.fc_column.proofs.long.LongColumn.between.Goals as goal

pub mark-requires : goal.mark-requires
mark-requires c = λ k d inside.
    let below = c.positions_between-found.ensures.within k d inside in
    omega (arith, below, c.requires)

pub returns-in_default-clause-bits : goal.returns-in_default-clause-bits
returns-in_default-clause-bits c = λ at.
    let column = c.args.self.now in
    let lo = to_z w64 (of_z w64 c.args.lo) in
    let hi = to_z w64 (of_z w64 c.args.hi) in
    let low : lo ≡ c.args.lo = search rules in
    let high : hi ≡ c.args.hi = search rules in
    c.mark.ensures at
    ∙ among_if_any (is_between lo hi) at c.positions_between-found.result.now (get_or column at []) (c.positions_between-found.ensures.positions at)
    ∙ any_at (is_between lo hi) column at
    ∙ ap₂ (λ a b. get_or (map (has_between a b) column) at false) low high

pub returns-in-Some-clause-bits : goal.returns-in-Some-clause-bits
returns-in-Some-clause-bits c = λ at.
    let values = c.in-Some.values.now in
    let lo = to_z w64 (of_z w64 c.args.lo) in
    let hi = to_z w64 (of_z w64 c.args.hi) in
    let low : lo ≡ c.args.lo = search rules in
    let high : hi ≡ c.args.hi = search rules in
    c.mask_between.ensures at
    ∙ ap₂ (λ a b. get_or (map (is_between a b) values) at false) low high
    ∙ sym (ap (λ rows. get_or (map (has_between c.args.lo c.args.hi) rows) at false) c.in-Some.ensures.values
    ∙ ap (λ bits. get_or bits at false) (has_between-singles c.args.lo c.args.hi values))
