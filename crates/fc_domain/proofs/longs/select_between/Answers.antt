use Rattle.std.proofs.Common.{◌≡◌, ℤ, ◌&&◌, int_le, w64, to_z, of_z, ◌∙◌, refl, sym, ap₂, rules}
use Rattle.fc_query.specs.QueryView.{bound_view}
use Rattle.fc_spec.specs.documents.Val.{long}
use Rattle.fc_domain.specs.Within.{PassesFromTo, meets}
use Rattle.fc_domain.proofs.LongRows.{longs_pass}
use Rattle.fc_domain.proofs.longs.select_between.Goals as goal

pub returns : goal.returns
returns c =
    let least = c.ends-least.result.0 in
    let greatest = c.ends-least.result.1 in
    let p = meets (bound_view c.args.low.now) (bound_view c.args.high.now) in
    let low : to_z w64 (of_z w64 least) ≡ least = search rules in
    let high : to_z w64 (of_z w64 greatest) ≡ greatest = search rules in
    let between : PassesFromTo (to_z w64 (of_z w64 least)) (to_z w64 (of_z w64 greatest)) (λ z. p (long z)) =
    λ z is. c.ends-least.ensures z is ∙ sym (ap₂ (λ (x y : ℤ). int_le x z && int_le z y) low high) in
    c.select_from_to.ensures (λ z. p (long z)) between ∙ longs_pass (λ z. p (long z)) p c.args.column.now (λ z. refl)
