use Rattle.std.proofs.Common.{◌≡◌, ◌∙◌, sym}
use Rattle.fc_spec.proofs.messages.Keys.{same_key_exact}
use Rattle.fc_partial.specs.View.{key_view}
use Rattle.fc_units.proofs.asked.same_step.Goals as goal

pub returns-then-one-other : goal.returns-then-one-other
returns-then-one-other c same =
    let key : key_view c.args.one.now.key ≡ key_view c.args.other.now.key = same_key_exact _ _ (sym c.eq.ensures ∙ same) in
    (λ i. record { node = c.if-one-other.true i; key = key i })
