use Rattle.std.proofs.Common.{◌≡◌, true, All, sym, subst}
use Rattle.fc_count.proofs.countings.Countings.into_parts.Goals as goal

pub returns-clause-counted : goal.returns-clause-counted
returns-clause-counted c = λ p all. c.self.invariant.counted p (subst (All (λ x. p x.at ≡ true)) (sym c.self.view_is) all)
