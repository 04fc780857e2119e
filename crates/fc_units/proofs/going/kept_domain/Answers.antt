use Rattle.std.proofs.Common.{inl, inr, refl}
use Rattle.fc_units.proofs.going.kept_domain.Goals as goal

pub returns-then-has_same_domain : goal.returns-then-has_same_domain
returns-then-has_same_domain c = inl (refl, c.has_same_domain.ensures c.if-has_same_domain.true)

pub returns-else-has_same_domain : goal.returns-else-has_same_domain
returns-else-has_same_domain c = inr c.new.ensures.items
