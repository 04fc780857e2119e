use Rattle.std.proofs.Common.{◌≡◌, ◌++◌, drop, map}
use Rattle.fc_query.proofs.filter.names_of.Given as goal

abbrev pub invariant-loop-part : goal.invariant-loop-part
invariant-loop-part l = l.names.items ++ map (λ x. x.now) (drop l.part-index l.parts) ≡ map (λ x. x.now) l.parts
