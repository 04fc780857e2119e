use Rattle.std.proofs.Common.{◌↔◌, length, map}
use Rattle.fc_kind.specs.Names.{Has}
use Rattle.fc_kind.proofs.kinds.find.Given as goal

-- one that is left has the name exactly where one of all has it
abbrev pub invariant-loop-kind : goal.invariant-loop-kind
invariant-loop-kind g l = Has l.wanted (map g.K.FacetKind.name l.rest) ↔ Has l.wanted (map g.K.FacetKind.name l.fn.kinds)

abbrev pub decreases-loop-kind : goal.decreases-loop-kind
decreases-loop-kind g l = length l.rest
