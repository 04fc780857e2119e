use Rattle.std.proofs.Common.{◌+◌, ◌*◌, length, map}
use Rattle.fc_spec.specs.queries.TreeReading.{deeper_than, group_within}
use Rattle.fc_query.specs.TreeView.{clause_view, row_of}
use Rattle.fc_query.proofs.GroupsSoFar.{IsGroupSoFar}
use Rattle.fc_query.proofs.descent.+descent.Given as goal

abbrev pub decreases-nested : goal.decreases-nested
decreases-nested l = 8 * l.depth

abbrev pub decreases-named : goal.decreases-named
decreases-named l = 8 * l.depth + 1

abbrev pub decreases-behind_colon : goal.decreases-behind_colon
decreases-behind_colon l = 8 * l.depth + 2

abbrev pub decreases-atom : goal.decreases-atom
decreases-atom l = 8 * l.depth + 3

abbrev pub decreases-clause : goal.decreases-clause
decreases-clause l = 8 * l.depth + 4

abbrev pub decreases-group : goal.decreases-group
decreases-group l = 8 * l.depth + 5

abbrev pub invariant-group-others : goal.invariant-group-others
invariant-group-others l = IsGroupSoFar (map clause_view l.clauses.items) (deeper_than l.depth) l.in_field (row_of l.left) (group_within l.depth l.in_field (row_of l.tokens))

abbrev pub decreases-group-others : goal.decreases-group-others
decreases-group-others l = length (row_of l.left)
