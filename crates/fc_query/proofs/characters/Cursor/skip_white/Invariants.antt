use Rattle.std.proofs.Common.{◌≡◌, length}
use Rattle.fc_spec.specs.queries.QueryCharacters.{behind, is_blank}
use Rattle.fc_query.proofs.characters.Cursor.skip_white.Given as goal

abbrev pub invariant-loop-first : goal.invariant-loop-first
invariant-loop-first l = behind is_blank l.self ≡ behind is_blank l.fn.self

abbrev pub decreases-loop-first : goal.decreases-loop-first
decreases-loop-first l = length l.self
