use Rattle.std.proofs.Common.{length, map}
use Rattle.fc_spec.specs.queries.QueryRow.{tokens_of}
use Rattle.fc_query.specs.View.{token_view}
use Rattle.fc_query.proofs.SoFar.{IsSoFar}
use Rattle.fc_query.proofs.lex.tokens.Given as goal

abbrev pub invariant-loop-first : goal.invariant-loop-first
invariant-loop-first l = IsSoFar (map token_view l.tokens.items) l.behind_colon l.cursor (tokens_of l.text)

abbrev pub decreases-loop-first : goal.decreases-loop-first
decreases-loop-first l = length l.cursor
