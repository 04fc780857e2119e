use Rattle.std.proofs.Common.{◌≡◌, ◌++◌, drop, map}
use Rattle.fc_coord.specs.CoordView.{state_view}
use Rattle.fc_round.specs.QuestionView.{question_view}
use Rattle.fc_tops.specs.Asked.{questions_from}
use Rattle.fc_search.specs.Asked.{exact_asks}
use Rattle.fc_search.proofs.questions.questions_of.Given as goal

-- the shards so far have theirs
abbrev pub invariant-loop-shard : goal.invariant-loop-shard
invariant-loop-shard l = map question_view l.questions.items ++ questions_from l.shard (drop l.shard (exact_asks (state_view l.coord).asks)) ≡ questions_from 0 (exact_asks (state_view l.coord).asks)
