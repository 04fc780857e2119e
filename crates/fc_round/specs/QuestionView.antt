-- What questions stand for.
use Rattle.std.specs.Arc.{arc_value}
use Rattle.fc_spec.specs.messages.TopRounds.{ExactAsk, exact_first, exact_least, exact_more}
use Rattle.fc_refine.specs.AskView.{wants_view}
use Rattle.fc_round.specs.Questions.{ShardAsk}
use Rattle.fc_round.specs.declared.question.LentAsk.{LentAsk}
use Rattle.fc_round.specs.declared.question.LentAsk.TheVariants.{First, Least, More}
use Rattle.fc_round.specs.declared.question.Question.{Question}

abbrev pub lent_view : LentAsk → ExactAsk
lent_view First = exact_first
lent_view (Least counts) = exact_least counts.now
lent_view (More wants) = exact_more (wants_view (arc_value wants.now).items)

abbrev pub question_view : Question → ShardAsk
question_view q = record { shard = q.shard; ask = lent_view q.ask }
