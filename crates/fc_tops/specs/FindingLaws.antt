-- The laws that the finding of top values stands on.
use Rattle.fc_spec.specs.laws.SpellingLaw.{HasOneSpelling}
use Rattle.fc_exact.specs.Rounds.{AreAskable, HasFewerLeft, IsToldAtStart, IsToldFurther, TellsTops}

-- the answers of each round, in the order of the shards, are the messages of the defined rounds; and messages have bytes that are no other message's
pub record AreFindingLaws : Type 0 where
  pub start : IsToldAtStart
  pub taken : IsToldFurther
  pub fewer : HasFewerLeft
  pub tops : TellsTops
  pub askable : AreAskable
  pub spelled : HasOneSpelling
