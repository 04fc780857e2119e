-- The laws that the answers of a round stand on.
use Rattle.fc_spec.specs.laws.RequestLaws.{ExactAnswersNestLittle}
use Rattle.fc_spec.specs.laws.ShardAlone.{ExactFromItsBlocks}

-- answers are their shards' own, and nest no deeper than bytes can spell
pub record AreRoundLaws : Type 0 where
  pub alone : ExactFromItsBlocks
  pub nest : ExactAnswersNestLittle
