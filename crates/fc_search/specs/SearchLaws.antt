-- The laws that the promises of a search stand on.
use Rattle.fc_spec.specs.documents.Schema.{Schema}
use Rattle.fc_spec.specs.requests.Request.{Request}
use Rattle.fc_spec.specs.requests.ValidRequests.{IsSearchable}
use Rattle.fc_spec.specs.laws.FoldedNumbers.{FoldsIntoNumbers, FoldsSingleIndex}
use Rattle.fc_spec.specs.laws.Merging.{MergesIntoReply}
use Rattle.fc_spec.specs.laws.NumberedPaths.{AreNumberedPathsExact, AreNumberedTopsExact}
use Rattle.fc_spec.specs.laws.ReplacedLaw.{ReplacedAreSearchable, RestoresReply}
use Rattle.fc_spec.specs.laws.RequestLaws.{OnlyExactAreSearchable, ValidAreNamedApart, ValidHaveFewDepths, ValidSortExactByCount}
use Rattle.fc_spec.specs.laws.ShapedAnswers.{AnswersAreShaped}
use Rattle.fc_spec.specs.laws.SpellingLaw.{HasOneSpelling}
use Rattle.fc_spec.specs.laws.SumsLaw.{AnswersFit}
use Rattle.fc_spec.specs.laws.TopRoundsLaw.{OnlyExactHasTops}
use Rattle.fc_spec.specs.laws.TopsLaw.{AreByOffers}
use Rattle.fc_refine.specs.CountableRanges.{AreCountable}
use Rattle.fc_told.specs.Telling.{FitsExactly, TellsMore}

-- of answers that are told: they have the right shape, fit where no bucket is told twice, and have bytes that are no other message's; and rounds are few
pub record AreTellingLaws : Type 0 where
  pub shaped : AnswersAreShaped
  pub fit : AnswersFit
  pub more : TellsMore
  pub exact : FitsExactly
  pub spelled : HasOneSpelling
  pub depths : ValidHaveFewDepths

-- of requests that are valid but for names, and of what answers merge into
pub record AreMergingLaws : Type 0 where
  pub countable : (s : Schema) (r : Request) → IsSearchable s r → AreCountable r.nodes
  pub few : ValidHaveFewDepths
  pub merges : MergesIntoReply

-- of the exact facets of a valid request alone, and of query facets in their place
pub record AreReplacingLaws : Type 0 where
  pub sorted : ValidSortExactByCount
  pub apart : ValidAreNamedApart
  pub only : OnlyExactAreSearchable
  pub tops : OnlyExactHasTops
  pub searchable : ReplacedAreSearchable
  pub restored : RestoresReply

-- of replies with top buckets, and of folded ones
pub record AreReplyLaws : Type 0 where
  pub offers : AreByOffers
  pub numbers : FoldsIntoNumbers
  pub paths : AreNumberedPathsExact
  pub tops : AreNumberedTopsExact
  pub single : FoldsSingleIndex
