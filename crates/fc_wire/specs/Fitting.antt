-- What has bytes.
use Rattle.std.specs.Prelude.{IsTrue}
use Rattle.fc_spec.specs.requests.Buckets.{Key}
use Rattle.fc_spec.specs.messages.Message.{Partials, Rows}
use Rattle.fc_spec.specs.messages.Nesting.{has_text, AreTexts, AreTextsIn}
use Rattle.fc_spec.specs.laws.SpellingLaw.{FitsKey, FitsPartials, FitsRows}

-- its numbers fit, and its text is UTF-8
abbrev pub KeyFits : Key → Type 0
KeyFits key = FitsKey key × IsTrue (has_text key)

-- so it is with all keys in these
abbrev pub BucketsFit : Partials → Type 0
BucketsFit ps = FitsPartials ps × AreTexts ps

abbrev pub NodesFit : Rows → Type 0
NodesFit rows = FitsRows rows × AreTextsIn rows
