-- How deep buckets nest in a message, and which bytes spell it.
use Rattle.std.specs.Prelude.{◌≡◌, ℕ, suc, ◌≤◌, max, List, IsTrue, true, Bool}
use Rattle.std.specs.Str.{is_utf8}
use Rattle.fc_spec.specs.documents.Val.{text}
use Rattle.fc_spec.specs.requests.Buckets.{Key, value}
use Rattle.fc_spec.specs.messages.Message.{Partials, no_partials, partial, Rows, no_rows, row}
use Rattle.fc_spec.specs.messages.MessageBytes.{message_bytes}
use Rattle.fc_spec.specs.laws.SpellingLaw.{FitsMessage}

abbrev mutual
  -- 1 for a message's own buckets, one more for those in their nodes
  pub nesting : Partials → ℕ
  nesting no_partials = 0
  nesting (partial key stats rows rest) = max (suc (rows_nesting rows)) (nesting rest)

  pub rows_nesting : Rows → ℕ
  rows_nesting no_rows = 0
  rows_nesting (row ps rest) = max (nesting ps) (rows_nesting rest)

-- the text of a key is UTF-8
abbrev pub has_text : Key → Bool
has_text (value (text t)) = is_utf8 t
has_text _ = true

abbrev mutual
  pub AreTexts : Partials → Type 0
  AreTexts no_partials = Unit {0}
  AreTexts (partial key stats rows rest) = IsTrue (has_text key) × AreTextsIn rows × AreTexts rest

  pub AreTextsIn : Rows → Type 0
  AreTextsIn no_rows = Unit {0}
  AreTextsIn (row ps rest) = AreTexts ps × AreTextsIn rest

-- the message has bytes: its numbers fit, its texts are UTF-8, and its nesting is at most 9
abbrev pub IsMessage : Partials → Type 0
IsMessage m = FitsMessage m × AreTexts m × (nesting m ≤ 9)

-- the bytes spell the message
abbrev pub Spells : List ℕ → Partials → Type 0
Spells bytes m = (bytes ≡ message_bytes m) × IsMessage m
