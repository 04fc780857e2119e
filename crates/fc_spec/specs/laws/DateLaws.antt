-- The byte order of canonical texts is the order of time, and a gap later is later.
use Rattle.std.specs.Prelude.{◌≡◌, ◌≤◌, IsTrue, IfSome, Some}
use Rattle.std.specs.declared.cmp.Ordering.TheVariants.{Less}
use Rattle.fc_spec.specs.documents.Val.{Text, text_cmp}
use Rattle.fc_spec.specs.dates.Calendar.{Moment, is_moment, moment_cmp}
use Rattle.fc_spec.specs.dates.DateTexts.{canonical_text, moment_of, canonical_of, IsCanonical}
use Rattle.fc_spec.specs.dates.GapTexts.{Gap, gap_of}
use Rattle.fc_spec.specs.dates.Adding.{added}

-- canonical texts compare by their bytes as the moments that they say
abbrev pub TextsAreInOrder : Type 0
TextsAreInOrder = (a b : Moment) → IsTrue (is_moment a) → IsTrue (is_moment b) → text_cmp (canonical_text a) (canonical_text b) ≡ moment_cmp a b

-- a canonical text says the moment that it is of
abbrev pub AreReadAgain : Type 0
AreReadAgain = (m : Moment) → IsTrue (is_moment m) → moment_of (canonical_text m) ≡ Some m

-- the canonical text of a date text is its own
abbrev pub CanonicalsAreTheirOwn : Type 0
CanonicalsAreTheirOwn = (t : Text) → IfSome (canonical_of t) IsCanonical

-- a gap later there is a canonical text behind the one before
abbrev pub SumsAreLater : Type 0
SumsAreLater = (t : Text) (g : Gap) → IsCanonical t → 1 ≤ g.number → IfSome (added t g) (λ s. IsCanonical s × (text_cmp t s ≡ Less))

-- no gap text says a gap of nothing
abbrev pub GapsAreSome : Type 0
GapsAreSome = (t : Text) → IfSome (gap_of t) (λ g. 1 ≤ g.number)
