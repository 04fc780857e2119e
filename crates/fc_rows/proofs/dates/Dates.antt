-- What date texts and gap texts say, and what a gap later is.
use Rattle.std.specs.Prelude.{ℕ, ◌≡◌, None, Some, refl, codes, option_map, Option}
use Rattle.std.specs.Option.{option_and_then}
use Prim.Native.String.{String}
use Rattle.fc_spec.specs.dates.DateTexts.{canonical_of}
use Rattle.fc_spec.specs.dates.GapTexts.{months, days, seconds, gap_of}
use Rattle.fc_spec.specs.dates.Adding.{added}

-- the text is a date text with this canonical text
abbrev Says : String → String → Type 0
Says t c = canonical_of (codes t) ≡ Some (codes c)

-- it is none
abbrev IsNone : String → Type 0
IsNone t = canonical_of (codes t) ≡ None

-- the date text a gap text later
abbrev Later : String → String → String → Type 0
Later t gap sum = option_and_then (added (codes t)) (gap_of (codes gap)) ≡ Some (codes sum)

abbrev Beyond : String → String → Type 0
Beyond t gap = option_and_then (added (codes t)) (gap_of (codes gap)) ≡ None

pub fractions :
    Says "2024-02-10T00:00:00Z" "2024-02-10T00:00:00.000Z"
    × Says "2024-02-29T00:00:00.5Z" "2024-02-29T00:00:00.500Z"
    × Says "2024-04-30T23:59:59.123456789Z" "2024-04-30T23:59:59.123Z"
    × Says "0001-01-01T00:00:00.999999999Z" "0001-01-01T00:00:00.999Z"
    × IsNone "2024-02-10T00:00:00.Z"
    × IsNone "2024-02-10T00:00:00.1234567890Z"
fractions = (refl, refl, refl, refl, refl, refl)

pub forms :
    IsNone "2024-02-10T00:00:00z"
    × IsNone "2024-02-10t00:00:00Z"
    × IsNone "2024-02-10T00:00:00+00:00"
    × IsNone "2024-02-10T00:00:00"
    × IsNone "2024-02-10T00:00Z"
    × IsNone "2024-02-10"
    × IsNone "24-02-10T00:00:00Z"
    × IsNone "-024-02-10T00:00:00Z"
    × IsNone "2024-02-10T00:00:00Z "
    × IsNone ""
forms = (refl, refl, refl, refl, refl, refl, refl, refl, refl, refl)

pub days_of_the_calendar :
    Says "2000-02-29T00:00:00Z" "2000-02-29T00:00:00.000Z"
    × IsNone "1900-02-29T00:00:00Z"
    × IsNone "2023-02-29T00:00:00Z"
    × IsNone "2024-04-31T00:00:00Z"
    × IsNone "2024-13-01T00:00:00Z"
    × IsNone "2024-00-01T00:00:00Z"
    × IsNone "2024-01-00T00:00:00Z"
    × IsNone "0000-01-01T00:00:00Z"
    × Says "9999-12-31T23:59:59Z" "9999-12-31T23:59:59.000Z"
    × IsNone "2024-01-01T24:00:00Z"
    × IsNone "2024-01-01T00:60:00Z"
    × IsNone "2024-01-01T00:00:60Z"
days_of_the_calendar = (refl, refl, refl, refl, refl, refl, refl, refl, refl, refl, refl, refl)

pub gaps :
    (gap_of (codes "+1MONTH") ≡ Some (record { unit = months; number = 1 }))
    × (gap_of (codes "+9999YEARS") ≡ Some (record { unit = months; number = 119_988 }))
    × (gap_of (codes "+7DAYS") ≡ Some (record { unit = days; number = 7 }))
    × (gap_of (codes "+12HOUR") ≡ Some (record { unit = seconds; number = 43_200 }))
    × (gap_of (codes "+30MINUTES") ≡ Some (record { unit = seconds; number = 1800 }))
    × (gap_of (codes "+1SECOND") ≡ Some (record { unit = seconds; number = 1 }))
    × (gap_of (codes "+1FORTNIGHT") ≡ None)
    × (gap_of (codes "+0DAYS") ≡ None)
    × (gap_of (codes "+01DAY") ≡ None)
    × (gap_of (codes "+10000DAYS") ≡ None)
    × (gap_of (codes "1DAY") ≡ None)
    × (gap_of (codes "+DAY") ≡ None)
    × (gap_of (codes "+1DAYSS") ≡ None)
    × (gap_of (codes "+1days") ≡ None)
    × (gap_of (codes "+1MONTHS+1DAY") ≡ None)
gaps = (refl, refl, refl, refl, refl, refl, refl, refl, refl, refl, refl, refl, refl, refl, refl)

pub sums :
    Later "2024-01-31T00:00:00Z" "+1MONTH" "2024-02-29T00:00:00.000Z"
    × Later "2024-01-31T00:00:00Z" "+2MONTHS" "2024-03-31T00:00:00.000Z"
    × Later "2024-02-29T00:00:00Z" "+1MONTH" "2024-03-29T00:00:00.000Z"
    × Later "2024-02-29T12:00:00.5Z" "+1YEAR" "2025-02-28T12:00:00.500Z"
    × Later "2024-12-31T23:59:59Z" "+1SECOND" "2025-01-01T00:00:00.000Z"
    × Later "1970-01-01T00:00:00Z" "+9999DAYS" "1997-05-18T00:00:00.000Z"
    × Later "2000-01-01T00:00:00Z" "+9999HOURS" "2001-02-20T15:00:00.000Z"
    × Beyond "9999-12-31T23:59:59.999Z" "+1SECOND"
    × Later "9999-12-31T23:59:58.999Z" "+1SECOND" "9999-12-31T23:59:59.999Z"
sums = (refl, refl, refl, refl, refl, refl, refl, refl, refl)
