mod AsciiTexts
mod ReadDigits
mod Sums
mod CivilDays
mod CivilMoments
mod CanonicalTexts
mod CivilParts
