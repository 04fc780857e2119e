-- Gaps that count a document, one ordinal after another.
use Rattle.std.specs.Prelude.{◌≡◌, ℕ, ◌<◌, ◌≤◌, List, length, Bool, true, false}
use Rattle.fc_date_range.specs.declared.span.Span.{Span}
use Rattle.fc_date_range.specs.GapSpans.{is_held}

-- the gaps that have counted it lie below a number; one of those below that holds an ordinal from a least one on has counted it
pub record AreReached (spans : List Span) (counted : ℕ → Bool) (least reached : ℕ) : Type 0 where
  pub within : reached ≤ length spans
  pub behind : (i : ℕ) → reached ≤ i → counted i ≡ false
  pub settled : (i ord : ℕ) → i < reached → least ≤ ord → is_held spans ord i ≡ true → counted i ≡ true

-- up to where gaps have been reached, before and after those that hold an ordinal counted: none behind holds it, and between them one that holds a later ordinal holds it
pub record Reaches (spans : List Span) (ord old new : ℕ) : Type 0 where
  pub rises : old ≤ new
  pub within : new ≤ length spans
  pub behind : (i : ℕ) → new ≤ i → is_held spans ord i ≡ false
  pub settled : (i later : ℕ) → old ≤ i → i < new → ord ≤ later → is_held spans later i ≡ true → is_held spans ord i ≡ true
