-- Texts with numbers, in any order.
use Rattle.std.specs.Prelude.{◌≡◌, ℕ, ◌^◌, ◌<◌, Bool, true, cond, ◌==◌, List, [], ◌∷◌, length, map, All}
use Rattle.std.specs.List.{list_any}
use Rattle.fc_spec.specs.documents.Val.{Text}

abbrev pub texts_numbered : List (Text × ℕ) → List Text
texts_numbered entries = map (λ entry. entry.0) entries

-- whether a text has the number
abbrev pub has_number : ℕ → List (Text × ℕ) → Bool
has_number n entries = list_any (λ entry. entry.1 == n) entries

-- the text that has the number
abbrev pub text_numbered : List (Text × ℕ) → ℕ → Text
text_numbered [] n = []
text_numbered (entry ∷ entries) n = cond (entry.1 == n) entry.0 (text_numbered entries n)

-- each number is below their count, and each text is the one that has its number
pub record IsNumbering (entries : List (Text × ℕ)) : Type 0 where
  pub small : length entries < 2 ^ 32
  pub below : (n : ℕ) → has_number n entries ≡ true → n < length entries
  pub own : All (λ entry. text_numbered entries entry.1 ≡ entry.0) entries
