-- Texts with numbers, in the order of the texts, of which several may be one.
use Rattle.std.specs.Prelude.{◌≡◌, ℕ, ◌<◌, ◌≤◌, false, List, length, slice_index, slice_index_or, All}
use Rattle.std.specs.Ordering.{is_lt}
use Rattle.fc_spec.specs.documents.Val.{Text, text_cmp}
use Rattle.fc_column.specs.Dictionary.{term_at}

-- no text is below one ahead of it
abbrev pub NeverFall : List Text → Type 0
NeverFall texts = (i j : ℕ) (d : Text) → i ≤ j → j < length texts → is_lt (text_cmp (slice_index_or texts j d) (slice_index_or texts i d)) ≡ false

-- a text is below none of the terms
abbrev pub IsNotBelow : List Text → Text → Type 0
IsNotBelow terms t = All (λ term. is_lt (text_cmp t term) ≡ false) terms

-- a number has one text
abbrev pub HaveOneText : List (Text × ℕ) → Type 0
HaveOneText texts = All (λ a. All (λ b. a.1 ≡ b.1 → a.0 ≡ b.0) texts) texts

-- by each number stands the place of its text
abbrev pub ArePlaced : List Text → List ℕ → List (Text × ℕ) → Type 0
ArePlaced terms places texts = All (λ one. (slice_index places one.1 < length terms) × (term_at terms (slice_index places one.1) ≡ one.0)) texts
