-- The terms of a column of texts.
use Rattle.std.specs.Prelude.{ℕ, Bool, ◌&&◌, List, map, count_by, nat_le, nat_lt}
use Rattle.std.specs.List.{flat_map, list_any}
use Rattle.std.specs.Ordering.{is_lt, is_le}
use Rattle.fc_spec.specs.documents.Val.{Text, text, text_cmp, same_text, distinct}
use Rattle.fc_spec.specs.documents.Columns.{texts_in}

-- the different texts of a column, in ascending order
abbrev pub terms_of : List (List Text) → List Text
terms_of column = texts_in (distinct (map text (flat_map (λ texts. texts) column)))

-- how many terms stand below a text, and how many below it or at it
abbrev pub terms_below : List (List Text) → Text → ℕ
terms_below column t = count_by (λ term. is_lt (text_cmp term t)) (terms_of column)

abbrev pub terms_up_to : List (List Text) → Text → ℕ
terms_up_to column t = count_by (λ term. is_le (text_cmp term t)) (terms_of column)

-- the ordinals of texts: how many terms stand below each
abbrev pub ordinals_in : List (List Text) → List Text → List ℕ
ordinals_in column texts = map (terms_below column) texts

-- whether a text is among texts
abbrev pub has_text : Text → List Text → Bool
has_text t texts = list_any (same_text t) texts

-- whether a number from lo up to but not including hi is among the ordinals
abbrev pub has_from_to : ℕ → ℕ → List ℕ → Bool
has_from_to lo hi ordinals = list_any (λ ord. nat_le lo ord && nat_lt ord hi) ordinals
