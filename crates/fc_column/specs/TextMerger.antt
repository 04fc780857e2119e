-- What a merger of columns of texts keeps.
use Rattle.std.specs.Prelude.{◌≡◌, ℕ, ◌+◌, ◌<◌, Bool, true, false, List, [], ◌∷◌, map, All}
use Rattle.std.specs.List.{list_any, range_with_len}
use Rattle.fc_spec.specs.documents.Val.{Text, text_cmp}
use Rattle.fc_spec.specs.documents.Columns.{IsAscending}
use Rattle.fc_lists.specs.Among.{is_among}
use Rattle.fc_column.specs.MergedTerms.{HaveOneText}
use Rattle.fc_column.specs.Numbering.{has_number, text_numbered, texts_numbered}
use Rattle.fc_column.specs.Terms.{has_text}
use Rattle.fc_column.specs.declared.text_merger.TextMerger.TheInside.{Inside}

-- the texts of each position
abbrev pub texts_merged : Inside → List (List Text)
texts_merged merger = map (map (text_numbered merger.texts.items)) merger.rows.rows

-- a number is below the count and has one text; each position has numbers of texts, and ascends; each text with a number is at a position
pub record Keeps (texts : List (Text × ℕ)) (count : ℕ) (rows : List (List ℕ)) : Type 0 where
  pub below : All (λ one. one.1 < count) texts
  pub one : HaveOneText texts
  pub numbered : All (All (λ n. has_number n texts ≡ true)) rows
  pub ascending : All (IsAscending text_cmp) (map (map (text_numbered texts)) rows)
  pub used : (t : Text) → has_text t (texts_numbered texts) ≡ list_any (has_text t) (map (map (text_numbered texts)) rows)

-- no position is left half made
pub record IsSound (merger : Inside) : Type 0 where
  pub keeps : Keeps merger.texts.items merger.count merger.rows.rows
  pub whole : merger.rows.next ≡ []

-- terms that pass, each with its number, where the first has the number n
abbrev pub numbered_terms : ℕ → List Text → List Bool → List (Text × ℕ)
numbered_terms n [] used = []
numbered_terms n (t ∷ terms) [] = []
numbered_terms n (t ∷ terms) (true ∷ used) = (t, n) ∷ numbered_terms (n + 1) terms used
numbered_terms n (t ∷ terms) (false ∷ used) = numbered_terms (n + 1) terms used

-- for each number below a count whether it is in a kept row
abbrev pub used_numbers : ℕ → List (List ℕ) → List Bool
used_numbers count rows = map (λ ord. list_any (is_among ord) rows) (range_with_len 0 count)
