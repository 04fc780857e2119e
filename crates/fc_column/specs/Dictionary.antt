-- What a dictionary and ordinals stand for.
use Rattle.std.specs.Prelude.{◌≡◌, ℕ, ◌^◌, ◌<◌, List, [], length, map, slice_index_or, All, vec_len}
use Rattle.std.specs.List.{range_with_len}
use Rattle.fc_spec.specs.documents.Val.{Text, text_cmp}
use Rattle.fc_spec.specs.documents.Columns.{IsAscending}
use Rattle.fc_docset.specs.Positions.{positions}
use Rattle.fc_lists.specs.Among.{is_among}
use Rattle.fc_column.specs.Terms.{terms_of}
use Rattle.fc_column.specs.declared.text.TextColumn.TheInside.{Inside}

abbrev pub term_at : List Text → ℕ → Text
term_at terms ord = slice_index_or terms ord []

-- the texts of each position
abbrev pub texts_of : Inside → List (List Text)
texts_of column = map (map (term_at column.terms.items)) column.ordinals

-- the dictionary has the column's terms, in order, each ordinal is the place of one, and beside it stand its positions
pub record IsDictionary (column : Inside) : Type 0 where
  pub complete : terms_of (texts_of column) ≡ column.terms.items
  pub sorted : IsAscending text_cmp column.terms.items
  pub small : vec_len column.terms < 2 ^ 32
  pub within : All (All (λ ord. ord < length column.terms.items)) column.ordinals
  pub ascending : All (IsAscending text_cmp) (texts_of column)
  pub placed : column.positions ≡ map (λ ord. positions (map (is_among ord) column.ordinals)) (range_with_len 0 (length column.terms.items))
