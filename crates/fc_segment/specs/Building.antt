-- What a column that is being made stands for.
use Rattle.std.specs.Prelude.{◌≡◌, ℕ, ◌-◌, ◌++◌, List, [], length, map, replicate, slice_index_or, All, Bool, true, false}
use Rattle.fc_spec.specs.documents.Val as definition
use Rattle.fc_spec.specs.documents.Columns.{IsAscending, is_text}
use Rattle.fc_spec.specs.documents.Document.{Document, values_of}
use Rattle.fc_segment.specs.declared.builder.Builder.{Builder}
use Rattle.fc_segment.specs.declared.builder.Builder.TheVariants.{Text, Long}

-- the values of each position so far
abbrev pub values_built : Builder → List (List definition.Val)
values_built (Text b) = map (map definition.text) b
values_built (Long b) = map (map definition.long) b

abbrev pub builds_texts : Builder → Bool
builds_texts (Text b) = true
builds_texts (Long b) = false

-- different values in index order, all texts or all integers
pub record IsRow (texts : Bool) (vs : List definition.Val) : Type 0 where
  pub of_kind : All (λ v. is_text v ≡ texts) vs
  pub ascending : IsAscending definition.val_cmp vs

-- for each field, where it is said of each whether it holds texts, such values
pub record FitsTexts (texts : List Bool) (d : Document) : Type 0 where
  pub lists : length d ≡ length texts
  pub rows : (n : ℕ) → IsRow (slice_index_or texts n false) (values_of d n)

-- a column with positions without a value behind it, up to a number of positions
abbrev pub padded : ℕ → List (List definition.Val) → List (List definition.Val)
padded len rows = rows ++ replicate (len - length rows) []
