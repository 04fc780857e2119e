-- The absolute values of a document's integers, field by field.
use Rattle.std.specs.Prelude.{ℕ, List, sum_by, nat_abs}
use Rattle.fc_spec.specs.documents.Val.{Val, text, long}
use Rattle.fc_spec.specs.documents.Columns.{longs_in}
use Rattle.fc_spec.specs.documents.Document.{Document, values_of}
use Rattle.fc_docs.specs.Fields.{FieldValues, values_at}

-- the absolute value of an integer; a text adds nothing
abbrev pub absolute_value : Val → ℕ
absolute_value (text t) = 0
absolute_value (long z) = nat_abs z

-- the absolute values of the integers among values, added up
abbrev pub absolute_row : List Val → ℕ
absolute_row vs = sum_by nat_abs (longs_in vs)

-- those of the field of this number, added up; 0 past the last field
abbrev pub absolute_sum : Document → ℕ → ℕ
absolute_sum d field = absolute_row (values_of d field)

-- the same of the values that are kept
abbrev pub absolute_kept : FieldValues → ℕ → ℕ
absolute_kept es field = absolute_row (values_at es field)
