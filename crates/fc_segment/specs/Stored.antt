-- What columns stand for, position by position.
use Rattle.std.specs.Prelude.{◌≡◌, ℕ, List, [], length, map, slice_index_or, All, Bool, true}
use Rattle.std.specs.List.{range_with_len}
use Rattle.fc_spec.specs.documents.Val.{Val}
use Rattle.fc_spec.specs.documents.Document.{Document}
use Rattle.fc_segment.specs.Columns.{column_values, is_text_column}
use Rattle.fc_segment.specs.Ids.{ParentsById}
use Rattle.fc_segment.specs.declared.column.Column.{Column}
use Rattle.fc_segment.specs.Cut.{cut, ends_with_parent}
use Rattle.fc_segment.specs.Columned.{Columned}
use Rattle.fc_segment.specs.declared.segment_core.SegmentCore.TheInside.{Inside}

-- the document at a position: its values in each column
abbrev pub document_at : List (List (List Val)) → ℕ → Document
document_at columns at = map (λ column. slice_index_or column at []) columns

-- the documents of so many positions
abbrev pub documents_at : List (List (List Val)) → ℕ → List Document
documents_at columns count = map (document_at columns) (range_with_len 0 count)

-- the documents are cut behind the parents
abbrev pub columned : List Bool → List Column → Columned
columned parents columns = record {
  texts = map is_text_column columns;
  blocks = cut parents (documents_at (map column_values columns) (length parents));
}

abbrev pub stored : Inside → Columned
stored s = columned s.parents s.columns.items

-- each column has the positions of the set of parents, the last of them is a parent, and they are known by their ids
pub record IsStored (s : Inside) : Type 0 where
  pub even : All (λ column. length (column_values column) ≡ length s.parents) s.columns.items
  pub whole : ends_with_parent true s.parents ≡ true
  pub ids : ParentsById s.parents s.columns.items s.ids
