-- The blocks that columns stand for.
use Rattle.std.proofs.Common.{◌≡◌, ℕ, ◌<◌, List, [], length, get_or, map, All, Bool, true, sym, ap, ap₂, ◌∙◌, arith}
use Rattle.std.specs.List.{range_with_len}
use Rattle.std.proofs.lemmas.List.{get_or-map, length-map}
use Rattle.std.proofs.lemmas.List.FromFn.{length-map-range_with_len, get_or-map-range_with_len}
use Rattle.fc_spec.specs.documents.Document.{Document, Block, values_of}
use Rattle.fc_spec.specs.documents.Totals.{documents_in, document_total}
use Rattle.fc_spec.specs.documents.Columns.{column_of}
use Rattle.fc_segment.specs.declared.column.Column.{Column}
use Rattle.fc_segment.specs.declared.segment_core.SegmentCore.TheInside.{Inside}
use Rattle.fc_segment.specs.Columns.{column_values, is_text_column}
use Rattle.fc_segment.specs.Parents.{parents_in}
use Rattle.fc_segment.specs.Cut.{cut, ends_with_parent}
use Rattle.fc_segment.specs.Columned.{Columned}
use Rattle.fc_segment.specs.Stored.{columned, document_at, documents_at, stored, IsStored}
use Rattle.fc_segment.proofs.Cutting.{cut-documents_in, documents_in-cut, parents_in-cut, ends_with_parent-parents_in, length-parents_in}
use Rattle.fc_segment.proofs.Transposed.{column_of-documents_at, documents_at-columns_of}

-- ---- what is read of a segment
abbrev held : Inside → List Document
held s = documents_at (map column_values s.columns.items) (length s.parents)

length-held : (s : Inside) → length (held s) ≡ length s.parents
length-held s = length-map-range_with_len (document_at (map column_values s.columns.items)) 0 (length s.parents)

documents_in-stored : (s : Inside) → IsStored s → documents_in (stored s).blocks ≡ held s
documents_in-stored s is = documents_in-cut s.parents (held s) (sym (length-held s)) is.whole

pub document_total-stored : (s : Inside) → IsStored s → document_total (stored s).blocks ≡ length s.parents
document_total-stored s is = ap length (documents_in-stored s is) ∙ length-held s

pub parents_in-stored : (s : Inside) → IsStored s → parents_in (stored s).blocks ≡ s.parents
parents_in-stored s is = parents_in-cut s.parents (held s) (sym (length-held s)) is.whole

pub column_of-stored : (s : Inside) (field : ℕ) (column : Column) → IsStored s → field < length s.columns.items → column ≡ get_or s.columns.items field column
    → column_of field (documents_in (stored s).blocks) ≡ column_values column
column_of-stored s field column is within at =
    let columns = map column_values s.columns.items in
    let here : get_or columns field [] ≡ column_values column = get_or-map column_values s.columns.items field column [] within ∙ ap column_values (sym at) in
    let even : length (column_values column) ≡ length s.parents = ap (λ (x : Column). length (column_values x)) at ∙ is.even field column within in
    ap (column_of field) (documents_in-stored s is)
    ∙ column_of-documents_at columns (length s.parents) field (omega (arith, length-map s.columns.items column_values)) (ap length here ∙ even)
    ∙ here

-- ---- parents and columns that were made of blocks
pub record IsMadeOf (blocks : List Block) (count : ℕ) (parents : List Bool) (columns : List Column) : Type 0 where
  pub marks : parents ≡ parents_in blocks
  pub values : map column_values columns ≡ map (λ field. column_of field (documents_in blocks)) (range_with_len 0 count)

module _ (blocks : List Block) (count : ℕ) (parents : List Bool) (columns : List Column) (made : IsMadeOf blocks count parents columns) where
  pub made_even : All (λ column. length (column_values column) ≡ length parents) columns
  made_even field column within =
      let ds = documents_in blocks in
      let below : field < count = omega (arith, length-map columns column_values, ap length made.values, length-map-range_with_len (λ n. column_of n ds) 0 count) in
      ap length (sym (get_or-map column_values columns field column [] within)
      ∙ ap (λ l. get_or l field []) made.values
      ∙ get_or-map-range_with_len (λ n. column_of n ds) 0 count field field [] below (omega arith))
      ∙ length-map ds (λ d. values_of d field) ∙ sym (length-parents_in blocks) ∙ ap length (sym made.marks)

  pub made_whole : ends_with_parent true parents ≡ true
  made_whole = ap (ends_with_parent true) made.marks ∙ ends_with_parent-parents_in blocks

  made_blocks : All (λ d. length d ≡ count) (documents_in blocks) → (columned parents columns).blocks ≡ blocks
  made_blocks lists =
      ap₂ (λ marks values. cut marks (documents_at values (length marks))) made.marks made.values
      ∙ ap (λ n. cut (parents_in blocks) (documents_at (map (λ field. column_of field (documents_in blocks)) (range_with_len 0 count)) n)) (length-parents_in blocks)
      ∙ ap (cut (parents_in blocks)) (documents_at-columns_of count (documents_in blocks) lists)
      ∙ cut-documents_in blocks

  pub made_columned : (texts : List Bool) → map is_text_column columns ≡ texts → All (λ d. length d ≡ count) (documents_in blocks) → columned parents columns ≡ record { texts = texts; blocks = blocks }
  made_columned texts kinds lists =
      ap₂ (λ (t : List Bool) (b : List Block). let core : Columned = record { texts = t; blocks = b } in core) kinds (made_blocks lists)
