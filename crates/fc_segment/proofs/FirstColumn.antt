-- The texts of field 0 of columns.
use Rattle.std.proofs.Common.{◌≡◌, ℕ, ◌<◌, ◌&&◌, Bool, List, [], ◌∷◌, length, get_or, map, Some, slice_get, sym, ap, ap₂, ◌∙◌, arith}
use Rattle.std.proofs.lemmas.List.{get_or-map, length-map}
use Rattle.std.proofs.lemmas.Simd.{map-map}
use Rattle.fc_spec.specs.documents.Columns.{column_of}
use Rattle.fc_spec.specs.documents.Sets.{zip_with}
use Rattle.fc_spec.specs.documents.Totals.{documents_in}
use Rattle.fc_spec.specs.documents.Val.{Text, has_val, text}
use Rattle.fc_docset.specs.Positions.{positions}
use Rattle.fc_column.specs.Terms.{terms_below, terms_of}
use Rattle.fc_column.proofs.TermLists.{has_val-texts}
use Rattle.fc_segment.specs.declared.column.Column.{Column}
use Rattle.fc_segment.specs.declared.column.Column.TheVariants as column
use Rattle.fc_segment.specs.declared.segment_core.SegmentCore.TheInside.{Inside}
use Rattle.fc_segment.specs.Columns.{column_values}
use Rattle.fc_segment.specs.Ids.{parents_having, ParentsByTerm}
use Rattle.fc_segment.specs.Parents.{parents_in}
use Rattle.fc_segment.specs.Stored.{stored, IsStored}
use Rattle.fc_segment.proofs.StoredBlocks.{column_of-stored, parents_in-stored}

first_of : (columns : List Column) (one : Column) → slice_get columns 0 ≡ Some one → (0 < length columns) × (one ≡ get_or columns 0 one)
first_of [] one is = absurd cc
first_of (c ∷ columns) one is = (omega arith, (cc))

module _ (s : Inside) (is : IsStored s) (texts : List (List Text)) (first : slice_get s.columns.items 0 ≡ Some (column.Text texts)) where
  pub first_even : length s.parents ≡ length texts
  first_even =
      let at = first_of s.columns.items (column.Text texts) first in
      sym (is.even 0 (column.Text texts) at.0) ∙ ap (λ (c : Column). length (column_values c)) (sym at.1) ∙ length-map texts (map text)

  pub first_having : (id : Text) → zip_with ◌&&◌ (parents_in (stored s).blocks) (map (has_val (text id)) (column_of 0 (documents_in (stored s).blocks))) ≡ parents_having id s.parents texts
  first_having id =
      let at = first_of s.columns.items (column.Text texts) first in
      ap₂ (λ parents rows. zip_with ◌&&◌ parents (map (has_val (text id)) rows)) (parents_in-stored s is) (column_of-stored s 0 (column.Text texts) is at.0 at.1)
      ∙ ap (zip_with ◌&&◌ s.parents) (map-map (has_val (text id)) (map text) texts ∙ (λ i. map (λ row. has_val-texts id row i) texts))

-- the list of a term
pub list_of_term : (parents : List Bool) (texts : List (List Text)) (lists : List (List ℕ)) (id : Text) (ord : ℕ) → ParentsByTerm parents texts (Some lists) → ord ≡ terms_below texts id → ord < length (terms_of texts)
    → get_or (terms_of texts) (terms_below texts id) [] ≡ id → get_or lists ord [] ≡ positions (parents_having id parents texts)
list_of_term parents texts lists id ord are place within term =
    let list : Text → List ℕ = λ t. positions (parents_having t parents texts) in
    ap (λ l. get_or l ord []) are ∙ get_or-map list (terms_of texts) ord [] [] within ∙ ap list (ap (λ n. get_or (terms_of texts) n []) place ∙ term)
