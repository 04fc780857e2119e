-- Columns after one more document.
use Rattle.std.proofs.Common.{◌≡◌, ℕ, ◌+◌, ◌<◌, ◌≤◌, List, [], ◌∷◌, ◌++◌, length, get_or, map, sym, ap, ap₂, ◌∙◌, arith}
use Rattle.std.specs.List.{range_with_len}
use Rattle.std.proofs.lemmas.List.{get_or-map, length-map, ext_get_or, get_or_append_left, get_or_push}
use Rattle.std.proofs.lemmas.List.FromFn.{map-range_with_len_more, fill_by_all, length-map-range_with_len}
use Rattle.fc_spec.specs.documents.Val.{Val}
use Rattle.fc_spec.specs.documents.Document.{Document, values_of}
use Rattle.fc_spec.specs.documents.Columns.{column_of}
use Rattle.fc_lists.proofs.ItemsAt.{map_range_same}
use Rattle.fc_segment.specs.Building.{padded}
use Rattle.fc_segment.specs.Stored.{document_at, documents_at}
use Rattle.fc_segment.proofs.Transposed.{column_of-documents_at}
use Rattle.fc_segment.proofs.WalkedFields.{Rows, length-padded}

module _ (rows new : Rows) (len : ℕ) (d : Document) (same : length new ≡ length rows) (fields : length d ≡ length rows)
    (waits : (n : ℕ) → length (get_or rows n []) ≤ len)
    (pushed : (n : ℕ) → n < length rows → padded (len + 1) (get_or new n []) ≡ padded len (get_or rows n []) ++ values_of d n ∷ []) where
  -- the values of a field at a position
  value_at : (n at : ℕ) → n < length rows → get_or (get_or (map (padded (len + 1)) new) n []) at [] ≡ get_or (padded len (get_or rows n []) ++ values_of d n ∷ []) at []
  value_at n at within = ap (λ rows. get_or rows at []) (get_or-map (padded (len + 1)) new n [] [] (omega arith) ∙ pushed n within)

  earlier : (at : ℕ) → at < len → document_at (map (padded (len + 1)) new) at ≡ document_at (map (padded len) rows) at
  earlier at below =
      let columns = map (padded (len + 1)) new in
      let before = map (padded len) rows in
      let more = length-map new (padded (len + 1)) in
      let size = length-map rows (padded len) in
      let column_at : List (List Val) → List Val = λ column. get_or column at [] in
      ext_get_or [] (map column_at columns) (map column_at before)
      (length-map columns column_at ∙ more ∙ same ∙ sym (length-map before column_at ∙ size))
      (λ n inside.
      let within : n < length rows = omega (arith, length-map columns column_at, more, same, inside) in
      get_or-map column_at columns n [] [] (omega (arith, more, same)) ∙ value_at n at within
      ∙ get_or_append_left (padded len (get_or rows n [])) (values_of d n ∷ []) [] at (omega (arith, length-padded len (get_or rows n []) (waits n)))
      ∙ sym (get_or-map column_at before n [] [] (omega (arith, size)) ∙ ap column_at (get_or-map (padded len) rows n [] [] within)))

  last : document_at (map (padded (len + 1)) new) len ≡ d
  last =
      let columns = map (padded (len + 1)) new in
      let more = length-map new (padded (len + 1)) in
      let column_at : List (List Val) → List Val = λ column. get_or column len [] in
      ext_get_or [] (map column_at columns) d (length-map columns column_at ∙ more ∙ same ∙ sym fields)
      (λ n inside.
      let within : n < length rows = omega (arith, length-map columns column_at, more, same, inside) in
      get_or-map column_at columns n [] [] (omega (arith, more, same)) ∙ value_at n len within
      ∙ get_or_push (padded len (get_or rows n [])) (values_of d n) [] len (length-padded len (get_or rows n []) (waits n)))

  pub documents_pushed : documents_at (map (padded (len + 1)) new) (len + 1) ≡ documents_at (map (padded len) rows) len ++ d ∷ []
  documents_pushed =
      map-range_with_len_more (document_at (map (padded (len + 1)) new)) 0 len len (omega arith)
      ∙ ap₂ (λ ds x. ds ++ x ∷ [])
      (map_range_same (document_at (map (padded (len + 1)) new)) (document_at (map (padded len) rows)) len earlier)
      last

pub length-documents : (columns : List (List (List Val))) (len : ℕ) → length (documents_at columns len) ≡ len
length-documents columns len = length-map-range_with_len (document_at columns) 0 len

-- the columns are those of the documents
pub columns_are : (rows : Rows) (len : ℕ) → ((n : ℕ) → length (get_or rows n []) ≤ len)
    → map (padded len) rows ≡ map (λ field. column_of field (documents_at (map (padded len) rows) len)) (range_with_len 0 (length rows))
columns_are rows len waits =
    let columns = map (padded len) rows in
    let size = length-map rows (padded len) in
    fill_by_all (λ field. column_of field (documents_at columns len)) columns (length rows) [] size
    (λ n within. sym (column_of-documents_at columns len n (omega (arith, size))
    (ap length (get_or-map (padded len) rows n [] [] within) ∙ length-padded len (get_or rows n []) (waits n))))
