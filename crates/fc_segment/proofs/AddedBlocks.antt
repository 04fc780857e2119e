-- The blocks that operations add, one operation after another.
use Rattle.std.proofs.Common.{◌≡◌, ℕ, ◌+◌, ◌<◌, ◌≤◌, List, [], ◌∷◌, ◌++◌, length, get_or, take, drop, map, All, sym, ap, subst, ◌∙◌, arith}
use Rattle.std.proofs.lemmas.List.{map_more, map-append, take-append-drop}
use Rattle.std.proofs.lemmas.List.Concat.{flat_map-append}
use Rattle.std.proofs.lemmas.List.Elements.{filter_map-append, All-take, All-drop}
use Rattle.std.proofs.Math.Seq.{take-append_seam, drop-append_seam}
use Rattle.fc_spec.specs.documents.Document.{Block}
use Rattle.fc_spec.specs.documents.Operations.{added_by, blocks_added}
use Rattle.fc_spec.specs.documents.Totals.{documents_in, document_total}
use Rattle.fc_spec.proofs.documents.BlockTotals.{documents_in-append, document_total-append}
use Rattle.fc_docs.specs.declared.block.Op.{Op}
use Rattle.fc_docs.specs.View.{op_view}
use Rattle.fc_segment.specs.Parents.{marks_of, parents_in}

-- the blocks that the operations before a place add
abbrev pub added_before : List Op → ℕ → List Block
added_before ops i = blocks_added (map op_view (take i ops))

module _ (ops : List Op) (i : ℕ) (op : Op) (inside : i < length ops) (is : op ≡ get_or ops i op) where
  pub added_more : added_before ops (i + 1) ≡ added_before ops i ++ blocks_added (op_view op ∷ [])
  added_more =
      ap blocks_added (map_more op_view ops i op inside ∙ ap (λ o. map op_view (take i ops) ++ op_view o ∷ []) (sym is))
      ∙ filter_map-append added_by (map op_view (take i ops)) (op_view op ∷ [])

  added_split : added_before ops (i + 1) ++ blocks_added (map op_view (drop (i + 1) ops)) ≡ blocks_added (map op_view ops)
  added_split =
      sym (filter_map-append added_by (map op_view (take (i + 1) ops)) (map op_view (drop (i + 1) ops)))
      ∙ ap blocks_added (sym (map-append op_view (take (i + 1) ops) (drop (i + 1) ops)) ∙ ap (map op_view) (take-append-drop (i + 1) ops))

  pub documents_more : documents_in (added_before ops (i + 1)) ≡ documents_in (added_before ops i) ++ documents_in (blocks_added (op_view op ∷ []))
  documents_more = ap documents_in added_more ∙ documents_in-append (added_before ops i) (blocks_added (op_view op ∷ []))

  pub total_more : document_total (added_before ops (i + 1)) ≡ document_total (added_before ops i) + document_total (blocks_added (op_view op ∷ []))
  total_more = ap document_total added_more ∙ document_total-append (added_before ops i) (blocks_added (op_view op ∷ []))

  pub parents_more : parents_in (added_before ops (i + 1)) ≡ parents_in (added_before ops i) ++ parents_in (blocks_added (op_view op ∷ []))
  parents_more = ap parents_in added_more ∙ flat_map-append marks_of (added_before ops i) (blocks_added (op_view op ∷ []))

  -- no more documents than those of all operations
  pub total_few : document_total (added_before ops i) + document_total (blocks_added (op_view op ∷ [])) ≤ document_total (blocks_added (map op_view ops))
  total_few =
      omega (arith, total_more, ap document_total added_split, document_total-append (added_before ops (i + 1)) (blocks_added (map op_view (drop (i + 1) ops))))

  pub added_here : (P : Block → Type 0) → All P (blocks_added (map op_view ops)) → All P (blocks_added (op_view op ∷ []))
  added_here P all =
      let before = added_before ops (i + 1) in
      let first : All P before = subst (All P) (ap (take (length before)) (sym added_split) ∙ take-append_seam before (blocks_added (map op_view (drop (i + 1) ops)))) (All-take P (length before) (blocks_added (map op_view ops)) all) in
      subst (All P) (ap (drop (length (added_before ops i))) added_more ∙ drop-append_seam (added_before ops i) (blocks_added (op_view op ∷ []))) (All-drop P (length (added_before ops i)) before first)
