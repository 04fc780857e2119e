-- What the operations of batches add, one batch after another.
use Rattle.std.proofs.Common.{◌≡◌, ℕ, ◌+◌, ◌<◌, ◌≤◌, List, [], ◌∷◌, ◌++◌, length, get_or, take, drop, replicate, map, All, Bool, false, sym, ap, subst, ◌∙◌, arith}
use Rattle.std.proofs.lemmas.List.{append-nil, length-replicate, map_more, map-append, take-append-drop}
use Rattle.std.proofs.lemmas.List.Concat.{flat_map-append}
use Rattle.std.proofs.lemmas.List.Elements.{filter_map-append, All-take, All-drop}
use Rattle.std.proofs.Math.Seq.{take-append_seam, drop-append_seam}
use Rattle.fc_spec.specs.documents.Document as definition
use Rattle.fc_spec.specs.documents.Operations.{added_by, blocks_added}
use Rattle.fc_spec.specs.documents.Totals.{documents_in, document_total}
use Rattle.fc_spec.specs.words.Lists.{joined}
use Rattle.fc_spec.proofs.documents.BlockTotals.{documents_in-append, document_total-append}
use Rattle.fc_docs.specs.declared.block.Batch.{Batch}
use Rattle.fc_docs.specs.View.{batch_view}
use Rattle.fc_segment.specs.Begun.{begun}
use Rattle.fc_segment.specs.Parents.{marks_of, parents_in}
use Rattle.fc_segment.proofs.Begun.{begun-whole}
use Rattle.fc_segment.proofs.Cutting.{length-parents_in}

-- ---- of some operations and others behind them
module _ (front back : List definition.Op) where
  pub documents-front : documents_in (blocks_added (front ++ back)) ≡ documents_in (blocks_added front) ++ documents_in (blocks_added back)
  documents-front = ap documents_in (filter_map-append added_by front back) ∙ documents_in-append (blocks_added front) (blocks_added back)

  pub total-front : document_total (blocks_added (front ++ back)) ≡ document_total (blocks_added front) + document_total (blocks_added back)
  total-front = ap document_total (filter_map-append added_by front back) ∙ document_total-append (blocks_added front) (blocks_added back)

  parents-front : parents_in (blocks_added (front ++ back)) ≡ parents_in (blocks_added front) ++ parents_in (blocks_added back)
  parents-front = ap parents_in (filter_map-append added_by front back) ∙ flat_map-append marks_of (blocks_added front) (blocks_added back)

-- what holds of all holds of the first and of the others
module _ {X : Type 0} (P : X → Type 0) (front back all : List X) (is : all ≡ front ++ back) (of_all : All P all) where
  pub of_front : All P front
  of_front = subst (All P) (ap (take (length front)) is ∙ take-append_seam front back) (All-take P (length front) all of_all)

  pub of_back : All P back
  of_back = subst (All P) (ap (drop (length front)) is ∙ drop-append_seam front back) (All-drop P (length front) all of_all)

-- ---- of the batches before a place
abbrev pub ops_before : List Batch → ℕ → List definition.Op
ops_before batches i = joined (map batch_view (take i batches))

module _ (batches : List Batch) (i : ℕ) (batch : Batch) (inside : i < length batches) (is : batch ≡ get_or batches i batch) where
  ops_more : ops_before batches (i + 1) ≡ ops_before batches i ++ batch_view batch
  ops_more =
      ap joined (map_more batch_view batches i batch inside ∙ ap (λ b. map batch_view (take i batches) ++ batch_view b ∷ []) (sym is))
      ∙ flat_map-append (λ xs. xs) (map batch_view (take i batches)) (batch_view batch ∷ [])
      ∙ ap (λ l. ops_before batches i ++ l) (append-nil (batch_view batch))

  ops_split : ops_before batches (i + 1) ++ joined (map batch_view (drop (i + 1) batches)) ≡ joined (map batch_view batches)
  ops_split =
      sym (flat_map-append (λ xs. xs) (map batch_view (take (i + 1) batches)) (map batch_view (drop (i + 1) batches)))
      ∙ ap joined (sym (map-append batch_view (take (i + 1) batches) (drop (i + 1) batches)) ∙ ap (map batch_view) (take-append-drop (i + 1) batches))

  pub batch_total : document_total (blocks_added (ops_before batches (i + 1))) ≡ document_total (blocks_added (ops_before batches i)) + document_total (blocks_added (batch_view batch))
  batch_total = ap (λ ops. document_total (blocks_added ops)) ops_more ∙ total-front (ops_before batches i) (batch_view batch)

  pub batch_parents : parents_in (blocks_added (ops_before batches (i + 1))) ≡ parents_in (blocks_added (ops_before batches i)) ++ parents_in (blocks_added (batch_view batch))
  batch_parents = ap (λ ops. parents_in (blocks_added ops)) ops_more ∙ parents-front (ops_before batches i) (batch_view batch)

  -- no more documents than those of all batches
  pub batch_few : document_total (blocks_added (ops_before batches i)) + document_total (blocks_added (batch_view batch)) ≤ document_total (blocks_added (joined (map batch_view batches)))
  batch_few =
      let all : document_total (blocks_added (ops_before batches (i + 1))) + document_total (blocks_added (joined (map batch_view (drop (i + 1) batches)))) ≡ document_total (blocks_added (joined (map batch_view batches))) =
      sym (total-front (ops_before batches (i + 1)) (joined (map batch_view (drop (i + 1) batches)))) ∙ ap (λ ops. document_total (blocks_added ops)) ops_split in
      let here = batch_total in
      omega arith

-- a set with no position
pub none_begun : (n : ℕ) (set : List Bool) → set ≡ replicate n false → set ≡ begun (length set) []
none_begun n set is = is ∙ ap (λ k. replicate k false) (let size = ap length is ∙ length-replicate n false in omega arith)

-- a set of all positions of blocks
pub whole_begun : (blocks : List definition.Block) (n : ℕ) → n ≡ document_total blocks → begun n (parents_in blocks) ≡ parents_in blocks
whole_begun blocks n is = begun-whole n (parents_in blocks) (is ∙ sym (length-parents_in blocks))
