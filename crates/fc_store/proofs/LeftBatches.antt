-- What is left of the blocks of batches, one batch after another.
use Rattle.std.proofs.Common.{◌≡◌, ℕ, ◌+◌, List, [], ◌∷◌, ◌++◌, length, map, drop, Bool, true, false, slice_index_or, refl, sym, ap, ◌∙◌, length-append}
use Rattle.std.specs.List.{items_where_true}
use Rattle.std.proofs.lemmas.List.{append-nil, append_assoc, drop-drop, map_push}
use Rattle.std.proofs.lemmas.List.Concat.{flat_map-append}
use Rattle.std.proofs.lemmas.List.Elements.{filter_map-append}
use Rattle.fc_spec.specs.documents.Document.{Block, Op, adding}
use Rattle.fc_spec.specs.documents.Live.{live_in, parents_in_set}
use Rattle.fc_spec.specs.documents.Operations.{added_by, blocks_added}
use Rattle.fc_spec.specs.documents.Totals.{documents_in, documents_of, document_total}
use Rattle.fc_spec.specs.words.Lists.{joined}
use Rattle.fc_spec.proofs.documents.BlockTotals.{document_total-append}
use Rattle.fc_docs.specs.declared.block.Batch.{Batch}
use Rattle.fc_docs.specs.View.{batch_view}
use Rattle.fc_store.proofs.NextSegments.{added_of}

live-front : (front back : List Block) (set : List Bool) → live_in (front ++ back) set ≡ live_in front set ++ live_in back (drop (document_total front) set)
live-front [] back set = refl
live-front (b ∷ front) back set =
    go (slice_index_or set (length b.children) false) (live-front front back (drop (length (documents_of b)) set) ∙ ap (λ l. live_in front (drop (length (documents_of b)) set) ++ live_in back l) behind)
  where
    behind : drop (document_total front) (drop (length (documents_of b)) set) ≡ drop (document_total (b ∷ front)) set
    behind = drop-drop (document_total front) (length (documents_of b)) set ∙ ap (λ n. drop n set) (sym (length-append (documents_of b) (documents_in front)))

    go : (here : Bool)
        → live_in (front ++ back) (drop (length (documents_of b)) set) ≡ live_in front (drop (length (documents_of b)) set) ++ live_in back (drop (document_total (b ∷ front)) set)
        → items_where_true (here ∷ parents_in_set (front ++ back) (drop (length (documents_of b)) set)) (b ∷ front ++ back)
        ≡ items_where_true (here ∷ parents_in_set front (drop (length (documents_of b)) set)) (b ∷ front) ++ live_in back (drop (document_total (b ∷ front)) set)
    go true others = ap (λ bs. b ∷ bs) others
    go false others = others

-- the operations of one more batch
pub one_more_batch : (batches : List Batch) (batch : Batch) → joined (map batch_view (batches ++ batch ∷ [])) ≡ joined (map batch_view batches) ++ batch_view batch
one_more_batch batches batch =
    ap joined (map_push batch_view batches batch)
    ∙ flat_map-append (λ xs. xs) (map batch_view batches) (batch_view batch ∷ [])
    ∙ ap (λ l. joined (map batch_view batches) ++ l) (append-nil (batch_view batch))

pub added-front : (front back : List Op) → blocks_added (front ++ back) ≡ blocks_added front ++ blocks_added back
added-front front back = filter_map-append added_by front back

pub total-front : (front back : List Op) → document_total (blocks_added (front ++ back)) ≡ document_total (blocks_added front) + document_total (blocks_added back)
total-front front back = ap document_total (added-front front back) ∙ document_total-append (blocks_added front) (blocks_added back)

-- the blocks of a batch that are left, and those behind it
pub left_front : (front back : List Op) (set : List Bool) (from to : ℕ) → to ≡ from + document_total (blocks_added front)
    → live_in (blocks_added (front ++ back)) (drop from set) ≡ live_in (blocks_added front) (drop from set) ++ live_in (blocks_added back) (drop to set)
left_front front back set from to is =
    ap (λ bs. live_in bs (drop from set)) (added-front front back)
    ∙ live-front (blocks_added front) (blocks_added back) (drop from set)
    ∙ ap (λ l. live_in (blocks_added front) (drop from set) ++ live_in (blocks_added back) l)
    (drop-drop (document_total (blocks_added front)) from set ∙ ap (λ n. drop n set) (sym is))

-- a batch of those alone, put behind batches
pub left_more : (made : List Batch) (only : Batch) (blocks others : List Block) → batch_view only ≡ map adding blocks
    → blocks_added (joined (map batch_view (made ++ only ∷ []))) ++ others ≡ blocks_added (joined (map batch_view made)) ++ (blocks ++ others)
left_more made only blocks others is =
    let first = blocks_added (joined (map batch_view made)) in
    ap (λ ops. blocks_added ops ++ others) (one_more_batch made only)
    ∙ ap (λ bs. bs ++ others) (added-front (joined (map batch_view made)) (batch_view only) ∙ ap (λ bs. first ++ bs) (ap blocks_added is ∙ added_of blocks))
    ∙ append_assoc first blocks others
