-- Lists of blocks, and one more behind them.
use Rattle.std.proofs.Common.{◌≡◌, ◌+◌, List, [], ◌∷◌, ◌++◌, length, map, All, sym, ap, ◌∙◌, subst}
use Rattle.std.proofs.lemmas.List.{map_push}
use Rattle.std.proofs.lemmas.List.Elements.{All-push}
use Rattle.fc_spec.specs.documents.Schema.{Schema}
use Rattle.fc_spec.specs.documents.Totals.{document_total}
use Rattle.fc_spec.specs.documents.ValidBlocks.{IsBlockOf}
use Rattle.fc_docs.specs.declared.block.Block.{Block}
use Rattle.fc_docs.specs.View.{block_view}
use Rattle.fc_spec.proofs.documents.BlockTotals.{document_total-append, document_total-cons}

-- how many documents they have
pub document_total-push : (blocks : List Block) (b : Block) → document_total (map block_view (blocks ++ b ∷ [])) ≡ document_total (map block_view blocks) + (length b.children.items + 1 + 0)
document_total-push blocks b =
    let before = map block_view blocks in
    ap document_total (map_push block_view blocks b)
    ∙ document_total-append before (block_view b ∷ [])
    ∙ ap (λ n. document_total before + n) (document_total-cons (block_view b) [])

-- they are valid
pub valid-push : (s : Schema) (blocks : List Block) (b : Block) → All (IsBlockOf s) (map block_view blocks) → IsBlockOf s (block_view b) → All (IsBlockOf s) (map block_view (blocks ++ b ∷ []))
valid-push s blocks b before here = subst (All (IsBlockOf s)) (sym (map_push block_view blocks b)) (All-push (IsBlockOf s) (map block_view blocks) (block_view b) before here)
