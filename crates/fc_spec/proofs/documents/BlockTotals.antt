-- The documents of blocks: of some and of others behind them, and of valid ones.
use Rattle.std.specs.Prelude.{◌≡◌, ◌+◌, List, [], ◌∷◌, ◌++◌, length, All}
use Rattle.std.proofs.Common.{ap, ◌∙◌, append-nil, length-append}
use Rattle.std.proofs.lemmas.List.{length_push}
use Rattle.std.proofs.lemmas.List.Concat.{flat_map-append}
use Rattle.std.proofs.lemmas.List.Elements.{All-nil, All-head, All-tail, All-append, All-push}
use Rattle.fc_spec.specs.documents.Document.{Block}
use Rattle.fc_spec.specs.documents.Schema.{Schema}
use Rattle.fc_spec.specs.documents.Totals.{documents_of, documents_in, document_total}
use Rattle.fc_spec.specs.documents.ValidBlocks.{IsDocumentOf, IsBlockOf}

pub documents_in-append : (blocks more : List Block) → documents_in (blocks ++ more) ≡ documents_in blocks ++ documents_in more
documents_in-append blocks more = flat_map-append documents_of blocks more

pub documents_in-push : (blocks : List Block) (b : Block) → documents_in (blocks ++ b ∷ []) ≡ documents_in blocks ++ documents_of b
documents_in-push blocks b = documents_in-append blocks (b ∷ []) ∙ ap (λ ds. documents_in blocks ++ ds) (append-nil (documents_of b))

pub document_total-append : (blocks more : List Block) → document_total (blocks ++ more) ≡ document_total blocks + document_total more
document_total-append blocks more = ap length (documents_in-append blocks more) ∙ length-append (documents_in blocks) (documents_in more)

pub document_total-push : (blocks : List Block) (b : Block) → document_total (blocks ++ b ∷ []) ≡ document_total blocks + length (documents_of b)
document_total-push blocks b = ap length (documents_in-push blocks b) ∙ length-append (documents_in blocks) (documents_of b)

pub document_total-cons : (b : Block) (blocks : List Block) → document_total (b ∷ blocks) ≡ length b.children + 1 + document_total blocks
document_total-cons b blocks = length-append (documents_of b) (documents_in blocks) ∙ ap (λ n. n + document_total blocks) (length_push b.children b.parent)

-- the documents of valid blocks are valid
pub valid_documents_of : (s : Schema) (b : Block) → IsBlockOf s b → All (IsDocumentOf s) (documents_of b)
valid_documents_of s b valid = All-push (IsDocumentOf s) b.children b.parent valid.children valid.parent

pub valid_documents : (s : Schema) (blocks : List Block) → All (IsBlockOf s) blocks → All (IsDocumentOf s) (documents_in blocks)
valid_documents s [] valid = All-nil (IsDocumentOf s)
valid_documents s (b ∷ blocks) valid =
    All-append (IsDocumentOf s) (documents_of b) (documents_in blocks)
    (valid_documents_of s b (All-head (IsBlockOf s) b blocks valid))
    (valid_documents s blocks (All-tail (IsBlockOf s) b blocks valid))
