-- The places of blocks, seen as the documents that stand there.
use Rattle.std.specs.Prelude.{◌≡◌, ℕ, ◌+◌, List, [], ◌∷◌, ◌++◌, length, map}
use Rattle.std.proofs.Common.{refl, ap, ◌∙◌, append-nil}
use Rattle.std.proofs.lemmas.List.{map-append}
use Rattle.fc_spec.specs.documents.Document.{Document, Block}
use Rattle.fc_spec.specs.documents.World.{Place, places, shard_places, block_places}
use Rattle.fc_spec.specs.documents.Totals.{documents_in}

-- the documents of places
abbrev pub documents_at : List Place → List Document
documents_at X = map (λ p. p.document) X

documents_at-block : (s b n : ℕ) (children : List Document) (parent : Document) → documents_at (block_places s b n children parent) ≡ children ++ parent ∷ []
documents_at-block s b n [] parent = refl
documents_at-block s b n (d ∷ ds) parent = ap (λ rest. d ∷ rest) (documents_at-block s b (n + 1) ds parent)

-- the places of blocks are those of their documents
pub documents_at-shard : (s b n : ℕ) (blocks : List Block) → documents_at (shard_places s b n blocks) ≡ documents_in blocks
documents_at-shard s b n [] = refl
documents_at-shard s b n (x ∷ xs) =
    map-append (λ p. p.document) (block_places s b n x.children x.parent) (shard_places s (b + 1) (n + length x.children + 1) xs)
    ∙ (λ i. documents_at-block s b n x.children x.parent i ++ documents_at-shard s (b + 1) (n + length x.children + 1) xs i)

-- the places of a world of one shard are its documents
pub documents_at-places : (blocks : List Block) → documents_at (places (blocks ∷ [])) ≡ documents_in blocks
documents_at-places blocks = ap documents_at (append-nil (shard_places 0 0 0 blocks)) ∙ documents_at-shard 0 0 0 blocks
