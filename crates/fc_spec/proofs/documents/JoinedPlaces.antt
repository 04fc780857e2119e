-- The places of a world whose first two shards are joined are those of the world with other numbers.
use Rattle.std.proofs.Common.{◌≡◌, ℕ, suc, pred, ◌+◌, List, [], ◌∷◌, ◌++◌, map, length, refl, ◌∙◌, ap, arith}
use Rattle.std.proofs.lemmas.List.{map-append, append_assoc}
use Rattle.fc_spec.specs.documents.Document.{Document, Block}
use Rattle.fc_spec.specs.documents.World.{World, places, places_from, shard_places, block_places}
use Rattle.fc_spec.proofs.documents.Renumbered.{renumbered}
use Rattle.fc_spec.specs.documents.Totals.{document_total}
use Rattle.fc_spec.proofs.documents.BlockTotals.{document_total-cons}
use Rattle.fc_spec.proofs.documents.JoinedNumbers.{ahead, joining}

-- the places of a block with the numbers after joining
block_joining : (A : List Block) (s b p : ℕ) (ds : List Document) (d : Document)
    → map (renumbered (joining A)) (block_places s b p ds d) ≡ block_places (pred s) (ahead (length A) s + b) (ahead (document_total A) s + p) ds d
block_joining A s b p [] d = refl
block_joining A s b p (c ∷ cs) d =
    let e : ahead (document_total A) s + (p + 1) ≡ ahead (document_total A) s + p + 1 = omega arith in
    rw (block_joining A s b (p + 1) cs d, e) refl

-- those of the blocks of a shard
shard_joining : (A : List Block) (s b p : ℕ) (xs : List Block)
    → map (renumbered (joining A)) (shard_places s b p xs) ≡ shard_places (pred s) (ahead (length A) s + b) (ahead (document_total A) s + p) xs
shard_joining A s b p [] = refl
shard_joining A s b p (x ∷ xs) =
    let e : ahead (length A) s + (b + 1) ≡ ahead (length A) s + b + 1 = omega arith in
    let f : ahead (document_total A) s + (p + length x.children + 1) ≡ ahead (document_total A) s + p + length x.children + 1 = omega arith in
    rw (map-append, block_joining A s b p x.children x.parent, shard_joining A s (b + 1) (p + length x.children + 1) xs, e, f) refl

-- those of the later shards
later_joining : (A : List Block) (s : ℕ) (rest : World) → map (renumbered (joining A)) (places_from (suc (suc s)) rest) ≡ places_from (suc s) rest
later_joining A s [] = refl
later_joining A s (x ∷ rest) =
    let e : suc (suc s) + 1 ≡ suc (suc (suc s)) = omega arith in
    let f : suc (suc s) ≡ suc s + 1 = omega arith in
    map-append _ _ _
    ∙ (λ i. shard_joining A (suc (suc s)) 0 0 x i ++ map (renumbered (joining A)) (places_from (e i) rest))
    ∙ ap (λ ps. shard_places (suc s) 0 0 x ++ ps) (later_joining A (suc s) rest ∙ ap (λ k. places_from k rest) f)

-- blocks behind blocks of one shard
pub shard_places-append : (s b p : ℕ) (A B : List Block) → shard_places s b p (A ++ B) ≡ shard_places s b p A ++ shard_places s (b + length A) (p + document_total A) B
shard_places-append s b p [] B =
    let e : b ≡ b + 0 = omega arith in
    let f : p ≡ p + 0 = omega arith in
    λ i. shard_places s (e i) (f i) B
shard_places-append s b p (x ∷ xs) B =
    let e : b + 1 + length xs ≡ b + suc (length xs) = omega arith in
    let f : p + length x.children + 1 + document_total xs ≡ p + document_total (x ∷ xs) = omega (arith, document_total-cons x xs) in
    rw (shard_places-append s (b + 1) (p + length x.children + 1) xs B, e, append_assoc, f) refl

-- all places of the joined world
pub places_joining : (A B : List Block) (rest : World) → places ((A ++ B) ∷ rest) ≡ map (renumbered (joining A)) (places (A ∷ (B ∷ rest)))
places_joining A B rest =
    let e : 0 + length A ≡ length A + 0 = omega arith in
    let f : 0 + document_total A ≡ document_total A + 0 = omega arith in
    ap (λ ps. ps ++ places_from 1 rest) (shard_places-append 0 0 0 A B)
    ∙ rw (map-append, map-append, shard_joining A 0 0 0 A, shard_joining A 1 0 0 B, later_joining A 0 rest, append_assoc, e, f) refl
