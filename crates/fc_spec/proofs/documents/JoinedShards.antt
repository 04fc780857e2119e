-- To join the first two shards of a world renumbers its places.
use Rattle.std.proofs.Common.{◌≡◌, ℕ, suc, ◌+◌, ◌<◌, ◌≤◌, List, [], ◌∷◌, ◌++◌, length, true, refl, subst, arith}
use Rattle.std.specs.Prelude.{nat_lt}
use Rattle.std.proofs.lemmas.Bool.{and_from, lt-ltb}
use Rattle.fc_spec.specs.documents.Document.{Document, Block}
use Rattle.fc_spec.specs.documents.World.{World, places_from, shard_places, block_places}
use Rattle.fc_spec.specs.documents.Totals.{document_total}
use Rattle.fc_spec.proofs.documents.BlockTotals.{document_total-cons}
use Rattle.fc_spec.proofs.words.Members.{Every, every_append}
use Rattle.fc_spec.proofs.documents.Renumbered.{Renumbering}
use Rattle.fc_spec.proofs.documents.JoinedNumbers.{joining, fits_first, fits, same_blocks_joining}
use Rattle.fc_spec.proofs.documents.JoinedPlaces.{places_joining}

-- numbers within the blocks
numbers_fit : (A : List Block) (b p : ℕ) → b < length A → p < document_total A → fits_first A 0 b p ≡ true
numbers_fit A b p h k = and_from (nat_lt b (length A)) (nat_lt p (document_total A)) (lt-ltb b (length A) h) (lt-ltb p (document_total A) k)

-- the places of a block of the first shard fit its blocks
block_fits : (A : List Block) (b p : ℕ) (ds : List Document) (d : Document) → b < length A → p + length ds < document_total A → Every (fits A) (block_places 0 b p ds d)
block_fits A b p [] d h k = (numbers_fit A b p h (omega arith), tt)
block_fits A b p (c ∷ cs) d h k = (numbers_fit A b p h (omega arith), block_fits A b (p + 1) cs d h (omega arith))

-- so do those of its blocks from the number b on
first_fits : (A : List Block) (b p : ℕ) (xs : List Block) → b + length xs ≤ length A → p + document_total xs ≤ document_total A → Every (fits A) (shard_places 0 b p xs)
first_fits A b p [] h k = tt
first_fits A b p (x ∷ xs) h k =
    every_append (fits A) (block_places 0 b p x.children x.parent) (shard_places 0 (b + 1) (p + length x.children + 1) xs)
    (block_fits A b p x.children x.parent (omega arith) (omega (arith, document_total-cons x xs)))
    (first_fits A (b + 1) (p + length x.children + 1) xs (omega arith) (omega (arith, document_total-cons x xs)))

-- of a later shard nothing is asked: its blocks
later_block_fits : (A : List Block) (s b p : ℕ) (ds : List Document) (d : Document) → Every (fits A) (block_places (suc s) b p ds d)
later_block_fits A s b p [] d = (refl, tt)
later_block_fits A s b p (c ∷ cs) d = (refl, later_block_fits A s b (p + 1) cs d)

-- all its places
later_shard_fits : (A : List Block) (s b p : ℕ) (xs : List Block) → Every (fits A) (shard_places (suc s) b p xs)
later_shard_fits A s b p [] = tt
later_shard_fits A s b p (x ∷ xs) =
    every_append (fits A) (block_places (suc s) b p x.children x.parent) (shard_places (suc s) (b + 1) (p + length x.children + 1) xs)
    (later_block_fits A s b p x.children x.parent) (later_shard_fits A s (b + 1) (p + length x.children + 1) xs)

-- all places from a later shard on
later_fits : (A : List Block) (s : ℕ) (rest : World) → Every (fits A) (places_from (suc s) rest)
later_fits A s [] = tt
later_fits A s (x ∷ rest) =
    let e : suc (suc s) ≡ suc s + 1 = omega arith in
    every_append (fits A) (shard_places (suc s) 0 0 x) (places_from (suc s + 1) rest) (later_shard_fits A s 0 0 x) (subst (λ k. Every (fits A) (places_from k rest)) e (later_fits A (suc s) rest))

-- the world with its first two shards joined has the same places with other numbers
pub joining_renumbers : (A B : List Block) (rest : World) → Renumbering (A ∷ (B ∷ rest)) ((A ++ B) ∷ rest)
joining_renumbers A B rest = record {
  numbers = joining A;
  image = places_joining A B rest;
  known = fits A;
  all_known = every_append (fits A) (shard_places 0 0 0 A) (places_from 1 (B ∷ rest)) (first_fits A 0 0 A (omega arith) (omega arith)) (later_fits A 0 (B ∷ rest));
  same_blocks = same_blocks_joining A;
}
