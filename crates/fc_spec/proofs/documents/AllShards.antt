-- Every place of a world is on one of its shards.
use Rattle.std.proofs.Common.{◌≡◌, ℕ, zero, suc, ◌+◌, ◌<◌, ◌≤◌, List, [], ◌∷◌, length, true, ◌==◌, arith, inl, inr}
use Rattle.std.specs.List.{list_any, range_with_len}
use Rattle.std.proofs.lemmas.Bool.{eq-eqb, or_left, or_right, cases_eq}
use Rattle.fc_spec.specs.documents.Document.{Document, Block}
use Rattle.fc_spec.specs.words.Lists.{numbers_below}
use Rattle.fc_spec.specs.documents.World.{World, places, places_from, shard_places, block_places}
use Rattle.fc_spec.proofs.words.Members.{Every, every_append}
use Rattle.fc_spec.proofs.documents.Shards.{is_on}

-- a number of a range is in it
in_range : (n a s : ℕ) → a ≤ s → s < a + n → list_any (λ i. i == s) (range_with_len a n) ≡ true
in_range zero a s low high = absurd (omega arith)
in_range (suc n) a s low high = elim (cases_eq a s) [ inl e ↦ or_left (a == s) (list_any (λ i. i == s) (range_with_len (a + 1) n)) (eq-eqb a s e) | inr e ↦ or_right (a == s) (list_any (λ i. i == s) (range_with_len (a + 1) n)) (in_range n (a + 1) s (omega arith) (omega arith)) ]

block_on : (H : List ℕ) (s b p : ℕ) (ds : List Document) (d : Document) → list_any (λ i. i == s) H ≡ true → Every (is_on H) (block_places s b p ds d)
block_on H s b p [] d h = (h, tt)
block_on H s b p (c ∷ cs) d h = (h, block_on H s b (p + 1) cs d h)

shard_on : (H : List ℕ) (s b p : ℕ) (blocks : List Block) → list_any (λ i. i == s) H ≡ true → Every (is_on H) (shard_places s b p blocks)
shard_on H s b p [] h = tt
shard_on H s b p (x ∷ xs) h = every_append (is_on H) (block_places s b p x.children x.parent) (shard_places s (b + 1) (p + length x.children + 1) xs) (block_on H s b p x.children x.parent h) (shard_on H s (b + 1) (p + length x.children + 1) xs h)

places_on : (n s : ℕ) (W : World) → s + length W ≤ n → Every (is_on (numbers_below n)) (places_from s W)
places_on n s [] h = tt
places_on n s (blocks ∷ rest) h = every_append (is_on (numbers_below n)) (shard_places s 0 0 blocks) (places_from (s + 1) rest)
    (shard_on (numbers_below n) s 0 0 blocks (in_range n 0 s (omega arith) (omega arith))) (places_on n (s + 1) rest (omega arith))

-- all places are on the shards below the number of shards
pub every_place_on : (W : World) → Every (is_on (numbers_below (length W))) (places W)
every_place_on W = places_on (length W) 0 W (omega arith)
