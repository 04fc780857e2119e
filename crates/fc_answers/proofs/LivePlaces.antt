-- What a set of live documents picks of segments is what it picks, kept at the live positions, of their live blocks.
use Rattle.std.proofs.Common.{◌≡◌, ℕ, zero, suc, ◌+◌, List, [], ◌∷◌, ◌++◌, map, length, replicate, Bool, true, false, ◌&&◌, refl, sym, ◌∙◌, ap, ap₂, arith}
use Rattle.std.specs.List.{items_where_true}
use Rattle.std.proofs.lemmas.List.{map-append, length-map, length-replicate}
use Rattle.std.proofs.lemmas.List.Elements.{All-head, All-tail}
use Rattle.std.proofs.lemmas.Simd.{map-map}
use Rattle.fc_spec.specs.words.Lists.{joined}
use Rattle.fc_spec.specs.documents.Document.{Document, Block}
use Rattle.fc_spec.specs.documents.World.{Place, places, places_from, shard_places, block_places}
use Rattle.fc_spec.specs.documents.Totals.{documents_of, document_total}
use Rattle.fc_spec.specs.documents.Sets.{zip_with, places_at}
use Rattle.fc_spec.specs.documents.Live.{parents_in_set, whole_blocks, live_in}
use Rattle.fc_spec.proofs.words.WhereTrue.{items_where_true-append, items_where_true-map}
use Rattle.fc_spec.proofs.documents.LiveBlocks.{length-parents_in_set}
use Rattle.fc_spec.proofs.documents.Renumbered.{renumbered}
use Rattle.fc_spec.proofs.requests.SetChanges.{length-shard_places}
use Rattle.fc_answers.specs.SetAnswer.{Piece, Pieces, whole_world, live_world, AreWhole, Sets}
use Rattle.fc_answers.specs.LiveSets.{IsLive, AreLive}
use Rattle.fc_answers.proofs.BarePlaces.{no_numbers, bare, SameBare, bare_block}
use Rattle.fc_answers.proofs.LiveSets.{IsWhole}

-- each set, kept at the live positions of its segment
abbrev pub kept : Pieces → Sets → Sets
kept [] sets = []
kept (p ∷ V) [] = []
kept (p ∷ V) (set ∷ sets) = items_where_true p.live set ∷ kept V sets

-- ---- what is picked of the live ones

picked_of_none : {X : Type 0} (set : List Bool) → items_where_true {X = X} set [] ≡ []
picked_of_none [] = refl
picked_of_none (here ∷ set) = refl

-- a set within the live positions picks all that it picks among these
picked_live : {X : Type 0} (set live : List Bool) (xs : List X) → zip_with ◌&&◌ set live ≡ set → items_where_true set xs ≡ items_where_true (items_where_true live set) (items_where_true live xs)
picked_live [] [] xs within = refl
picked_live [] (l ∷ live) xs within = refl
picked_live (s ∷ set) [] xs within = absurd cc
picked_live (s ∷ set) (l ∷ live) [] within = sym (picked_of_none (items_where_true (l ∷ live) (s ∷ set)))
picked_live (true ∷ set) (true ∷ live) (x ∷ xs) within = ap (λ ys. x ∷ ys) (picked_live set live xs cc)
picked_live (true ∷ set) (false ∷ live) (x ∷ xs) within = absurd cc
picked_live (false ∷ set) (true ∷ live) (x ∷ xs) within = picked_live set live xs cc
picked_live (false ∷ set) (false ∷ live) (x ∷ xs) within = picked_live set live xs cc

-- of lists of one length as many are kept
pub length-kept : {X Y : Type 0} (live : List Bool) (xs : List X) (ys : List Y) → length xs ≡ length ys → length (items_where_true live xs) ≡ length (items_where_true live ys)
length-kept [] xs ys even = refl
length-kept (l ∷ live) [] [] even = refl
length-kept (l ∷ live) [] (y ∷ ys) even = absurd cc
length-kept (l ∷ live) (x ∷ xs) [] even = absurd cc
length-kept (true ∷ live) (x ∷ xs) (y ∷ ys) even = let rest = length-kept live xs ys (omega arith) in omega arith
length-kept (false ∷ live) (x ∷ xs) (y ∷ ys) even = length-kept live xs ys (omega arith)

all_picked : {X : Type 0} (xs : List X) (n : ℕ) → length xs ≡ n → items_where_true (replicate n true) xs ≡ xs
all_picked [] zero size = refl
all_picked [] (suc n) size = absurd cc
all_picked (x ∷ xs) zero size = absurd cc
all_picked (x ∷ xs) (suc n) size = ap (λ ys. x ∷ ys) (all_picked xs n (omega arith))

none_picked : {X : Type 0} (xs : List X) (n : ℕ) → items_where_true (replicate n false) xs ≡ []
none_picked xs zero = refl
none_picked [] (suc n) = refl
none_picked (x ∷ xs) (suc n) = none_picked xs n

-- ---- places

length-block_places : (s b p : ℕ) (ds : List Document) (d : Document) → length (block_places s b p ds d) ≡ length (ds ++ d ∷ [])
length-block_places s b p [] d = refl
length-block_places s b p (c ∷ ds) d = let rest = length-block_places s b (p + 1) ds d in omega arith

length-bare : (X : List Place) → length (bare X) ≡ length X
length-bare X = length-map X (renumbered no_numbers)

-- a block whose documents are all picked, or none of them, and what stands behind it
module _ (s b p : ℕ) (x : Block) (behind : List Place) (stays : List Bool) where
  abbrev own : List Place
  own = block_places s b p x.children x.parent

  own_length : length (bare own) ≡ length (documents_of x)
  own_length = length-bare own ∙ length-block_places s b p x.children x.parent

  split : (here : Bool) → items_where_true (replicate (length (documents_of x)) here ++ stays) (bare (own ++ behind))
      ≡ items_where_true (replicate (length (documents_of x)) here) (bare own) ++ items_where_true stays (bare behind)
  split here =
      ap (items_where_true (replicate (length (documents_of x)) here ++ stays)) (map-append (renumbered no_numbers) own behind)
      ∙ items_where_true-append (replicate (length (documents_of x)) here) stays (bare own) (bare behind) (length-replicate (length (documents_of x)) here ∙ sym own_length)

  block_picked : items_where_true (replicate (length (documents_of x)) true ++ stays) (bare (own ++ behind)) ≡ bare own ++ items_where_true stays (bare behind)
  block_picked = split true ∙ ap (λ l. l ++ items_where_true stays (bare behind)) (all_picked (bare own) (length (documents_of x)) own_length)

  block_left_out : items_where_true (replicate (length (documents_of x)) false ++ stays) (bare (own ++ behind)) ≡ items_where_true stays (bare behind)
  block_left_out = split false ∙ ap (λ l. l ++ items_where_true stays (bare behind)) (none_picked (bare own) (length (documents_of x)))

-- the places of the blocks that are kept are those at their positions
bare_kept : (s b p t c q : ℕ) (blocks : List Block) (stays : List Bool) → length stays ≡ length blocks
    → items_where_true (whole_blocks blocks stays) (bare (shard_places s b p blocks)) ≡ bare (shard_places t c q (items_where_true stays blocks))
bare_kept s b p t c q [] [] even = refl
bare_kept s b p t c q [] (here ∷ stays) even = absurd cc
bare_kept s b p t c q (x ∷ blocks) [] even = absurd cc
bare_kept s b p t c q (x ∷ blocks) (true ∷ stays) even =
    let n = length x.children in
    block_picked s b p x (shard_places s (b + 1) (p + n + 1) blocks) (whole_blocks blocks stays)
    ∙ ap₂ (λ k l. k ++ l) (bare_block s b p t c q x.children x.parent) (bare_kept s (b + 1) (p + n + 1) t (c + 1) (q + n + 1) blocks stays (omega arith))
    ∙ sym (map-append (renumbered no_numbers) (block_places t c q x.children x.parent) (shard_places t (c + 1) (q + n + 1) (items_where_true stays blocks)))
bare_kept s b p t c q (x ∷ blocks) (false ∷ stays) even =
    let n = length x.children in
    block_left_out s b p x (shard_places s (b + 1) (p + n + 1) blocks) (whole_blocks blocks stays) ∙ bare_kept s (b + 1) (p + n + 1) t c q blocks stays (omega arith)

module _ (s t : ℕ) (p : Piece) (whole : IsWhole p) where
  abbrev own_places : List Place
  own_places = shard_places s 0 0 p.blocks

  abbrev live_places_of : List Place
  live_places_of = shard_places t 0 0 (live_in p.blocks p.live)

  -- the places of the live blocks are those at the live positions
  bare_live : items_where_true p.live (bare own_places) ≡ bare live_places_of
  bare_live =
      ap (λ l. items_where_true l (bare own_places)) whole.whole
      ∙ bare_kept s 0 0 t 0 0 p.blocks (parents_in_set p.blocks p.live) (length-parents_in_set p.blocks p.live)

  own_size : length (bare own_places) ≡ document_total p.blocks
  own_size = length-bare own_places ∙ length-shard_places s 0 0 p.blocks

  kept_size : (set : List Bool) → IsLive p set → length (items_where_true p.live set) ≡ length (bare live_places_of)
  kept_size set is = length-kept p.live set (bare own_places) (is.count ∙ sym own_size) ∙ ap length bare_live

  picked_here : (set : List Bool) → IsLive p set → items_where_true set (bare own_places) ≡ items_where_true (items_where_true p.live set) (bare live_places_of)
  picked_here set is = picked_live set p.live (bare own_places) is.live ∙ ap (items_where_true (items_where_true p.live set)) bare_live

picked_everywhere : (s t : ℕ) (V : Pieces) (sets : Sets) → AreWhole V → AreLive V sets
    → items_where_true (joined sets) (bare (places_from s (whole_world V))) ≡ items_where_true (joined (kept V sets)) (bare (places_from t (live_world V)))
picked_everywhere s t [] [] whole are = refl
picked_everywhere s t [] (set ∷ sets) whole are = absurd are
picked_everywhere s t (p ∷ V) [] whole are = absurd are
picked_everywhere s t (p ∷ V) (set ∷ sets) whole are =
    let first = All-head IsWhole p V whole in
    let own = shard_places s 0 0 p.blocks in
    let live_own = shard_places t 0 0 (live_in p.blocks p.live) in
    let behind = places_from (s + 1) (whole_world V) in
    let live_behind = places_from (t + 1) (live_world V) in
    let set_kept = items_where_true p.live set in
    ap (items_where_true (set ++ joined sets)) (map-append (renumbered no_numbers) own behind)
    ∙ items_where_true-append set (joined sets) (bare own) (bare behind) ((are.0).count ∙ sym (own_size s t p first))
    ∙ ap₂ (λ k l. k ++ l) (picked_here s t p first set are.0) (picked_everywhere (s + 1) (t + 1) V sets (All-tail IsWhole p V whole) are.1)
    ∙ sym (items_where_true-append set_kept (joined (kept V sets)) (bare live_own) (bare live_behind) (kept_size s t p first set are.0))
    ∙ sym (ap (items_where_true (set_kept ++ joined (kept V sets))) (map-append (renumbered no_numbers) live_own live_behind))

pub live_places : (V : Pieces) (sets : Sets) → AreWhole V → AreLive V sets → SameBare (places_at (whole_world V) sets) (places_at (live_world V) (kept V sets))
live_places V sets whole are =
    sym (items_where_true-map (renumbered no_numbers) (joined sets) (places (whole_world V)))
    ∙ picked_everywhere 0 0 V sets whole are
    ∙ items_where_true-map (renumbered no_numbers) (joined (kept V sets)) (places (live_world V))

bare_documents : (X : List Place) → map (λ p. p.document) (bare X) ≡ map (λ p. p.document) X
bare_documents X = map-map (λ p. p.document) (renumbered no_numbers) X

pub same_documents : (V : Pieces) (sets : Sets) → AreWhole V → AreLive V sets
    → map (λ p. p.document) (places_at (whole_world V) sets) ≡ map (λ p. p.document) (places_at (live_world V) (kept V sets))
same_documents V sets whole are =
    sym (bare_documents (places_at (whole_world V) sets)) ∙ ap (map (λ p. p.document)) (live_places V sets whole are) ∙ bare_documents (places_at (live_world V) (kept V sets))
