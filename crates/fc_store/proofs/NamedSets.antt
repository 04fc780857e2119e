-- Sets of the blocks that have one of some ids, and live ones without them.
use Rattle.std.proofs.Common.{◌≡◌, ℕ, zero, suc, ◌+◌, ◌<◌, List, [], ◌∷◌, ◌++◌, length, get_or, take, replicate, count_by, Bool, Bor, true, false, not, ◌&&◌, ◌||◌, refl, sym, ap, ap₂, ◌∙◌, arith, length-append}
use Rattle.std.proofs.Math.Bool.{or-false}
use Rattle.std.specs.List.{items_where_true}
use Rattle.std.proofs.lemmas.List.{length-replicate, replicate-append-replicate, take_more, map_push}
use Rattle.std.proofs.lemmas.List.Folds.{list_any-append}
use Rattle.fc_spec.specs.documents.Val.{Text}
use Rattle.fc_spec.specs.documents.Document.{Block}
use Rattle.fc_spec.specs.documents.Operations.{has_id}
use Rattle.fc_spec.specs.documents.Sets.{zip_with}
use Rattle.fc_spec.specs.documents.Totals.{documents_of, documents_in, document_total}
use Rattle.fc_spec.specs.documents.Live.{blocks_where, live_in, HasWholeBlocks}
use Rattle.fc_spec.proofs.documents.LiveBlocks.{length-live, live_documents}
use Rattle.fc_spec.proofs.words.Counting.{count_by-cons}
use Rattle.fc_spec.proofs.words.WhereTrue.{zip_with-append}
use Rattle.fc_store.specs.Named.{has_one_of, texts_of}

pub none_where : (blocks : List Block) → blocks_where (λ b. false) blocks ≡ replicate (document_total blocks) false
none_where [] = refl
none_where (b ∷ blocks) =
    ap (λ l. replicate (length (documents_of b)) false ++ l) (none_where blocks) ∙ replicate-append-replicate (length (documents_of b)) (document_total blocks) false
    ∙ ap (λ n. replicate n false) (sym (length-append (documents_of b) (documents_in blocks)))

pub length-blocks_where : (test : Block → Bool) (blocks : List Block) → length (blocks_where test blocks) ≡ document_total blocks
length-blocks_where test [] = refl
length-blocks_where test (b ∷ blocks) =
    let n = length (documents_of b) in
    omega (
      arith,
      length-blocks_where test blocks,
      length-append (replicate n (test b)) (blocks_where test blocks),
      length-replicate n (test b),
      length-append (documents_of b) (documents_in blocks),
    )

zip_replicate : (n : ℕ) (a b : Bool) → zip_with ◌||◌ (replicate n a) (replicate n b) ≡ replicate n (a || b)
zip_replicate zero a b = refl
zip_replicate (suc n) a b = ap (λ l. (a || b) ∷ l) (zip_replicate n a b)

either_where : (f g : Block → Bool) (blocks : List Block) → zip_with ◌||◌ (blocks_where f blocks) (blocks_where g blocks) ≡ blocks_where (λ b. f b || g b) blocks
either_where f g [] = refl
either_where f g (b ∷ blocks) =
    let n = length (documents_of b) in
    zip_with-append ◌||◌ (replicate n (f b)) (blocks_where f blocks) (replicate n (g b)) (blocks_where g blocks) (length-replicate n (f b) ∙ sym (length-replicate n (g b)))
    ∙ ap₂ (λ k l. k ++ l) (zip_replicate n (f b) (g b)) (either_where f g blocks)

-- one more id
pub ids_more : (ids : List (Bor Text)) (i : ℕ) (id : Bor Text) (blocks : List Block) → i < length ids → id ≡ get_or ids i id
    → zip_with ◌||◌ (blocks_where (has_one_of (texts_of (take i ids))) blocks) (blocks_where (has_id id.now) blocks) ≡ blocks_where (has_one_of (texts_of (take (i + 1) ids))) blocks
ids_more ids i id blocks inside is =
    either_where (has_one_of (texts_of (take i ids))) (has_id id.now) blocks ∙ (λ j. blocks_where (λ b. more b j) blocks)
  where
    texts : texts_of (take (i + 1) ids) ≡ texts_of (take i ids) ++ id.now ∷ []
    texts =
        ap texts_of (take_more ids i id inside ∙ ap (λ o. take i ids ++ o ∷ []) (sym is)) ∙ map_push (λ (name : Bor Text). name.now) (take i ids) id

    more : (b : Block) → (has_one_of (texts_of (take i ids)) b || has_id id.now b) ≡ has_one_of (texts_of (take (i + 1) ids)) b
    more b =
        let before = has_one_of (texts_of (take i ids)) b in
        sym (ap (λ l. has_one_of l b) texts ∙ list_any-append (λ x. has_id x b) (texts_of (take i ids)) (id.now ∷ []) ∙ ap (λ h. before || h) (or-false (has_id id.now b)))

-- ---- live positions without some of them

-- where none of these is live nothing goes out
pub none_gone : (live found : List Bool) → length found ≡ length live → count_by (λ here. here) (zip_with ◌&&◌ found live) ≡ 0 → zip_with (λ here there. here && not there) live found ≡ live
none_gone [] found even none = refl
none_gone (here ∷ live) [] even none = absurd cc
none_gone (here ∷ live) (there ∷ found) even none = go here there (λ few. none_gone live found (omega arith) few) none
  where
    go : (h t : Bool) → (count_by (λ x. x) (zip_with ◌&&◌ found live) ≡ 0 → zip_with (λ a b. a && not b) live found ≡ live)
        → count_by (λ x. x) ((t && h) ∷ zip_with ◌&&◌ found live) ≡ 0 → ((h && not t) ∷ zip_with (λ a b. a && not b) live found) ≡ h ∷ live
    go true true rest none = absurd (omega (arith, none, count_by-cons (λ x. x) true (zip_with ◌&&◌ found live)))
    go true false rest none = ap (λ l. true ∷ l) (rest (omega (arith, none, count_by-cons (λ x. x) false (zip_with ◌&&◌ found live))))
    go false true rest none = ap (λ l. false ∷ l) (rest (omega (arith, none, count_by-cons (λ x. x) false (zip_with ◌&&◌ found live))))
    go false false rest none = ap (λ l. false ∷ l) (rest (omega (arith, none, count_by-cons (λ x. x) false (zip_with ◌&&◌ found live))))

-- and without those that are live the others are left
pub live_gone : (live found : List Bool) → length found ≡ length live → zip_with (λ here there. here && not there) live (zip_with ◌&&◌ found live) ≡ zip_with (λ here there. here && not there) live found
live_gone [] found even = refl
live_gone (here ∷ live) [] even = absurd cc
live_gone (here ∷ live) (there ∷ found) even = ap₂ (λ h l. h ∷ l) (same here there) (live_gone live found (omega arith))
  where
    same : (h t : Bool) → (h && not (t && h)) ≡ (h && not t)
    same true true = refl
    same true false = refl
    same false true = refl
    same false false = refl

-- ---- how many are live

count_kept : {X : Type 0} (set : List Bool) (xs : List X) → length set ≡ length xs → count_by (λ here. here) set ≡ length (items_where_true set xs)
count_kept [] [] even = refl
count_kept [] (x ∷ xs) even = absurd cc
count_kept (h ∷ set) [] even = absurd cc
count_kept (true ∷ set) (x ∷ xs) even = omega (arith, count_by-cons (λ here. here) true set, count_kept set xs (omega arith))
count_kept (false ∷ set) (x ∷ xs) even = omega (arith, count_by-cons (λ here. here) false set, count_kept set xs (omega arith))

pub live_count : (blocks : List Block) (live : List Bool) → HasWholeBlocks blocks live → count_by (λ here. here) live ≡ document_total (live_in blocks live)
live_count blocks live whole = count_kept live (documents_in blocks) (length-live blocks live whole) ∙ sym (ap length (live_documents blocks live whole))
