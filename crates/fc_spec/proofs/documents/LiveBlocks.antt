-- Sets of positions with whole blocks.
use Rattle.std.proofs.Common.{◌≡◌, ℕ, zero, suc, ◌+◌, List, [], ◌∷◌, ◌++◌, length, get_or, drop, map, replicate, Bool, true, false, not, ◌&&◌, cond, refl, sym, ◌∙◌, ap, ap₂, subst, arith, append_assoc, length-append}
use Rattle.std.specs.List.{filter, items_where_true}
use Rattle.std.proofs.lemmas.List.{append-nil, get_or-replicate, get_or_append_left, replicate-append-replicate, length-map, length-replicate}
use Rattle.std.proofs.Math.Seq.{drop-append_seam}
use Rattle.fc_spec.specs.documents.Document.{Block, Op, adding, deleting}
use Rattle.fc_spec.specs.documents.World.{World}
use Rattle.fc_spec.specs.documents.Totals.{documents_of, documents_in}
use Rattle.fc_spec.specs.documents.Sets.{zip_with}
use Rattle.fc_spec.specs.documents.Operations.{is_named, left_of, blocks_added}
use Rattle.fc_spec.specs.documents.Live.{parents_in_set, whole_blocks, HasWholeBlocks, live_in, live_in_all, HaveWholeBlocks, blocks_where, set_without, left_bits, left_set, sets_after}
use Rattle.fc_spec.specs.laws.LiveLaws.{OperationsGoByLists, LiveAreAtPositions}
use Rattle.fc_spec.proofs.words.WhereTrue.{items_where_true-append, length-zip_with, zip_with-append}
use Rattle.fc_spec.proofs.documents.LeftBlocks.{after_is}

-- ---- a set that is made of whole blocks

pub length-parents_in_set : (blocks : List Block) (set : List Bool) → length (parents_in_set blocks set) ≡ length blocks
length-parents_in_set [] set = refl
length-parents_in_set (b ∷ blocks) set = let rest = length-parents_in_set blocks (drop (length (documents_of b)) set) in omega arith

size_of : (b : Block) → length (documents_of b) ≡ length b.children + 1
size_of b = length-append b.children (b.parent ∷ [])

-- its parents say which blocks it is made of
pub parents_of_whole : (blocks : List Block) (kept : List Bool) → length kept ≡ length blocks → parents_in_set blocks (whole_blocks blocks kept) ≡ kept
parents_of_whole [] [] size = refl
parents_of_whole [] (here ∷ kept) size = absurd cc
parents_of_whole (b ∷ blocks) [] size = absurd cc
parents_of_whole (b ∷ blocks) (here ∷ kept) size =
    let n = length (documents_of b) in
    let rest = whole_blocks blocks kept in
    let long : length (replicate n here) ≡ n = length-replicate n here in
    let more = size_of b in
    let first : get_or (replicate n here ++ rest) (length b.children) false ≡ here =
    get_or_append_left (replicate n here) rest false (length b.children) (omega arith) ∙ get_or-replicate n (length b.children) here false (omega arith) in
    let behind : drop n (replicate n here ++ rest) ≡ rest = ap (λ k. drop k (replicate n here ++ rest)) (sym long) ∙ drop-append_seam (replicate n here) rest in
    ap₂ (λ h k. h ∷ k) first (ap (parents_in_set blocks) behind ∙ parents_of_whole blocks kept (omega arith))

pub whole_has : (blocks : List Block) (kept : List Bool) → length kept ≡ length blocks → HasWholeBlocks blocks (whole_blocks blocks kept)
whole_has blocks kept size = record { whole = ap (whole_blocks blocks) (sym (parents_of_whole blocks kept size)) }

pub live_of_whole : (blocks : List Block) (kept : List Bool) → length kept ≡ length blocks → live_in blocks (whole_blocks blocks kept) ≡ items_where_true kept blocks
live_of_whole blocks kept size = ap (λ k. items_where_true k blocks) (parents_of_whole blocks kept size)

-- ---- documents

all_of : {X : Type 0} (xs : List X) → items_where_true (replicate (length xs) true) xs ≡ xs
all_of [] = refl
all_of (x ∷ xs) = ap (λ ys. x ∷ ys) (all_of xs)

none_of : {X : Type 0} (xs : List X) → items_where_true (replicate (length xs) false) xs ≡ []
none_of [] = refl
none_of (x ∷ xs) = none_of xs

documents_of_whole : (blocks : List Block) (kept : List Bool) → length kept ≡ length blocks → documents_in (items_where_true kept blocks) ≡ items_where_true (whole_blocks blocks kept) (documents_in blocks)
documents_of_whole [] [] size = refl
documents_of_whole [] (here ∷ kept) size = absurd cc
documents_of_whole (b ∷ blocks) [] size = absurd cc
documents_of_whole (b ∷ blocks) (true ∷ kept) size =
    let ds = documents_of b in
    ap (λ es. ds ++ es) (documents_of_whole blocks kept (omega arith)) ∙ ap (λ es. es ++ items_where_true (whole_blocks blocks kept) (documents_in blocks)) (sym (all_of ds))
    ∙ sym (items_where_true-append (replicate (length ds) true) (whole_blocks blocks kept) ds (documents_in blocks) (length-replicate (length ds) true))
documents_of_whole (b ∷ blocks) (false ∷ kept) size =
    let ds = documents_of b in
    documents_of_whole blocks kept (omega arith) ∙ ap (λ es. es ++ items_where_true (whole_blocks blocks kept) (documents_in blocks)) (sym (none_of ds))
    ∙ sym (items_where_true-append (replicate (length ds) false) (whole_blocks blocks kept) ds (documents_in blocks) (length-replicate (length ds) false))

pub live_documents : LiveAreAtPositions
live_documents blocks set is =
    documents_of_whole blocks (parents_in_set blocks set) (length-parents_in_set blocks set) ∙ ap (λ s. items_where_true s (documents_in blocks)) (sym is.whole)

-- the set has the positions of all documents
length-whole_blocks : (blocks : List Block) (kept : List Bool) → length kept ≡ length blocks → length (whole_blocks blocks kept) ≡ length (documents_in blocks)
length-whole_blocks [] [] size = refl
length-whole_blocks [] (here ∷ kept) size = absurd cc
length-whole_blocks (b ∷ blocks) [] size = absurd cc
length-whole_blocks (b ∷ blocks) (here ∷ kept) size =
    let n = length (documents_of b) in
    let rest = length-whole_blocks blocks kept (omega arith) in
    omega (arith, length-append (replicate n here) (whole_blocks blocks kept), length-replicate n here, length-append (documents_of b) (documents_in blocks), rest)

pub length-live : (blocks : List Block) (set : List Bool) → HasWholeBlocks blocks set → length set ≡ length (documents_in blocks)
length-live blocks set is = ap length is.whole ∙ length-whole_blocks blocks (parents_in_set blocks set) (length-parents_in_set blocks set)

-- the full set has all blocks
pub full_is_whole : (blocks : List Block) → whole_blocks blocks (replicate (length blocks) true) ≡ replicate (length (documents_in blocks)) true
full_is_whole [] = refl
full_is_whole (b ∷ blocks) =
    ap (λ l. replicate (length (documents_of b)) true ++ l) (full_is_whole blocks) ∙ replicate-append-replicate (length (documents_of b)) (length (documents_in blocks)) true
    ∙ ap (λ n. replicate n true) (sym (length-append (documents_of b) (documents_in blocks)))

-- ---- without the blocks that pass a test

and_not : Bool → Bool → Bool
and_not here there = here && not there

zip_replicate : (n : ℕ) (a b : Bool) → zip_with (λ here there. here && not there) (replicate n a) (replicate n b) ≡ replicate n (a && not b)
zip_replicate zero a b = refl
zip_replicate (suc n) a b = ap (λ l. (a && not b) ∷ l) (zip_replicate n a b)

without_whole : (test : Block → Bool) (blocks : List Block) (kept : List Bool) → length kept ≡ length blocks
    → set_without test blocks (whole_blocks blocks kept) ≡ whole_blocks blocks (zip_with (λ here there. here && not there) kept (map test blocks))
without_whole test [] [] size = refl
without_whole test [] (here ∷ kept) size = absurd cc
without_whole test (b ∷ blocks) [] size = absurd cc
without_whole test (b ∷ blocks) (here ∷ kept) size =
    let n = length (documents_of b) in
    zip_with-append (λ x y. x && not y) (replicate n here) (whole_blocks blocks kept) (replicate n (test b)) (blocks_where test blocks) (length-replicate n here ∙ sym (length-replicate n (test b)))
    ∙ ap₂ (λ k l. k ++ l) (zip_replicate n here (test b)) (without_whole test blocks kept (omega arith))

filtered_out : (test : Block → Bool) (kept : List Bool) (blocks : List Block)
    → items_where_true (zip_with (λ here there. here && not there) kept (map test blocks)) blocks ≡ filter (λ b. not (test b)) (items_where_true kept blocks)
filtered_out test [] blocks = refl
filtered_out test (here ∷ kept) [] = refl
filtered_out test (true ∷ kept) (b ∷ blocks) = go (test b) (filtered_out test kept blocks)
  where
    go : (t : Bool) → items_where_true (zip_with (λ here there. here && not there) kept (map test blocks)) blocks ≡ filter (λ c. not (test c)) (items_where_true kept blocks)
        → items_where_true (not t ∷ zip_with (λ here there. here && not there) kept (map test blocks)) (b ∷ blocks)
        ≡ cond (not t) (b ∷ filter (λ c. not (test c)) (items_where_true kept blocks)) (filter (λ c. not (test c)) (items_where_true kept blocks))
    go true rest = rest
    go false rest = ap (λ l. b ∷ l) rest
filtered_out test (false ∷ kept) (b ∷ blocks) = filtered_out test kept blocks

module _ (test : Block → Bool) (blocks : List Block) (set : List Bool) (is : HasWholeBlocks blocks set) where
  kept_now : List Bool
  kept_now = zip_with (λ here there. here && not there) (parents_in_set blocks set) (map test blocks)

  kept_size : length kept_now ≡ length blocks
  unfolding kept_now
  kept_size =
      length-zip_with (λ here there. here && not there) (parents_in_set blocks set) (map test blocks) (length-parents_in_set blocks set ∙ sym (length-map blocks test)) ∙ length-parents_in_set blocks set

  without_is : set_without test blocks set ≡ whole_blocks blocks kept_now
  unfolding kept_now
  without_is = ap (set_without test blocks) is.whole ∙ without_whole test blocks (parents_in_set blocks set) (length-parents_in_set blocks set)

  pub without_has : HasWholeBlocks blocks (set_without test blocks set)
  without_has = subst (HasWholeBlocks blocks) (sym without_is) (whole_has blocks kept_now kept_size)

  pub without_live : live_in blocks (set_without test blocks set) ≡ filter (λ b. not (test b)) (live_in blocks set)
  unfolding kept_now
  without_live = ap (live_in blocks) without_is ∙ live_of_whole blocks kept_now kept_size ∙ filtered_out test (parents_in_set blocks set) blocks

-- ---- the blocks that operations add

length-left_bits : (ops : List Op) → length (left_bits ops) ≡ length (blocks_added ops)
length-left_bits [] = refl
length-left_bits (adding b ∷ ops) = let rest = length-left_bits ops in omega arith
length-left_bits (deleting x ∷ ops) = length-left_bits ops

left_blocks : (ops : List Op) → items_where_true (left_bits ops) (blocks_added ops) ≡ left_of ops
left_blocks [] = refl
left_blocks (adding b ∷ ops) = go (is_named ops b) (left_blocks ops)
  where
    go : (named : Bool) → items_where_true (left_bits ops) (blocks_added ops) ≡ left_of ops
        → items_where_true (not named ∷ left_bits ops) (b ∷ blocks_added ops) ≡ cond named (left_of ops) (b ∷ left_of ops)
    go true rest = rest
    go false rest = ap (λ l. b ∷ l) rest
left_blocks (deleting x ∷ ops) = left_blocks ops

pub left_has : (ops : List Op) → HasWholeBlocks (blocks_added ops) (left_set ops)
left_has ops = whole_has (blocks_added ops) (left_bits ops) (length-left_bits ops)

pub left_live : (ops : List Op) → live_in (blocks_added ops) (left_set ops) ≡ left_of ops
left_live ops = live_of_whole (blocks_added ops) (left_bits ops) (length-left_bits ops) ∙ left_blocks ops

-- ---- all lists together

filter-append : {X : Type 0} (test : X → Bool) (xs ys : List X) → filter test (xs ++ ys) ≡ filter test xs ++ filter test ys
filter-append test [] ys = refl
filter-append test (x ∷ xs) ys = go (test x) (filter-append test xs ys)
  where
    go : (b : Bool) → filter test (xs ++ ys) ≡ filter test xs ++ filter test ys → cond b (x ∷ filter test (xs ++ ys)) (filter test (xs ++ ys)) ≡ cond b (x ∷ filter test xs) (filter test xs) ++ filter test ys
    go true rest = ap (λ l. x ∷ l) rest
    go false rest = rest

go_on : (V : World) (sets : List (List Bool)) (ops : List Op) → HaveWholeBlocks V sets
    → live_in_all (V ++ blocks_added ops ∷ []) (sets_after V sets ops) ≡ filter (λ b. not (is_named ops b)) (live_in_all V sets) ++ left_of ops
go_on [] [] ops are = append-nil (live_in (blocks_added ops) (left_set ops)) ∙ left_live ops
go_on [] (set ∷ sets) ops are = absurd are
go_on (blocks ∷ V) [] ops are = absurd are
go_on (blocks ∷ V) (set ∷ sets) ops are =
    let keeps = λ (b : Block). not (is_named ops b) in
    ap₂ (λ k l. k ++ l) (without_live (is_named ops) blocks set are.0) (go_on V sets ops are.1)
    ∙ sym (append_assoc (filter keeps (live_in blocks set)) (filter keeps (live_in_all V sets)) (left_of ops))
    ∙ ap (λ l. l ++ left_of ops) (sym (filter-append keeps (live_in blocks set) (live_in_all V sets)))

stay_whole : (V : World) (sets : List (List Bool)) (ops : List Op) → HaveWholeBlocks V sets → HaveWholeBlocks (V ++ blocks_added ops ∷ []) (sets_after V sets ops)
stay_whole [] [] ops are = (left_has ops, tt)
stay_whole [] (set ∷ sets) ops are = absurd are
stay_whole (blocks ∷ V) [] ops are = absurd are
stay_whole (blocks ∷ V) (set ∷ sets) ops are = (without_has (is_named ops) blocks set are.0, stay_whole V sets ops are.1)

pub operations_go_by_lists : OperationsGoByLists
operations_go_by_lists V sets ops are = record {
  whole = stay_whole V sets ops are;
  blocks = go_on V sets ops are ∙ sym (after_is (live_in_all V sets) ops);
}
