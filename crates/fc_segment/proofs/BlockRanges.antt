-- The positions of the blocks whose parents pass a test.
use Rattle.std.proofs.Common.{◌≡◌, ℕ, zero, suc, ◌+◌, ◌-◌, ◌<◌, ◌≤◌, ◌⊎◌, inl, inr, Bool, true, false, ◌||◌, ◌&&◌, List, [], ◌∷◌, ◌++◌, length, get_or, map, replicate, nat_le, nat_lt, refl, sym, ap, ap₂, ◌∙◌, arith, length-append, append_assoc, zero-add}
use Rattle.std.specs.List.{list_any, range_with_len, items_where_true}
use Rattle.std.proofs.lemmas.Bool.{cases_lt, and_parts, leb-true, ltb-true, le-leb, lt-ltb, false_from_ne_true}
use Rattle.std.proofs.lemmas.List.{get_or-map, length-map, length-replicate, get_or-replicate, get_or_append_left, get_or-append_right, get_or_past, get_or_default, same_lists}
use Rattle.std.proofs.lemmas.List.Folds.{list_any_at, list_any_none}
use Rattle.std.proofs.lemmas.List.FromFn.{length-range_with_len, get_or-range_with_len}
use Rattle.fc_spec.specs.documents.Document.{Document, Block}
use Rattle.fc_spec.specs.documents.Sets.{zip_with}
use Rattle.fc_spec.specs.documents.Totals.{documents_of, documents_in, document_total}
use Rattle.fc_spec.specs.documents.Live.{blocks_where}
use Rattle.fc_spec.proofs.words.WhereTrue.{length-zip_with}
use Rattle.fc_docset.specs.Positions.{contains, positions, positions_from}
use Rattle.fc_segment.specs.BlockPositions.{first_in_block, is_in_block_of, parent_in_block}
use Rattle.fc_segment.specs.Parents.{parents_in}
use Rattle.fc_segment.proofs.Cutting.{length-parents_in}
use Rattle.fc_segment.proofs.ParentTexts.{contains_both}
use Rattle.fc_segment.proofs.BlockMarks.{IsInBlock, in_block, size_of, total_of, parent_here, parent_later}

-- ---- a member among positions is one of all numbers
any_from : (f : ℕ → Bool) (pre set : List Bool)
    → list_any f (positions_from (length pre) set) ≡ list_any (λ at. contains (pre ++ set) at && f at) (range_with_len (length pre) (length set))
any_from f pre [] = refl
any_from f pre (s ∷ set) =
    go s (rest (any_from f (pre ++ s ∷ []) set))
    ∙ ap (λ b. (b && f (length pre)) || list_any (λ at. contains (pre ++ s ∷ set) at && f at) (range_with_len (length pre + 1) (length set))) (sym here)
  where
    rest : list_any f (positions_from (length (pre ++ s ∷ [])) set) ≡ list_any (λ at. contains ((pre ++ s ∷ []) ++ set) at && f at) (range_with_len (length (pre ++ s ∷ [])) (length set))
        → list_any f (positions_from (length pre + 1) set) ≡ list_any (λ at. contains (pre ++ s ∷ set) at && f at) (range_with_len (length pre + 1) (length set))
    rest is =
        ap (λ n. list_any f (positions_from n set)) (sym (length-append pre (s ∷ []))) ∙ is
        ∙ ap (λ n. list_any (λ at. contains ((pre ++ s ∷ []) ++ set) at && f at) (range_with_len n (length set))) (length-append pre (s ∷ []))
        ∙ ap (λ l. list_any (λ at. contains l at && f at) (range_with_len (length pre + 1) (length set))) (append_assoc pre (s ∷ []) set)

    here : contains (pre ++ s ∷ set) (length pre) ≡ s
    here = get_or-append_right pre (s ∷ set) (length pre) (length pre) false refl (omega arith) ∙ ap (λ n. get_or (s ∷ set) n false) (let none : length pre - length pre ≡ 0 = omega arith in none)

    go : (b : Bool) → list_any f (positions_from (length pre + 1) set) ≡ list_any (λ at. contains (pre ++ s ∷ set) at && f at) (range_with_len (length pre + 1) (length set))
        → list_any f (items_where_true (b ∷ set) (range_with_len (length pre) (suc (length set))))
        ≡ ((b && f (length pre)) || list_any (λ at. contains (pre ++ s ∷ set) at && f at) (range_with_len (length pre + 1) (length set)))
    go true is = ap (λ x. f (length pre) || x) is
    go false is = is

any_position : (f : ℕ → Bool) (set : List Bool) → list_any f (positions set) ≡ list_any (λ at. contains set at && f at) (range_with_len 0 (length set))
any_position f set = any_from f [] set

-- ---- the block of a position
parent_itself : (blocks : List Block) (at : ℕ) → at < document_total blocks → contains (parents_in blocks) at ≡ true → parent_in_block blocks at ≡ at
parent_itself blocks at inside is = let b = in_block blocks at inside in go b (cases_lt at (parent_in_block blocks at))
  where
    go : IsInBlock blocks at → ((at < parent_in_block blocks at) ⊎ (parent_in_block blocks at ≤ at)) → parent_in_block blocks at ≡ at
    go b (inl less) = absurd (let wrong = sym (b.children at b.first less) ∙ is in cc)
    go b (inr more) = omega (arith, b.parent)

-- a parent and a position of its block
parent_of_position : (blocks : List Block) (at k : ℕ) → at < document_total blocks → contains (parents_in blocks) at ≡ true → first_in_block blocks at ≤ k → k ≤ at → parent_in_block blocks k ≡ at
parent_of_position blocks at k inside is low high = let b = in_block blocks k (omega arith) in let c = in_block blocks at inside in go b c (cases_lt at (parent_in_block blocks k)) (cases_lt (parent_in_block blocks k) at)
  where
    go : IsInBlock blocks k → IsInBlock blocks at → ((at < parent_in_block blocks k) ⊎ (parent_in_block blocks k ≤ at)) → ((parent_in_block blocks k < at) ⊎ (at ≤ parent_in_block blocks k)) → parent_in_block blocks k ≡ at
    go b c (inl past) _ = absurd (let wrong = sym (b.children at (omega (arith, b.first)) past) ∙ is in cc)
    go b c _ (inl before) =
        let own = parent_itself blocks at inside is in
        absurd (let wrong = sym (c.children (parent_in_block blocks k) (omega (arith, b.parent)) (omega (arith, own))) ∙ b.is_parent in cc)
    go b c (inr low) (inr high) = omega arith

first_of_parent : (blocks : List Block) (k : ℕ) → k < document_total blocks → first_in_block blocks (parent_in_block blocks k) ≤ k
first_of_parent blocks k inside = let b = in_block blocks k inside in let c = in_block blocks (parent_in_block blocks k) b.within in go b c (cases_lt k (first_in_block blocks (parent_in_block blocks k)))
  where
    go : IsInBlock blocks k → IsInBlock blocks (parent_in_block blocks k) → ((k < first_in_block blocks (parent_in_block blocks k)) ⊎ (first_in_block blocks (parent_in_block blocks k) ≤ k))
        → first_in_block blocks (parent_in_block blocks k) ≤ k
    go b c (inl past) =
        let last = c.before (omega arith) in
        absurd (let wrong = sym (b.children (first_in_block blocks (parent_in_block blocks k) - 1) (omega (arith, b.first)) (omega (arith, c.first))) ∙ last in cc)
    go b c (inr low) = low

-- ---- the blocks by their parents
parent_document : (b : Block) (blocks : List Block) → get_or (documents_in (b ∷ blocks)) (length b.children) [] ≡ b.parent
parent_document b blocks =
    get_or_append_left (documents_of b) (documents_in blocks) [] (length b.children) (omega (arith, size_of b))
    ∙ get_or-append_right b.children (b.parent ∷ []) (length b.children) (length b.children) [] refl (omega arith)
    ∙ ap (λ n. get_or (b.parent ∷ []) n []) (let none : length b.children - length b.children ≡ 0 = omega arith in none)

pub where_parent : (test : Document → Bool) (blocks : List Block) (k : ℕ) → k < document_total blocks
    → get_or (blocks_where (λ b. test b.parent) blocks) k false ≡ test (get_or (documents_in blocks) (parent_in_block blocks k) [])
where_parent test [] k inside = absurd (omega arith)
where_parent test (b ∷ blocks) k inside = go (cases_lt k (length (documents_of b))) (λ below. where_parent test blocks (k - length (documents_of b)) below)
  where
    n : ℕ
    n = length (documents_of b)

    go : ((k < length (documents_of b)) ⊎ (length (documents_of b) ≤ k))
        → (k - length (documents_of b) < document_total blocks → get_or (blocks_where (λ c. test c.parent) blocks) (k - length (documents_of b)) false ≡ test (get_or (documents_in blocks) (parent_in_block blocks (k - length (documents_of b))) []))
        → get_or (blocks_where (λ c. test c.parent) (b ∷ blocks)) k false ≡ test (get_or (documents_in (b ∷ blocks)) (parent_in_block (b ∷ blocks) k) [])
    go (inl here) rest =
        get_or_append_left (replicate (length (documents_of b)) (test b.parent)) (blocks_where (λ c. test c.parent) blocks) false k (omega (arith, length-replicate (length (documents_of b)) (test b.parent)))
        ∙ get_or-replicate (length (documents_of b)) k (test b.parent) false here
        ∙ ap test (sym (ap (λ m. get_or (documents_in (b ∷ blocks)) m []) (parent_here b blocks k here) ∙ parent_document b blocks))
    go (inr later) rest =
        let size = length (documents_of b) in
        let back : size + parent_in_block blocks (k - size) - size ≡ parent_in_block blocks (k - size) = omega arith in
        get_or-append_right (replicate size (test b.parent)) (blocks_where (λ c. test c.parent) blocks) size k false (length-replicate size (test b.parent)) later
        ∙ rest (omega (arith, total_of b blocks))
        ∙ ap test (sym (ap (λ m. get_or (documents_in (b ∷ blocks)) m []) (parent_later b blocks k later)
        ∙ get_or-append_right (documents_of b) (documents_in blocks) size (size + parent_in_block blocks (k - size)) [] refl (omega arith)
        ∙ ap (λ m. get_or (documents_in blocks) m []) back))

pub length-blocks_where : (test : Block → Bool) (blocks : List Block) → length (blocks_where test blocks) ≡ document_total blocks
length-blocks_where test [] = refl
length-blocks_where test (b ∷ blocks) =
    length-append (replicate (length (documents_of b)) (test b)) (blocks_where test blocks) ∙ ap₂ (λ a c. a + c) (length-replicate (length (documents_of b)) (test b)) (length-blocks_where test blocks)
    ∙ sym (total_of b blocks)

-- ---- the blocks of all positions with a document that passes
pub ranges_are : (test : Document → Bool) (blocks : List Block) (k : ℕ)
    → list_any (λ at. is_in_block_of blocks at k) (positions (map test (documents_in blocks))) ≡ get_or (blocks_where (λ b. test b.parent) blocks) k false
ranges_are test blocks k = any_position (λ at. is_in_block_of blocks at k) (map test (documents_in blocks)) ∙ go (cases_lt k (document_total blocks))
  where
    size : length (map test (documents_in blocks)) ≡ document_total blocks
    size = length-map (documents_in blocks) test

    at_is : (j d : ℕ) → j < length (map test (documents_in blocks)) → get_or (range_with_len 0 (length (map test (documents_in blocks)))) j d ≡ j
    at_is j d inside = get_or-range_with_len 0 (length (map test (documents_in blocks))) j d inside ∙ zero-add j

    passes : (at : ℕ) → at < document_total blocks → contains (map test (documents_in blocks)) at ≡ test (get_or (documents_in blocks) at [])
    passes at inside = get_or-map test (documents_in blocks) at [] false inside

    parts_of : (at : ℕ) → is_in_block_of blocks at k ≡ true → (contains (parents_in blocks) at ≡ true) × (first_in_block blocks at ≤ k) × (k ≤ at)
    parts_of at is =
        let parts = and_parts (contains (parents_in blocks) at) (nat_le (first_in_block blocks at) k && nat_lt k (at + 1)) is in
        let ends = and_parts (nat_le (first_in_block blocks at) k) (nat_lt k (at + 1)) parts.1 in
        let high = ltb-true k (at + 1) ends.1 in
        (parts.0, leb-true (first_in_block blocks at) k ends.0, omega arith)

    -- no number passes where the test fails for the parent
    none : ((at : ℕ) → at < document_total blocks → contains (map test (documents_in blocks)) at ≡ true → is_in_block_of blocks at k ≡ true → ⊥)
        → list_any (λ at. contains (map test (documents_in blocks)) at && is_in_block_of blocks at k) (range_with_len 0 (length (map test (documents_in blocks)))) ≡ false
    none wrong = list_any_none (λ at. contains (map test (documents_in blocks)) at && is_in_block_of blocks at k) (range_with_len 0 (length (map test (documents_in blocks))))
        (λ j d inside. let below : j < length (map test (documents_in blocks)) = omega (arith, length-range_with_len 0 (length (map test (documents_in blocks)))) in
        ap (λ at. contains (map test (documents_in blocks)) at && is_in_block_of blocks at k) (at_is j d below)
        ∙ false_from_ne_true (contains (map test (documents_in blocks)) j && is_in_block_of blocks j k)
        (λ both. let parts = and_parts (contains (map test (documents_in blocks)) j) (is_in_block_of blocks j k) both in wrong j (omega (arith, size)) parts.0 parts.1))

    go : ((k < document_total blocks) ⊎ (document_total blocks ≤ k))
        → list_any (λ at. contains (map test (documents_in blocks)) at && is_in_block_of blocks at k) (range_with_len 0 (length (map test (documents_in blocks)))) ≡ get_or (blocks_where (λ b. test b.parent) blocks) k false
    go (inr past) =
        none (λ at inside here is. let f = parts_of at is in omega (arith, f.2)) ∙ sym (get_or_past (blocks_where (λ b. test b.parent) blocks) k false (omega (arith, length-blocks_where (λ b. test b.parent) blocks)))
    go (inl inside) = by (test (get_or (documents_in blocks) (parent_in_block blocks k) [])) refl ∙ sym (where_parent test blocks k inside)
      where
        own : IsInBlock blocks k
        own = in_block blocks k inside

        by : (b : Bool) → test (get_or (documents_in blocks) (parent_in_block blocks k) []) ≡ b
            → list_any (λ at. contains (map test (documents_in blocks)) at && is_in_block_of blocks at k) (range_with_len 0 (length (map test (documents_in blocks)))) ≡ test (get_or (documents_in blocks) (parent_in_block blocks k) [])
        by true e =
            let at = parent_in_block blocks k in
            let there : at < length (map test (documents_in blocks)) = omega (arith, size, own.within) in
            let low = le-leb (first_in_block blocks at) k (first_of_parent blocks k inside) in
            let high = lt-ltb k (at + 1) (omega (arith, own.parent)) in
            list_any_at (λ n. contains (map test (documents_in blocks)) n && is_in_block_of blocks n k) (range_with_len 0 (length (map test (documents_in blocks)))) at 0 (omega (arith, length-range_with_len 0 (length (map test (documents_in blocks)))))
            (ap (λ n. contains (map test (documents_in blocks)) n && is_in_block_of blocks n k) (at_is at 0 there)
            ∙ ap₂ (λ a b. a && b) (passes at own.within ∙ e) (ap₂ (λ a b. a && b) own.is_parent (ap₂ (λ a b. a && b) low high)))
            ∙ sym e
        by false e =
            none (λ at below here is.
            let f = parts_of at is in
            let same = parent_of_position blocks at k below f.0 f.1 f.2 in
            let wrong = sym e ∙ ap (λ n. test (get_or (documents_in blocks) n [])) same ∙ sym (passes at below) ∙ here in cc)
            ∙ sym e

-- the same of the parents among them
pub ranges_of_parents : (test : Document → Bool) (blocks : List Block) (k : ℕ)
    → list_any (λ at. is_in_block_of blocks at k) (positions (zip_with ◌&&◌ (parents_in blocks) (map test (documents_in blocks)))) ≡ get_or (blocks_where (λ b. test b.parent) blocks) k false
ranges_of_parents test blocks k =
    let having = map test (documents_in blocks) in
    let both = zip_with ◌&&◌ (parents_in blocks) having in
    let even : length (parents_in blocks) ≡ length having = length-parents_in blocks ∙ sym (length-map (documents_in blocks) test) in
    let size : length both ≡ length having = length-zip_with ◌&&◌ (parents_in blocks) having even ∙ even in
    any_position (λ at. is_in_block_of blocks at k) both
    ∙ ap (λ n. list_any (λ at. contains both at && is_in_block_of blocks at k) (range_with_len 0 n)) size
    ∙ (λ i. list_any (λ at. same at i) (range_with_len 0 (length having)))
    ∙ sym (any_position (λ at. is_in_block_of blocks at k) having)
    ∙ ranges_are test blocks k
  where
    twice : (parent here range : Bool) → ((parent && here) && (parent && range)) ≡ (here && (parent && range))
    twice true here range = refl
    twice false true range = refl
    twice false false range = refl

    same : (at : ℕ) → (contains (zip_with ◌&&◌ (parents_in blocks) (map test (documents_in blocks))) at && is_in_block_of blocks at k) ≡ (contains (map test (documents_in blocks)) at && is_in_block_of blocks at k)
    same at =
        ap (λ b. b && is_in_block_of blocks at k) (contains_both (parents_in blocks) (map test (documents_in blocks)) at (length-parents_in blocks ∙ sym (length-map (documents_in blocks) test)))
        ∙ twice (contains (parents_in blocks) at) (contains (map test (documents_in blocks)) at) (nat_le (first_in_block blocks at) k && nat_lt k (at + 1))

-- ---- sets that agree at each position
pub joined_sets : (old new more : List Bool) → length new ≡ length old → length more ≡ length old → ((k : ℕ) → contains new k ≡ (contains old k || contains more k)) → new ≡ zip_with ◌||◌ old more
joined_sets old new more size even same =
    same_lists new (zip_with ◌||◌ old more) (size ∙ sym (length-zip_with ◌||◌ old more (sym even)))
    (λ k d inside. get_or_default new k d false inside ∙ same k ∙ sym (get_or-zip old more k d (omega (arith, size)) even))
  where
    get_or-zip : (a b : List Bool) (k : ℕ) (d : Bool) → k < length a → length b ≡ length a → get_or (zip_with ◌||◌ a b) k d ≡ (get_or a k false || get_or b k false)
    get_or-zip [] b k d inside long = absurd (omega arith)
    get_or-zip (x ∷ a) [] k d inside long = absurd (omega arith)
    get_or-zip (x ∷ a) (y ∷ b) zero d inside long = refl
    get_or-zip (x ∷ a) (y ∷ b) (suc k) d inside long = get_or-zip a b k d (omega arith) (omega arith)
