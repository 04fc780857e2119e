-- The places of positions that were gathered.
use Rattle.std.proofs.Common.{◌≡◌, ◌<◌, ℕ, ℤ, suc, Bool, true, false, cond, ◌||◌, List, [], ◌∷◌, ◌++◌, length, map, get_or, refl, sym, ap, ap₂, subst, ◌∙◌, arith, add-zero, length-append}
use Rattle.std.specs.List.{All, AllPairs, items_where_true, list_any, range_with_len}
use Rattle.std.specs.Ordering.{int_eq}
use Rattle.std.proofs.lemmas.Bool.{false≢true}
use Rattle.std.proofs.lemmas.Bool.Decides.{Decides-int_eq}
use Rattle.std.proofs.lemmas.List.{get_or-append-add, map-append}
use Rattle.std.proofs.lemmas.List.FromFn.{get_or-range_with_len, length-range_with_len}
use Rattle.std.proofs.lemmas.List.Elements.{All-append, All-cons, All-head, All-map, All-tail, filter-append}
use Rattle.fc_spec.specs.documents.Document.{Block}
use Rattle.fc_spec.specs.documents.Sets.{places_on}
use Rattle.fc_spec.specs.documents.Totals.{document_total}
use Rattle.fc_spec.specs.requests.Buckets.{Key, bucket_places, in_bucket}
use Rattle.fc_spec.specs.requests.Request.{Kind}
use Rattle.fc_docset.specs.Positions.{positions}
use Rattle.fc_kind.specs.PlaceAt.{place_at}
use Rattle.fc_count.specs.Counting.{Counting}
use Rattle.fc_count.specs.Runs.{of_number, places_of, positions_of}
use Rattle.fc_count.proofs.CountedBuckets.{held_bucket}
use Rattle.fc_terms.specs.Gathered.{AreGathered, countings_at}

-- ---- the positions in a set are below its length
all_picked : {X : Type 0} (P : X → Type 0) (bs : List Bool) (xs : List X) → All P xs → All P (items_where_true bs xs)
all_picked P [] xs h = λ k d inside. absurd (omega arith)
all_picked P (b ∷ bs) [] h = λ k d inside. absurd (omega arith)
all_picked P (true ∷ bs) (x ∷ xs) h = All-cons P x (items_where_true bs xs) (All-head P x xs h) (all_picked P bs xs (All-tail P x xs h))
all_picked P (false ∷ bs) (x ∷ xs) h = all_picked P bs xs (All-tail P x xs h)

positions_within : (set : List Bool) → All (λ at. at < length set) (positions set)
positions_within set =
    all_picked (λ at. at < length set) set (range_with_len 0 (length set)) (λ k d inside.
    let size = length-range_with_len 0 (length set) in
    subst (λ n. n < length set) (sym (get_or-range_with_len 0 (length set) k d (omega (arith, inside, size)))) (omega (arith, inside, size)))

pub next_within : (set : List Bool) (done : List ℕ) (at : ℕ) (rest : List ℕ) → done ++ at ∷ rest ≡ positions set → at < length set
next_within set done at rest all =
    let h = subst (All (λ k. k < length set)) (sym all) (positions_within set) in
    subst (λ n. n < length set) (ap (λ n. get_or (done ++ at ∷ rest) n at) (sym (add-zero (length done))) ∙ get_or-append-add done (at ∷ rest) 0 at)
    (h (length done) at (omega (arith, length-append done (at ∷ rest))))

-- ---- one position with its numbers
same_either_way : (a b : ℤ) (r : Bool) → int_eq a b ≡ r → int_eq b a ≡ r
same_either_way a b true e = (Decides-int_eq b a).1 (sym ((Decides-int_eq a b).0 e))
same_either_way a b false e = go (int_eq b a) refl
  where
    go : (r : Bool) → int_eq b a ≡ r → int_eq b a ≡ false
    go false k = k
    go true k = absurd (false≢true (sym e ∙ (Decides-int_eq a b).1 (sym ((Decides-int_eq b a).0 k))))

none_same : (n : ℤ) (zs : List ℤ) → All (λ z. int_eq n z ≡ false) zs → list_any (int_eq n) zs ≡ false
none_same n [] h = refl
none_same n (z ∷ zs) h = ap (λ b. b || list_any (int_eq n) zs) (All-head (λ x. int_eq n x ≡ false) z zs h) ∙ none_same n zs (All-tail (λ x. int_eq n x ≡ false) z zs h)

pairs_behind : (z : ℤ) (zs : List ℤ) → AllPairs (λ a b. int_eq a b ≡ false) (z ∷ zs) → AllPairs (λ a b. int_eq a b ≡ false) zs
pairs_behind z zs h = λ i j d order inside. h (suc i) (suc j) d (omega arith) (omega arith)

-- it is counted once by each of them
counted_row : (row : List ℤ) (at : ℕ) (n : ℤ) → AllPairs (λ a b. int_eq a b ≡ false) row → positions_of (countings_at at row) n ≡ cond (list_any (int_eq n) row) (at ∷ []) []
counted_row [] at n h = refl
counted_row (z ∷ zs) at n h = go (int_eq z n) refl (counted_row zs at n (pairs_behind z zs h))
  where
    go : (b : Bool) → int_eq z n ≡ b → positions_of (countings_at at zs) n ≡ cond (list_any (int_eq n) zs) (at ∷ []) []
        → map (λ c. c.at) (cond b (record { number = z; at = at } ∷ of_number n (countings_at at zs)) (of_number n (countings_at at zs))) ≡ cond (int_eq n z || list_any (int_eq n) zs) (at ∷ []) []
    go true e others =
        let is : z ≡ n = (Decides-int_eq z n).0 e in
        let none = none_same n zs (λ k d inside. subst (λ x. int_eq x (get_or zs k d) ≡ false) is (h 0 (suc k) d (omega arith) (omega arith))) in
        ap (λ l. at ∷ l) (others ∙ ap (λ b. cond b (at ∷ []) []) none) ∙ ap (λ b. cond (b || list_any (int_eq n) zs) (at ∷ []) []) (sym (same_either_way z n true e))
    go false e others = others ∙ ap (λ b. cond (b || list_any (int_eq n) zs) (at ∷ []) []) (sym (same_either_way z n false e))

-- ---- one position more
pub gathered_more : (numbers : ℕ → List ℤ) (ks : List ℕ) (cs : List Counting) (at : ℕ) → AllPairs (λ a b. int_eq a b ≡ false) (numbers at)
    → AreGathered numbers ks cs → AreGathered numbers (ks ++ at ∷ []) (cs ++ countings_at at (numbers at))
gathered_more numbers ks cs at apart so_far = λ n.
    ap (map (λ c. c.at)) (filter-append (λ c. int_eq c.number n) cs (countings_at at (numbers at)))
    ∙ map-append (λ (c : Counting). c.at) (of_number n cs) (of_number n (countings_at at (numbers at)))
    ∙ ap₂ (λ a b. a ++ b) (so_far n) (counted_row (numbers at) at n apart)
    ∙ sym (filter-append (λ k. list_any (int_eq n) (numbers k)) ks (at ∷ []))

pub there_more : (total : ℕ) (cs : List Counting) (at : ℕ) (row : List ℤ) → at < total → All (λ c. c.at < total) cs → All (λ c. c.at < total) (cs ++ countings_at at row)
there_more total cs at row here before =
    All-append (λ (c : Counting). c.at < total) cs (countings_at at row) before (All-map (λ (c : Counting). c.at < total) (λ number. record { number = number; at = at }) row (λ k d inside. here))

pub numbers_more : (P : ℤ → Type 0) (cs : List Counting) (at : ℕ) (row : List ℤ) → All P row → All (λ c. P c.number) cs → All (λ c. P c.number) (cs ++ countings_at at row)
numbers_more P cs at row here before =
    All-append (λ (c : Counting). P c.number) cs (countings_at at row) before (All-map (λ (c : Counting). P c.number) (λ number. record { number = number; at = at }) row here)

-- the places that a number counts are those of its bucket, where a document is there exactly where the position has the number
pub gathered_places : (kind : Kind) (k : Key) (n : ℤ) (numbers : ℕ → List ℤ) (blocks : List Block) (set : List Bool) (cs : List Counting) → length set ≡ document_total blocks
    → ((at : ℕ) → at < document_total blocks → list_any (int_eq n) (numbers at) ≡ in_bucket kind k (place_at blocks at).document) → AreGathered numbers (positions set) cs
    → places_of blocks cs n ≡ bucket_places kind k (places_on 0 blocks set)
gathered_places kind k n numbers blocks set cs long same gathered =
    ap (map (place_at blocks)) (gathered n) ∙ held_bucket blocks set long kind k (λ at i. list_any (int_eq n) (numbers at)) 0 same
