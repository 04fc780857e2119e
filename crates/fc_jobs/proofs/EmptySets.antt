-- Sets with no position.
use Rattle.std.proofs.Common.{◌≡◌, ℕ, zero, suc, ◌+◌, List, [], ◌∷◌, ◌++◌, length, length-append, replicate, take, drop, Bool, true, false, not, ◌&&◌, Option, None, Some, refl, sym, ◌∙◌, ap, arith}
use Rattle.std.specs.Prelude.{if◌then◌else◌}
use Rattle.std.specs.List.{items_where_true, list_all, list_any}
use Rattle.std.specs.Option.{MatchOption, is_some}
use Rattle.std.proofs.lemmas.Bool.{false≢true}
use Rattle.std.proofs.lemmas.List.{drop-replicate, get_or-replicate, replicate-append-replicate, take-replicate}
use Rattle.std.proofs.lemmas.List.Elements.{All-replicate}
use Rattle.std.proofs.lemmas.List.Folds.{list_any_none}
use Rattle.fc_spec.specs.words.Lists.{is_empty}
use Rattle.fc_spec.specs.documents.Document.{Block, Document}
use Rattle.fc_spec.specs.documents.Sets.{passing, places_on, zip_with}
use Rattle.fc_spec.specs.documents.Totals.{document_total, documents_in, documents_of}
use Rattle.fc_spec.specs.documents.World.{Place, shard_places}
use Rattle.fc_spec.specs.queries.Matching.{matches}
use Rattle.fc_spec.specs.queries.Query.{Query}
use Rattle.fc_spec.specs.requests.Buckets.{Key, bucket_places, in_bucket}
use Rattle.fc_spec.specs.requests.DomainSets.{bucket_set, by_blocks, changed_set, filtered_set, moved_set, to_children, to_parent}
use Rattle.fc_spec.specs.requests.Request.{BlockStep, DomainChange, Kind, Stat, children, parents, stay}
use Rattle.fc_spec.proofs.requests.BlockSteps.{length-documents_of}
use Rattle.fc_spec.proofs.requests.SetChanges.{length-passing}
use Rattle.fc_docset.specs.Neighbours.{HasNoneFrom, IsNextFrom}
use Rattle.fc_docset.specs.Positions.{contains}
use Rattle.fc_kind.specs.Collecting.{Collects}
use Rattle.fc_partial.specs.Tallied.{Tallied}

-- what a search from the first position finds, where it finds none
pub none_found : (found : Option ℕ) (none : Bool) (set : List Bool) → MatchOption found (HasNoneFrom (contains set) 0) (IsNextFrom (contains set) 0) → is_some found ≡ not none → none ≡ true → HasNoneFrom (contains set) 0
none_found None none set m e h = m
none_found (Some at) none set m e h = absurd (cc)

-- they are false at each position
pub none_is : (set : List Bool) → HasNoneFrom (contains set) 0 → set ≡ replicate (length set) false
none_is [] none = refl
none_is (b ∷ set) none = λ i. none 0 (omega arith) i ∷ none_is set (λ k h. none (suc k) (omega arith)) i

nothing_passes : (n : ℕ) (others : List Bool) → length others ≡ n → zip_with ◌&&◌ (replicate n false) others ≡ replicate n false
nothing_passes zero others e = refl
nothing_passes (suc n) [] e = absurd (omega arith)
nothing_passes (suc n) (b ∷ others) e = ap (λ l. false ∷ l) (nothing_passes n others (omega arith))

-- and none of them is in a bucket
pub none_selected : (kind : Kind) (key : Key) (blocks : List Block) (set : List Bool) → length set ≡ document_total blocks → HasNoneFrom (contains set) 0 → replicate (length set) false ≡ bucket_set kind key blocks set
none_selected kind key blocks set long none =
    sym (ap (bucket_set kind key blocks) (none_is set none) ∙ nothing_passes (length set) (passing (in_bucket kind key) blocks) (length-passing (in_bucket kind key) blocks ∙ sym long))

-- ---- changes

row_none : (n : ℕ) → replicate n false ++ false ∷ [] ≡ replicate (suc n) false
row_none zero = refl
row_none (suc n) = ap (λ l. false ∷ l) (row_none n)

none_any : (n : ℕ) → list_any (λ here. here) (replicate n false) ≡ false
none_any n = list_any_none (λ here. here) (replicate n false) (All-replicate (λ here. here ≡ false) n false refl)

not_both : (b other : Bool) → other ≡ false → (b && other) ≡ false
not_both true other e = e
not_both false other e = refl

-- the documents of a block of which none is there
abbrev none_of : Block → List Bool
none_of b = replicate (length (documents_of b)) false

block_none : (b : Block) (below above : Bool) → below ≡ false → above ≡ false → replicate (length b.children) below ++ above ∷ [] ≡ none_of b
block_none b below above c p = (λ i. replicate (length b.children) (c i) ++ p i ∷ []) ∙ row_none (length b.children) ∙ ap (λ n. replicate n false) (sym (length-documents_of b))

no_parent : (q : Query) (b : Block) → to_parent q b (none_of b) ≡ none_of b
no_parent q b = block_none b false _ refl (not_both (matches q b.parent) _ (none_any (length (documents_of b))))

no_children : (q : Query) (b : Block) → to_children q b (none_of b) ≡ none_of b
no_children q b =
    block_none b _ false (not_both (matches q b.parent) _ (get_or-replicate (length (documents_of b)) (length b.children) false false (omega (arith, length-documents_of b)))) refl

none_by_blocks : (f : Block → List Bool → List Bool) → ((b : Block) → f b (none_of b) ≡ none_of b) → (blocks : List Block) → by_blocks f blocks (replicate (document_total blocks) false) ≡ replicate (document_total blocks) false
none_by_blocks f own [] = refl
none_by_blocks f own (b ∷ blocks) =
    let n = length (documents_of b) in
    let m = document_total blocks in
    let total : document_total (b ∷ blocks) ≡ n + m = length-append (documents_of b) (documents_in blocks) in
    let front : take n (replicate (n + m) false) ≡ replicate n false = take-replicate n (n + m) false (omega arith) in
    let rest : drop n (replicate (n + m) false) ≡ replicate m false = drop-replicate n (n + m) false ∙ ap (λ k. replicate k false) (omega arith) in
    ap (λ k. by_blocks f (b ∷ blocks) (replicate k false)) total
    ∙ (λ i. f b (front i) ++ by_blocks f blocks (rest i))
    ∙ (λ i. own b i ++ none_by_blocks f own blocks i)
    ∙ replicate-append-replicate n m false ∙ ap (λ k. replicate k false) (sym total)

none_moved : (step : BlockStep) (blocks : List Block) → moved_set step blocks (replicate (document_total blocks) false) ≡ replicate (document_total blocks) false
none_moved stay blocks = refl
none_moved (parents q) blocks = none_by_blocks (to_parent q) (no_parent q) blocks
none_moved (children q) blocks = none_by_blocks (to_children q) (no_children q) blocks

-- a change that excludes no tag leaves none of them
pub none_changed : (change : DomainChange) (blocks : List Block) (base set : List Bool) → is_empty change.exclude ≡ true → length set ≡ document_total blocks → HasNoneFrom (contains set) 0
    → replicate (length set) false ≡ changed_set change blocks base set
none_changed change blocks base set untagged long none =
    let total = document_total blocks in
    let nowhere : set ≡ replicate total false = none_is set none ∙ ap (λ n. replicate n false) long in
    let test = λ (d : Document). list_all (λ q. matches q d) change.filters in
    ap (λ n. replicate n false) long
    ∙ sym ((λ i. filtered_set change.filters blocks (moved_set change.block blocks (if untagged i then nowhere i else base)))
    ∙ ap (filtered_set change.filters blocks) (none_moved change.block blocks)
    ∙ nothing_passes total (passing test blocks) (length-passing test blocks))

-- ---- collecting

no_item : {X : Type 0} (n : ℕ) (xs : List X) → items_where_true (replicate n false) xs ≡ []
no_item zero xs = refl
no_item (suc n) [] = refl
no_item (suc n) (x ∷ xs) = no_item n xs

collects_none : (kind : Kind) (ss : List Stat) (Y : List Place) (t : Tallied) → Y ≡ [] → Collects kind ss Y t t
collects_none kind ss Y t e = record {
  stats = refl;
  grown = λ k h some. absurd (false≢true (sym some ∙ ap (λ y. is_empty (bucket_places kind k y)) e));
  empty = λ k h no. refl;
  others = λ k h. refl;
}

-- and nothing is collected of them
pub none_collected : (kind : Kind) (ss : List Stat) (blocks : List Block) (set : List Bool) (t : Tallied) → HasNoneFrom (contains set) 0 → Collects kind ss (places_on 0 blocks set) t t
none_collected kind ss blocks set t none = collects_none kind ss (places_on 0 blocks set) t (ap (places_on 0 blocks) (none_is set none) ∙ no_item (length set) (shard_places 0 0 0 blocks))
