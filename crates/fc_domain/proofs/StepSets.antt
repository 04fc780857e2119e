-- Domain changes of sets, from what matches.
use Rattle.std.proofs.Common.{◌≡◌, ℕ, zero, suc, ◌+◌, ◌-◌, Bool, true, false, cond, ◌&&◌, List, [], ◌∷◌, ◌++◌, length, get_or, map, take, drop, replicate, refl, sym, ap, ap₂, ◌∙◌, arith, append-nil, get_or-take}
use Rattle.std.specs.List.{filter, list_all, list_any, items_where_true}
use Rattle.std.proofs.Math.Bool.{and_assoc, and-true, and_comm}
use Rattle.std.proofs.lemmas.List.{map-append, get_or-map, length-map, length-drop, length_push, length-replicate, get_or_append_left, get_or-append_right}
use Rattle.fc_spec.specs.documents.Document.{Document, Block}
use Rattle.fc_spec.specs.documents.Live.{HasWholeBlocks, live_in}
use Rattle.fc_spec.specs.documents.Totals.{documents_of, documents_in, document_total}
use Rattle.fc_spec.specs.documents.Val.{Text}
use Rattle.fc_spec.specs.documents.Sets.{zip_with, passing, passing_of, places_at, places_on}
use Rattle.fc_spec.specs.documents.World.{Place, places, shard_places}
use Rattle.fc_spec.specs.queries.Query.{Query, all}
use Rattle.fc_spec.specs.queries.Matching.{matches}
use Rattle.fc_spec.specs.requests.Request.{Request, DomainChange, children, parents}
use Rattle.fc_spec.specs.requests.Base.{base, meets_base}
use Rattle.fc_spec.specs.requests.Domain.{changed}
use Rattle.fc_spec.specs.requests.DomainSets.{changed_set, moved_set, by_blocks, to_parent, to_children}
use Rattle.fc_spec.specs.laws.LiveSetLaws.{PassingOnLive}
use Rattle.fc_spec.proofs.words.WhereTrue.{filter_where_true, zip_with-append, zip_with-map, length-zip_with}
use Rattle.fc_spec.proofs.documents.LiveBlocks.{live_documents}
use Rattle.fc_spec.proofs.documents.PlacedDocuments.{documents_at-places}
use Rattle.fc_spec.proofs.requests.SetChanges.{changes_are_blockwise}
use Rattle.fc_lane.proofs.BitLists.{get_or-zip_with}
use Rattle.fc_segment.proofs.BlockMarks.{size_of, total_of}

-- ---- filters, one after another

zip_twice : {X : Type 0} (s t : X → Bool) (set : List Bool) (xs : List X) → zip_with ◌&&◌ (zip_with ◌&&◌ set (map t xs)) (map s xs) ≡ zip_with ◌&&◌ set (map (λ x. t x && s x) xs)
zip_twice s t [] xs = refl
zip_twice s t (h ∷ set) [] = refl
zip_twice s t (h ∷ set) (x ∷ xs) = ap₂ (λ a l. a ∷ l) (and_assoc h (t x) (s x)) (zip_twice s t set xs)

zip_all : {X : Type 0} (set : List Bool) (xs : List X) → length set ≡ length xs → zip_with ◌&&◌ set (map (λ x. true) xs) ≡ set
zip_all [] xs e = refl
zip_all (h ∷ set) [] e = absurd (omega arith)
zip_all (h ∷ set) (x ∷ xs) e = ap₂ (λ a l. a ∷ l) (and-true h) (zip_all set xs (omega arith))

-- those that pass two tests
pub passing_of-passing_of : (s t : Document → Bool) (blocks : List Block) (set : List Bool) → passing_of s blocks (passing_of t blocks set) ≡ passing_of (λ d. t d && s d) blocks set
passing_of-passing_of s t blocks set = zip_twice s t set (documents_in blocks)

pub passing_of-all : (blocks : List Block) (set : List Bool) → length set ≡ document_total blocks → passing_of (λ d. true) blocks set ≡ set
passing_of-all blocks set e = zip_all set (documents_in blocks) e

pub passing_of-passing : (s t : Document → Bool) (blocks : List Block) → passing_of t blocks (passing s blocks) ≡ passing (λ d. s d && t d) blocks
passing_of-passing s t blocks = zip_with-map ◌&&◌ s t (documents_in blocks)

zip_either_way : (a b : List Bool) → zip_with ◌&&◌ a b ≡ zip_with ◌&&◌ b a
zip_either_way [] [] = refl
zip_either_way [] (y ∷ b) = refl
zip_either_way (x ∷ a) [] = refl
zip_either_way (x ∷ a) (y ∷ b) = ap₂ (λ h l. h ∷ l) (and_comm x y) (zip_either_way a b)

-- those that pass, within a set
pub passing-within : (t : Document → Bool) (blocks : List Block) (set : List Bool) → zip_with ◌&&◌ (passing t blocks) set ≡ passing_of t blocks set
passing-within t blocks set = zip_either_way (passing t blocks) set

-- the filters from one on, of what is left, are all of the filters
pub record AreFilteredTo {X : Type 0} (test : X → Document → Bool) (blocks : List Block) (left whole : List X) (old into : List Bool) : Type 0 where
  pub size : length into ≡ document_total blocks
  pub same : passing_of (λ d. list_all (λ x. test x d) left) blocks into ≡ passing_of (λ d. list_all (λ x. test x d) whole) blocks old

pub none_filtered : {X : Type 0} (test : X → Document → Bool) (blocks : List Block) (whole : List X) (old : List Bool) → length old ≡ document_total blocks → AreFilteredTo test blocks whole whole old old
none_filtered test blocks whole old size = record { size = size; same = refl }

-- one more filter
pub one_filtered : {X : Type 0} (test : X → Document → Bool) (blocks : List Block) (x : X) (left whole : List X) (old into new : List Bool) → AreFilteredTo test blocks (x ∷ left) whole old into
    → new ≡ passing_of (test x) blocks into → AreFilteredTo test blocks left whole old new
one_filtered test blocks x left whole old into new so_far is = record {
  size = ap length is ∙ length-zip_with ◌&&◌ into (passing (test x) blocks) (so_far.size ∙ sym (length-map (documents_in blocks) (test x))) ∙ so_far.size;
  same = ap (passing_of (λ d. list_all (λ y. test y d) left) blocks) is ∙ passing_of-passing_of (λ d. list_all (λ y. test y d) left) (test x) blocks into ∙ so_far.same;
}

-- one that lets every document pass
pub one_passed_over : {X : Type 0} (test : X → Document → Bool) (blocks : List Block) (x : X) (left whole : List X) (old into : List Bool) → AreFilteredTo test blocks (x ∷ left) whole old into
    → ((d : Document) → test x d ≡ true) → AreFilteredTo test blocks left whole old into
one_passed_over test blocks x left whole old into so_far every = record {
  size = so_far.size;
  same = sym (λ i. passing_of (λ d. every d i && list_all (λ y. test y d) left) blocks into) ∙ so_far.same;
}

pub all_filtered : {X : Type 0} (test : X → Document → Bool) (blocks : List Block) (whole : List X) (old into : List Bool) → AreFilteredTo test blocks [] whole old into
    → into ≡ passing_of (λ d. list_all (λ x. test x d) whole) blocks old
all_filtered test blocks whole old into so_far = sym (passing_of-all blocks into so_far.size) ∙ so_far.same

-- ---- block steps

parent_row : (q : Query) (ds : List Document) (d : Document) (any : Bool) → zip_with ◌&&◌ (replicate (length ds) false ++ any ∷ []) (map (matches q) (ds ++ d ∷ [])) ≡ replicate (length ds) false ++ (matches q d && any) ∷ []
parent_row q [] d any = ap (λ a. a ∷ []) (and_comm any (matches q d))
parent_row q (c ∷ cs) d any = ap (λ l. false ∷ l) (parent_row q cs d any)

-- of the parents in whose block something stands those that match
pub parents_matching : (q : Query) (blocks : List Block) (set : List Bool) → length set ≡ document_total blocks
    → passing_of (matches q) blocks (moved_set (parents all) blocks set) ≡ moved_set (parents q) blocks set
parents_matching q [] set e = refl
parents_matching q (b ∷ blocks) set e =
    let n = length (documents_of b) in
    let rest = by_blocks (to_parent all) blocks (drop n set) in
    let high : length (drop n set) ≡ document_total blocks = length-drop n set ∙ omega (arith, total_of b blocks) in
    ap (zip_with ◌&&◌ (to_parent all b (take n set) ++ rest)) (map-append (matches q) (documents_of b) (documents_in blocks))
    ∙ zip_with-append ◌&&◌ (to_parent all b (take n set)) rest (map (matches q) (documents_of b)) (passing (matches q) blocks)
    (row_size b ∙ sym (length-map (documents_of b) (matches q) ∙ size_of b))
    ∙ ap₂ (λ x y. x ++ y) (parent_row q b.children b.parent (list_any (λ here. here) (take n set))) (parents_matching q blocks (drop n set) high)
  where
    row_size : (b : Block) → length (to_parent all b (take (length (documents_of b)) set)) ≡ length b.children + 1
    row_size b = length_push (replicate (length b.children) false) _ ∙ ap (λ m. m + 1) (length-replicate (length b.children) false)

drop-zip_with : (n : ℕ) (a b : List Bool) → length a ≡ length b → drop n (zip_with ◌&&◌ a b) ≡ zip_with ◌&&◌ (drop n a) (drop n b)
drop-zip_with zero a b e = refl
drop-zip_with (suc n) [] [] e = refl
drop-zip_with (suc n) [] (y ∷ b) e = absurd (omega arith)
drop-zip_with (suc n) (x ∷ a) [] e = absurd (omega arith)
drop-zip_with (suc n) (x ∷ a) (y ∷ b) e = drop-zip_with n a b (omega arith)

-- the children of the parents that match are those of the parents among what matches
pub children_matching : (q : Query) (blocks : List Block) (set : List Bool) → length set ≡ document_total blocks
    → moved_set (children all) blocks (zip_with ◌&&◌ (passing (matches q) blocks) set) ≡ moved_set (children q) blocks set
children_matching q [] set e = refl
children_matching q (b ∷ blocks) set e =
    (λ i. (replicate c (parent_is i) ++ false ∷ []) ++ by_blocks (to_children all) blocks (later i)) ∙ ap (λ v. to_children q b (take n set) ++ v) (children_matching q blocks (drop n set) high)
  where
    n : ℕ
    n = length (documents_of b)

    c : ℕ
    c = length b.children

    pass : List Bool
    pass = passing (matches q) (b ∷ blocks)

    even : length pass ≡ length set
    even = length-map (documents_in (b ∷ blocks)) (matches q) ∙ sym e

    high : length (drop n set) ≡ document_total blocks
    high = length-drop n set ∙ omega (arith, total_of b blocks)

    later : drop n (zip_with ◌&&◌ pass set) ≡ zip_with ◌&&◌ (passing (matches q) blocks) (drop n set)
    later = drop-zip_with n pass set even
        ∙ ap (λ v. zip_with ◌&&◌ v (drop n set)) (ap (drop n) (map-append (matches q) (documents_of b) (documents_in blocks)) ∙ drop_front (map (matches q) (documents_of b)) (passing (matches q) blocks) n (length-map (documents_of b) (matches q)))
      where
        drop_front : (xs ys : List Bool) (n : ℕ) → length xs ≡ n → drop n (xs ++ ys) ≡ ys
        drop_front [] ys zero h = refl
        drop_front [] ys (suc n) h = absurd (omega arith)
        drop_front (x ∷ xs) ys zero h = absurd (omega arith)
        drop_front (x ∷ xs) ys (suc n) h = drop_front xs ys n (omega arith)

    none : c - c ≡ 0
    none = omega arith

    at_parent : get_or pass c false ≡ matches q b.parent
    at_parent =
        get_or-map (matches q) (documents_in (b ∷ blocks)) c b.parent false (omega (arith, total_of b blocks, size_of b))
        ∙ ap (matches q) (get_or_append_left (documents_of b) (documents_in blocks) b.parent c (omega (arith, size_of b))
        ∙ get_or-append_right b.children (b.parent ∷ []) c c b.parent refl (omega arith) ∙ ap (λ k. get_or (b.parent ∷ []) k b.parent) none)

    parent_is : (get_or (take n (zip_with ◌&&◌ pass set)) c false) ≡ (matches q b.parent && get_or (take n set) c false)
    parent_is =
        get_or-take n (zip_with ◌&&◌ pass set) c false (omega (arith, size_of b))
        ∙ get_or-zip_with ◌&&◌ pass set c even (omega (arith, even, e, total_of b blocks, size_of b))
        ∙ ap₂ (λ x y. x && y) at_parent (sym (get_or-take n set c false (omega (arith, size_of b))))

-- ---- the world of one shard

places_of_one : (blocks : List Block) (set : List Bool) → places_at (blocks ∷ []) (set ∷ []) ≡ places_on 0 blocks set
places_of_one blocks set = λ i. items_where_true (append-nil set i) (append-nil (shard_places 0 0 0 blocks) i)

one_set : (blocks : List Block) (set : List Bool) → length set ≡ document_total blocks → map length (set ∷ []) ≡ map document_total (blocks ∷ [])
one_set blocks set e = ap (λ n. n ∷ []) e

pub changed_places : (change : DomainChange) (blocks : List Block) (base set : List Bool) → length base ≡ document_total blocks → length set ≡ document_total blocks
    → places_on 0 blocks (changed_set change blocks base set) ≡ changed (blocks ∷ []) (places_on 0 blocks base) change (places_on 0 blocks set)
changed_places change blocks base set h e =
    sym ((λ i. changed (blocks ∷ []) (sym (places_of_one blocks base) i) change (sym (places_of_one blocks set) i))
    ∙ changes_are_blockwise change (blocks ∷ []) (base ∷ []) (set ∷ []) (one_set blocks base h) (one_set blocks set e)
    ∙ places_of_one blocks (changed_set change blocks base set))

-- ---- the documents of the base

filtered_documents : (t : Document → Bool) (X : List Place) → map (λ p. p.document) (filter (λ p. t p.document) X) ≡ filter t (map (λ p. p.document) X)
filtered_documents t [] = refl
filtered_documents t (p ∷ X) = go (t p.document) (filtered_documents t X)
  where
    go : (here : Bool) → map (λ p. p.document) (filter (λ p. t p.document) X) ≡ filter t (map (λ p. p.document) X)
        → map (λ p. p.document) (cond here (p ∷ filter (λ p. t p.document) X) (filter (λ p. t p.document) X))
        ≡ cond here (p.document ∷ filter t (map (λ p. p.document) X)) (filter t (map (λ p. p.document) X))
    go true rest = ap (λ l. p.document ∷ l) rest
    go false rest = rest

none_picked : {X : Type 0} (set : List Bool) → [] ≡ items_where_true {X = X} set []
none_picked [] = refl
none_picked (here ∷ set) = refl

-- what passes of a set picks what passes, kept at the set's positions, of the members there
kept_within : {X : Type 0} (set passes : List Bool) (xs : List X) → items_where_true (zip_with ◌&&◌ set passes) xs ≡ items_where_true (items_where_true set passes) (items_where_true set xs)
kept_within [] passes xs = refl
kept_within (here ∷ set) [] xs = refl
kept_within (here ∷ set) (pass ∷ passes) [] = none_picked (items_where_true (here ∷ set) (pass ∷ passes))
kept_within (true ∷ set) (true ∷ passes) (x ∷ xs) = ap (λ l. x ∷ l) (kept_within set passes xs)
kept_within (true ∷ set) (false ∷ passes) (x ∷ xs) = kept_within set passes xs
kept_within (false ∷ set) (pass ∷ passes) (x ∷ xs) = kept_within set passes xs

-- they are those of the live blocks
pub base_documents : PassingOnLive → (r : Request) (tags : List Text) (blocks : List Block) (live : List Bool) → HasWholeBlocks blocks live
    → items_where_true (passing_of (meets_base r tags) blocks live) (documents_in blocks) ≡ map (λ p. p.document) (base r (live_in blocks live ∷ []) tags)
base_documents on_live r tags blocks live whole =
    let meets = meets_base r tags in
    let alive = live_in blocks live in
    kept_within live (passing meets blocks) (documents_in blocks)
    ∙ ap₂ items_where_true (on_live meets blocks live whole) (sym (live_documents blocks live whole))
    ∙ sym (filtered_documents meets (places (alive ∷ [])) ∙ ap (filter meets) (documents_at-places alive) ∙ filter_where_true meets (documents_in alive))
