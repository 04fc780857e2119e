-- A block step of a set, block by block.
use Rattle.std.proofs.Common.{◌≡◌, ℕ, suc, ◌+◌, ◌<◌, List, [], ◌∷◌, ◌++◌, map, length, replicate, take, drop, Bool, true, false, not, ◌&&◌, ◌||◌, ◌==◌, refl, sym, ◌∙◌, ap, arith, length-append}
use Rattle.std.specs.Prelude.{slice_index_or}
use Rattle.std.specs.List.{list_any, items_where_true}
use Rattle.std.proofs.lemmas.Bool.{false≢true, and_parts, eqb-true, eq-eqb, ne_eqb, and_right, or_left}
use Rattle.std.proofs.lemmas.List.{take-append-drop, length-take-le, length-drop, length_push}
use Rattle.fc_spec.specs.documents.Document.{Document, Block}
use Rattle.fc_spec.specs.queries.Query.{Query}
use Rattle.fc_spec.specs.queries.Matching.{matches}
use Rattle.fc_spec.specs.documents.World.{Place, block_places, shard_places, same_block}
use Rattle.fc_spec.specs.documents.Totals.{documents_of, documents_in, document_total}
use Rattle.fc_spec.specs.requests.Domain.{is_parent_of}
use Rattle.fc_spec.specs.requests.DomainSets.{by_blocks, to_parent, to_children}
use Rattle.fc_spec.proofs.words.Members.{Every, every_append}
use Rattle.fc_spec.proofs.documents.FoundPlaces.{found, found_split}

-- the tests of the two block steps
abbrev pub has_parent : Query → Place → Place → Bool
has_parent q p y = is_parent_of y p && matches q y.document

abbrev pub any_place : Place → Bool
any_place p = true

abbrev pub matching_parent : Query → Place → Bool
matching_parent q p = p.parent && matches q p.document

-- ---- numbers of blocks

-- in the block of this number, and in another
abbrev pub near : (block : ℕ) → Place → Bool
near b y = y.block == b

abbrev pub far : (block : ℕ) → Place → Bool
far b y = not (y.block == b)

block_near : (s b p : ℕ) (ds : List Document) (d : Document) → Every (near b) (block_places s b p ds d)
block_near s b p [] d = (eq-eqb b b refl, tt)
block_near s b p (c ∷ cs) d = (eq-eqb b b refl, block_near s b (p + 1) cs d)

block_far : (c s b p : ℕ) (ds : List Document) (d : Document) → c < b → Every (far c) (block_places s b p ds d)
block_far c s b p [] d h = (ap not (ne_eqb b c (omega arith)), tt)
block_far c s b p (x ∷ xs) d h = (ap not (ne_eqb b c (omega arith)), block_far c s b (p + 1) xs d h)

later_far : (c s b p : ℕ) (xs : List Block) → c < b → Every (far c) (shard_places s b p xs)
later_far c s b p [] h = tt
later_far c s b p (x ∷ xs) h = every_append (far c) (block_places s b p x.children x.parent) (shard_places s (b + 1) (p + length x.children + 1) xs)
    (block_far c s b p x.children x.parent h) (later_far c s (b + 1) (p + length x.children + 1) xs (omega arith))

-- no near place is in the block of a far one
apart : (c : ℕ) (x y : Place) → near c x ≡ true → far c y ≡ true → x.block ≡ y.block → ⊥
apart c x y h k e = false≢true (ap not (sym (eq-eqb y.block c (sym e ∙ eqb-true x.block c h))) ∙ k)

same_block_number : (y p : Place) → same_block y p ≡ true → y.block ≡ p.block
same_block_number y p h = eqb-true y.block p.block (and_parts (y.shard == p.shard) (y.block == p.block) h).1

has_parent_block : (q : Query) (p y : Place) → has_parent q p y ≡ true → y.block ≡ p.block
has_parent_block q p y h = same_block_number y p (and_parts (y.parent && not p.parent) (same_block y p) (and_parts (is_parent_of y p) (matches q y.document) h).0).1

block_mate : (p y : Place) → same_block p y ≡ true → y.block ≡ p.block
block_mate p y h = sym (same_block_number p y h)

-- ---- lengths

pub length-block_places : (s b p : ℕ) (ds : List Document) (d : Document) → length (block_places s b p ds d) ≡ suc (length ds)
length-block_places s b p [] d = refl
length-block_places s b p (c ∷ cs) d = ap suc (length-block_places s b (p + 1) cs d)

pub length-documents_of : (x : Block) → length (documents_of x) ≡ suc (length x.children)
length-documents_of x = length_push x.children x.parent ∙ omega arith

-- ---- in a block

-- a test that answers alike at each child
block_answers : (f : Place → Bool) (c e : Bool) (s b p : ℕ) (ds : List Document) (d : Document)
    → ((n : ℕ) (x : Document) → f (record { shard = s; position = n; block = b; parent = false; document = x }) ≡ c)
    → ((n : ℕ) → f (record { shard = s; position = n; block = b; parent = true; document = d }) ≡ e)
    → map f (block_places s b p ds d) ≡ replicate (length ds) c ++ e ∷ []
block_answers f c e s b p [] d low high = ap (λ v. v ∷ []) (high p)
block_answers f c e s b p (x ∷ xs) d low high = λ i. low p x i ∷ block_answers f c e s b (p + 1) xs d low high i

or_and : (c : Bool) → (c || false) ≡ (c && true)
or_and true = refl
or_and false = refl

-- a child finds its parent, where that is in the set and matches
child_finds : (q : Query) (set : List Bool) (s b p n : ℕ) (ds : List Document) (d x : Document) → length set ≡ suc (length ds)
    → list_any (has_parent q (record { shard = s; position = n; block = b; parent = false; document = x })) (items_where_true set (block_places s b p ds d)) ≡ (matches q d && slice_index_or set (length ds) false)
child_finds q [] s b p n ds d x e = absurd (cc)
child_finds q (h ∷ set) s b p n (c ∷ cs) d x e = skip h (child_finds q set s b (p + 1) n cs d x (omega arith))
  where
    child : Place
    child = record { shard = s; position = p; block = b; parent = false; document = c }

    here : Place
    here = record { shard = s; position = n; block = b; parent = false; document = x }

    skip : (h : Bool) → list_any (has_parent q here) (items_where_true set (block_places s b (p + 1) cs d)) ≡ (matches q d && slice_index_or set (length cs) false)
        → list_any (has_parent q here) (items_where_true (h ∷ set) (child ∷ block_places s b (p + 1) cs d)) ≡ (matches q d && slice_index_or set (length cs) false)
    skip true ih = ih
    skip false ih = ih
child_finds q (false ∷ []) s b p n [] d x e = sym (and_right (matches q d) false refl)
child_finds q (true ∷ []) s b p n [] d x e = (λ i. (((eq-eqb s s refl i && eq-eqb b b refl i) && matches q d) || false)) ∙ or_and (matches q d)
child_finds q (h ∷ (k ∷ set)) s b p n [] d x e = absurd (omega arith)

-- a parent finds no parent above it
parent_finds : (q : Query) (s b n : ℕ) (d : Document) (Y : List Place) → list_any (has_parent q (record { shard = s; position = n; block = b; parent = true; document = d })) Y ≡ false
parent_finds q s b n d [] = refl
parent_finds q s b n d (y ∷ Y) =
    ap (λ c. ((c && same_block y (record { shard = s; position = n; block = b; parent = true; document = d })) && matches q y.document) || list_any (has_parent q (record { shard = s; position = n; block = b; parent = true; document = d })) Y)
    (and_right y.parent false refl)
    ∙ parent_finds q s b n d Y

-- a parent finds each place of its block
mates_found : (set : List Bool) (s b p n : ℕ) (ds : List Document) (d : Document) → length set ≡ suc (length ds)
    → list_any (same_block (record { shard = s; position = n; block = b; parent = true; document = d })) (items_where_true set (block_places s b p ds d)) ≡ list_any (λ here. here) set
mates_found [] s b p n ds d e = absurd (cc)
mates_found (true ∷ set) s b p n [] d e = or_left ((s == s) && (b == b)) _ (λ i. eq-eqb s s refl i && eq-eqb b b refl i)
mates_found (false ∷ []) s b p n [] d e = refl
mates_found (false ∷ (k ∷ set)) s b p n [] d e = absurd (omega arith)
mates_found (true ∷ set) s b p n (c ∷ cs) d e = or_left ((s == s) && (b == b)) _ (λ i. eq-eqb s s refl i && eq-eqb b b refl i)
mates_found (false ∷ set) s b p n (c ∷ cs) d e = mates_found set s b (p + 1) n cs d (omega arith)

children_in_block : (q : Query) (s b p : ℕ) (x : Block) (set : List Bool) → length set ≡ length (documents_of x)
    → found any_place (has_parent q) set (block_places s b p x.children x.parent) ≡ to_children q x set
children_in_block q s b p x set e =
    block_answers _ _ _ s b p x.children x.parent (λ n c. child_finds q set s b p n x.children x.parent c (e ∙ length-documents_of x))
    (λ n. parent_finds q s b n x.parent (items_where_true set (block_places s b p x.children x.parent)))

parent_in_block : (q : Query) (s b p : ℕ) (x : Block) (set : List Bool) → length set ≡ length (documents_of x)
    → found (matching_parent q) same_block set (block_places s b p x.children x.parent) ≡ to_parent q x set
parent_in_block q s b p x set e =
    block_answers _ _ _ s b p x.children x.parent (λ n c. refl) (λ n. ap (λ c. matches q x.parent && c) (mates_found set s b p n x.children x.parent (e ∙ length-documents_of x)))

-- ---- in a shard

module _ (pre : Place → Bool) (u : Place → Place → Bool) (f : Block → List Bool → List Bool)
    (same : (p y : Place) → u p y ≡ true → y.block ≡ p.block)
    (inside : (s b p : ℕ) (x : Block) (set : List Bool) → length set ≡ length (documents_of x) → found pre u set (block_places s b p x.children x.parent) ≡ f x set) where
  shard_steps : (s b p : ℕ) (xs : List Block) (set : List Bool) → length set ≡ document_total xs → found pre u set (shard_places s b p xs) ≡ by_blocks f xs set
  shard_steps s b p [] set e = refl
  shard_steps s b p (x ∷ xs) set e =
      let n = length (documents_of x) in
      let at = p + length x.children + 1 in
      let total : length set ≡ n + document_total xs = e ∙ length-append (documents_of x) (documents_in xs) in
      let low : length (take n set) ≡ n = length-take-le n set (omega arith) in
      let high : length (drop n set) ≡ document_total xs = length-drop n set ∙ omega arith in
      ap (λ v. found pre u v (block_places s b p x.children x.parent ++ shard_places s (b + 1) at xs)) (sym (take-append-drop n set))
      ∙ found_split pre u (near b) (far b) (take n set) (drop n set) (block_places s b p x.children x.parent) (shard_places s (b + 1) at xs)
      (low ∙ length-documents_of x ∙ sym (length-block_places s b p x.children x.parent)) (block_near s b p x.children x.parent) (later_far b s (b + 1) at xs (omega arith))
      (λ y z h k w. apart b y z h k (sym (same y z w))) (λ y z h k w. apart b z y k h (same y z w))
      ∙ (λ i. inside s b p x (take n set) low i ++ shard_steps s (b + 1) at xs (drop n set) high i)

-- the children that find their parent, and the parents that find something of their block
pub children_in_shard : (q : Query) (s b p : ℕ) (xs : List Block) (set : List Bool) → length set ≡ document_total xs → found any_place (has_parent q) set (shard_places s b p xs) ≡ by_blocks (to_children q) xs set
children_in_shard q = shard_steps any_place (has_parent q) (to_children q) (has_parent_block q) (children_in_block q)

pub parents_in_shard : (q : Query) (s b p : ℕ) (xs : List Block) (set : List Bool) → length set ≡ document_total xs → found (matching_parent q) same_block set (shard_places s b p xs) ≡ by_blocks (to_parent q) xs set
parents_in_shard q = shard_steps (matching_parent q) same_block (to_parent q) block_mate (parent_in_block q)
