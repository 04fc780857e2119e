-- The base, domain changes and buckets of sets, list of blocks by list of blocks.
use Rattle.std.proofs.Common.{◌≡◌, ℕ, suc, ◌+◌, ◌<◌, List, [], ◌∷◌, ◌++◌, map, length, replicate, take, drop, Bool, true, false, cond, not, ◌&&◌, ◌==◌, refl, sym, ◌∙◌, ap, arith, length-append}
use Rattle.std.specs.List.{filter, list_all, items_where_true}
use Rattle.std.proofs.lemmas.Bool.{false≢true, and_parts, eqb-true, eq-eqb, ne_eqb}
use Rattle.std.proofs.lemmas.List.{map-append, length-map, length-drop, length-replicate}
use Rattle.std.proofs.lemmas.Simd.{map-map}
use Rattle.fc_spec.specs.words.Lists.{is_empty, joined}
use Rattle.fc_spec.specs.documents.Document.{Document, Block}
use Rattle.fc_spec.specs.documents.World.{World, Place, places, places_from, shard_places, block_places, same_block}
use Rattle.fc_spec.specs.documents.Totals.{documents_of, documents_in, document_total}
use Rattle.fc_spec.specs.documents.Sets.{zip_with, passing, passing_of, AreSets, places_at, each_set, each_two}
use Rattle.fc_spec.specs.queries.Query.{Query}
use Rattle.fc_spec.specs.queries.Matching.{matches}
use Rattle.fc_spec.specs.requests.Request.{BlockStep, stay, parents, children, DomainChange}
use Rattle.fc_spec.specs.requests.Base.{base, meets_base}
use Rattle.fc_spec.specs.requests.Domain.{moved, filtered, is_parent_of}
use Rattle.fc_spec.specs.requests.Buckets.{in_bucket}
use Rattle.fc_spec.specs.requests.DomainSets.{by_blocks, to_parent, to_children, moved_set, filtered_set, changed_set, bucket_set}
use Rattle.fc_spec.specs.requests.Paths.{meets_rebuilt}
use Rattle.fc_spec.specs.laws.Blockwise.{BasesAreBlockwise, RebuiltAreBlockwise, ChangesAreBlockwise, BucketsAreBlockwise, KeepLengths, AreSetsAgain}
use Rattle.fc_spec.proofs.words.Members.{Every, every_append}
use Rattle.fc_spec.proofs.words.WhereTrue.{filter_where_true, filter-items_where_true, length-zip_with, zip_with-append}
use Rattle.fc_spec.proofs.documents.PlacedDocuments.{documents_at-shard}
use Rattle.fc_spec.proofs.documents.Shards.{parent_shard, same_block_shard}
use Rattle.fc_spec.proofs.documents.FoundPlaces.{found, found_split}
use Rattle.fc_spec.proofs.requests.BlockSteps.{any_place, has_parent, matching_parent, length-documents_of, children_in_shard, parents_in_shard}

-- ---- numbers of shards, and lengths

block_shard : (s b p : ℕ) (ds : List Document) (d : Document) → Every (λ y. y.shard == s) (block_places s b p ds d)
block_shard s b p [] d = (eq-eqb s s refl, tt)
block_shard s b p (c ∷ cs) d = (eq-eqb s s refl, block_shard s b (p + 1) cs d)

own_shard : (s b p : ℕ) (xs : List Block) → Every (λ y. y.shard == s) (shard_places s b p xs)
own_shard s b p [] = tt
own_shard s b p (x ∷ xs) =
    every_append (λ y. y.shard == s) (block_places s b p x.children x.parent) (shard_places s (b + 1) (p + length x.children + 1) xs)
    (block_shard s b p x.children x.parent) (own_shard s (b + 1) (p + length x.children + 1) xs)

other_block : (n s b p : ℕ) (ds : List Document) (d : Document) → n < s → Every (λ y. not (y.shard == n)) (block_places s b p ds d)
other_block n s b p [] d h = (ap not (ne_eqb s n (omega arith)), tt)
other_block n s b p (c ∷ cs) d h = (ap not (ne_eqb s n (omega arith)), other_block n s b (p + 1) cs d h)

other_shard : (n s b p : ℕ) (xs : List Block) → n < s → Every (λ y. not (y.shard == n)) (shard_places s b p xs)
other_shard n s b p [] h = tt
other_shard n s b p (x ∷ xs) h =
    every_append (λ y. not (y.shard == n)) (block_places s b p x.children x.parent) (shard_places s (b + 1) (p + length x.children + 1) xs)
    (other_block n s b p x.children x.parent h) (other_shard n s (b + 1) (p + length x.children + 1) xs h)

later_shards : (n s : ℕ) (V : World) → n < s → Every (λ y. not (y.shard == n)) (places_from s V)
later_shards n s [] h = tt
later_shards n s (b ∷ V) h = every_append (λ y. not (y.shard == n)) (shard_places s 0 0 b) (places_from (s + 1) V) (other_shard n s 0 0 b h) (later_shards n (s + 1) V (omega arith))

pub length-shard_places : (s b p : ℕ) (xs : List Block) → length (shard_places s b p xs) ≡ document_total xs
length-shard_places s b p xs = sym (length-map (shard_places s b p xs) (λ p. p.document)) ∙ ap length (documents_at-shard s b p xs)

-- ---- documents

pub shard_documents : (t : Document → Bool) (s b p : ℕ) (xs : List Block) → map (λ y. t y.document) (shard_places s b p xs) ≡ passing t xs
shard_documents t s b p xs = sym (map-map t (λ p. p.document) (shard_places s b p xs)) ∙ ap (map t) (documents_at-shard s b p xs)

world_documents : (t : Document → Bool) (s : ℕ) (V : World) → map (λ y. t y.document) (places_from s V) ≡ joined (map (passing t) V)
world_documents t s [] = refl
world_documents t s (b ∷ V) =
    map-append (λ y. t y.document) (shard_places s 0 0 b) (places_from (s + 1) V)
    ∙ (λ i. shard_documents t s 0 0 b i ++ world_documents t (s + 1) V i)

pub length-passing : (t : Document → Bool) (xs : List Block) → length (passing t xs) ≡ document_total xs
length-passing t xs = length-map (documents_in xs) t

-- ---- sets for each list of blocks

pub first_is_set : (b : List Block) (V : World) (s : List Bool) (sets : List (List Bool)) → AreSets (b ∷ V) (s ∷ sets) → length s ≡ document_total b
first_is_set b V s sets e = cc

pub rest_are_sets : (b : List Block) (V : World) (s : List Bool) (sets : List (List Bool)) → AreSets (b ∷ V) (s ∷ sets) → AreSets V sets
rest_are_sets b V s sets e = cc

-- what makes sets of sets
abbrev pub KeepsLength : (List Block → List Bool → List Bool) → Type 0
KeepsLength f = (b : List Block) (s : List Bool) → length s ≡ document_total b → length (f b s) ≡ document_total b

pub each_are_sets : (f : List Block → List Bool → List Bool) → KeepsLength f → (V : World) (sets : List (List Bool)) → AreSets V sets → AreSets V (each_set f V sets)
each_are_sets f keeps [] sets e = refl
each_are_sets f keeps (b ∷ V) [] e = absurd (cc)
each_are_sets f keeps (b ∷ V) (s ∷ sets) e = λ i. keeps b s (first_is_set b V s sets e) i ∷ each_are_sets f keeps V sets (rest_are_sets b V s sets e) i

pub each_set-each_set : (g f : List Block → List Bool → List Bool) (V : World) (sets : List (List Bool)) → each_set g V (each_set f V sets) ≡ each_set (λ b s. g b (f b s)) V sets
each_set-each_set g f [] sets = refl
each_set-each_set g f (b ∷ V) [] = refl
each_set-each_set g f (b ∷ V) (s ∷ sets) = ap (λ v. g b (f b s) ∷ v) (each_set-each_set g f V sets)

pub each_set-same : (V : World) (sets : List (List Bool)) → AreSets V sets → each_set (λ b s. s) V sets ≡ sets
each_set-same [] [] e = refl
each_set-same [] (s ∷ sets) e = absurd (cc)
each_set-same (b ∷ V) [] e = refl
each_set-same (b ∷ V) (s ∷ sets) e = ap (λ v. s ∷ v) (each_set-same V sets (rest_are_sets b V s sets e))

-- what is made of one of two sets
pub each_second : (f : List Block → List Bool → List Bool) (V : World) (sets others : List (List Bool)) → AreSets V sets → AreSets V others → each_two (λ b s t. f b t) V sets others ≡ each_set f V others
each_second f [] sets others e h = refl
each_second f (b ∷ V) [] others e h = absurd (cc)
each_second f (b ∷ V) (s ∷ sets) [] e h = absurd (cc)
each_second f (b ∷ V) (s ∷ sets) (t ∷ others) e h = ap (λ v. f b t ∷ v) (each_second f V sets others (rest_are_sets b V s sets e) (rest_are_sets b V t others h))

pub each_first : (f : List Block → List Bool → List Bool) (V : World) (sets others : List (List Bool)) → AreSets V sets → AreSets V others → each_two (λ b s t. f b s) V sets others ≡ each_set f V sets
each_first f [] sets others e h = refl
each_first f (b ∷ V) [] others e h = absurd (cc)
each_first f (b ∷ V) (s ∷ sets) [] e h = absurd (cc)
each_first f (b ∷ V) (s ∷ sets) (t ∷ others) e h = ap (λ v. f b s ∷ v) (each_first f V sets others (rest_are_sets b V s sets e) (rest_are_sets b V t others h))

-- ---- what passes of a set

pub passing_keeps : (t : Document → Bool) → KeepsLength (passing_of t)
passing_keeps t b s e = length-zip_with ◌&&◌ s (passing t b) (e ∙ sym (length-passing t b)) ∙ e

pub zip_joined : (t : Document → Bool) (V : World) (sets : List (List Bool)) → AreSets V sets → zip_with ◌&&◌ (joined sets) (joined (map (passing t) V)) ≡ joined (each_set (passing_of t) V sets)
zip_joined t [] [] e = refl
zip_joined t [] (s ∷ sets) e = absurd (cc)
zip_joined t (b ∷ V) [] e = absurd (cc)
zip_joined t (b ∷ V) (s ∷ sets) e =
    zip_with-append ◌&&◌ s (joined sets) (passing t b) (joined (map (passing t) V)) (first_is_set b V s sets e ∙ sym (length-passing t b))
    ∙ ap (λ v. passing_of t b s ++ v) (zip_joined t V sets (rest_are_sets b V s sets e))

-- a filter by documents
pub filter_blockwise : (t : Document → Bool) (V : World) (sets : List (List Bool)) → AreSets V sets → filter (λ p. t p.document) (places_at V sets) ≡ places_at V (each_set (passing_of t) V sets)
filter_blockwise t V sets e =
    filter-items_where_true (λ p. t p.document) (joined sets) (places V)
    ∙ ap (λ v. items_where_true (zip_with ◌&&◌ (joined sets) v) (places V)) (world_documents t 0 V)
    ∙ ap (λ v. items_where_true v (places V)) (zip_joined t V sets e)

-- the places whose document passes
documents_blockwise : (t : Document → Bool) (V : World) → filter (λ p. t p.document) (places V) ≡ places_at V (map (passing t) V)
documents_blockwise t V = filter_where_true (λ p. t p.document) (places V) ∙ ap (λ v. items_where_true v (places V)) (world_documents t 0 V)

pub bases_are_blockwise : BasesAreBlockwise
bases_are_blockwise r tags V = documents_blockwise (meets_base r tags) V

pub rebuilt_are_blockwise : RebuiltAreBlockwise
rebuilt_are_blockwise r path tags V = documents_blockwise (meets_rebuilt r path tags) V

pub buckets_are_blockwise : BucketsAreBlockwise
buckets_are_blockwise kind key V sets e = filter_blockwise (in_bucket kind key) V sets e

-- ---- block steps

module _ (pre : Place → Bool) (u : Place → Place → Bool) (f : List Block → List Bool → List Bool)
    (same : (p y : Place) → u p y ≡ true → y.shard ≡ p.shard)
    (inside : (s : ℕ) (b : List Block) (set : List Bool) → length set ≡ document_total b → found pre u set (shard_places s 0 0 b) ≡ f b set) where
  forth : (n : ℕ) (p y : Place) → (p.shard == n) ≡ true → not (y.shard == n) ≡ true → u p y ≡ true → ⊥
  forth n p y h k w = false≢true (ap not (sym (eq-eqb y.shard n (same p y w ∙ eqb-true p.shard n h))) ∙ k)

  back : (n : ℕ) (p y : Place) → not (p.shard == n) ≡ true → (y.shard == n) ≡ true → u p y ≡ true → ⊥
  back n p y h k w = false≢true (ap not (sym (eq-eqb p.shard n (sym (same p y w) ∙ eqb-true y.shard n k))) ∙ h)

  world_steps : (s : ℕ) (V : World) (sets : List (List Bool)) → AreSets V sets → found pre u (joined sets) (places_from s V) ≡ joined (each_set f V sets)
  world_steps s [] [] e = refl
  world_steps s [] (t ∷ sets) e = refl
  world_steps s (b ∷ V) [] e = absurd (cc)
  world_steps s (b ∷ V) (t ∷ sets) e =
      let low = first_is_set b V t sets e in
      found_split pre u (λ y. y.shard == s) (λ y. not (y.shard == s)) t (joined sets) (shard_places s 0 0 b) (places_from (s + 1) V)
      (low ∙ sym (length-shard_places s 0 0 b)) (own_shard s 0 0 b) (later_shards s (s + 1) V (omega arith)) (forth s) (back s)
      ∙ (λ i. inside s b t low i ++ world_steps (s + 1) V sets (rest_are_sets b V t sets e) i)

has_parent_shard : (q : Query) (p y : Place) → has_parent q p y ≡ true → y.shard ≡ p.shard
has_parent_shard q p y h = parent_shard y p (and_parts (is_parent_of y p) (matches q y.document) h).0

block_mate_shard : (p y : Place) → same_block p y ≡ true → y.shard ≡ p.shard
block_mate_shard p y h = sym (same_block_shard p y h)

moved_blockwise : (V : World) (step : BlockStep) (sets : List (List Bool)) → AreSets V sets → moved V step (places_at V sets) ≡ places_at V (each_set (moved_set step) V sets)
moved_blockwise V stay sets e = ap (places_at V) (sym (each_set-same V sets e))
moved_blockwise V (parents q) sets e =
    filter_where_true _ (places V)
    ∙ ap (λ v. items_where_true v (places V)) (world_steps (matching_parent q) same_block (by_blocks (to_parent q)) block_mate_shard (λ s b set k. parents_in_shard q s 0 0 b set k) 0 V sets e)
moved_blockwise V (children q) sets e =
    filter_where_true _ (places V)
    ∙ ap (λ v. items_where_true v (places V)) (world_steps any_place (has_parent q) (by_blocks (to_children q)) (has_parent_shard q) (λ s b set k. children_in_shard q s 0 0 b set k) 0 V sets e)

by_blocks_keeps : (f : Block → List Bool → List Bool) → ((x : Block) (s : List Bool) → length (f x s) ≡ suc (length x.children)) → KeepsLength (by_blocks f)
by_blocks_keeps f keeps [] s e = refl
by_blocks_keeps f keeps (x ∷ xs) s e =
    let n = length (documents_of x) in
    let total : length s ≡ n + document_total xs = e ∙ length-append (documents_of x) (documents_in xs) in
    let high : length (drop n s) ≡ document_total xs = length-drop n s ∙ omega arith in
    length-append (f x (take n s)) (by_blocks f xs (drop n s)) ∙ (λ i. (keeps x (take n s) ∙ sym (length-documents_of x)) i + by_blocks_keeps f keeps xs (drop n s) high i)
    ∙ sym (length-append (documents_of x) (documents_in xs))

row_length : (n : ℕ) (a b : Bool) → length (replicate n a ++ b ∷ []) ≡ suc n
row_length n a b = length-append (replicate n a) (b ∷ []) ∙ omega (arith, length-replicate n a)

pub moved_keeps : (step : BlockStep) → KeepsLength (moved_set step)
moved_keeps stay b s e = e
moved_keeps (parents q) b s e = by_blocks_keeps (to_parent q) (λ x t. row_length (length x.children) false _) b s e
moved_keeps (children q) b s e = by_blocks_keeps (to_children q) (λ x t. row_length (length x.children) _ false) b s e

-- ---- domain changes

-- what a change makes of the set with which it begins
abbrev pub from_begin : DomainChange → List Block → List Bool → List Bool
from_begin change b s = filtered_set change.filters b (moved_set change.block b s)

from_begin_blockwise : (change : DomainChange) (V : World) (sets : List (List Bool)) → AreSets V sets → filtered change.filters (moved V change.block (places_at V sets)) ≡ places_at V (each_set (from_begin change) V sets)
from_begin_blockwise change V sets e =
    let t = λ (d : Document). list_all (λ q. matches q d) change.filters in
    ap (filtered change.filters) (moved_blockwise V change.block sets e)
    ∙ filter_blockwise t V (each_set (moved_set change.block) V sets) (each_are_sets (moved_set change.block) (moved_keeps change.block) V sets e)
    ∙ ap (places_at V) (each_set-each_set (passing_of t) (moved_set change.block) V sets)

pub changed_keeps : (change : DomainChange) (b : List Block) (base set : List Bool) → length base ≡ document_total b → length set ≡ document_total b → length (changed_set change b base set) ≡ document_total b
changed_keeps change b base set h e = passing_keeps (λ d. list_all (λ q. matches q d) change.filters) b _ (moved_keeps change.block b _ (go (is_empty change.exclude)))
  where
    go : (c : Bool) → length (cond c set base) ≡ document_total b
    go true = e
    go false = h

pub changes_are_blockwise : ChangesAreBlockwise
changes_are_blockwise change V bases sets h e = go (is_empty change.exclude)
  where
    go : (c : Bool) → filtered change.filters (moved V change.block (cond c (places_at V sets) (places_at V bases))) ≡ places_at V (each_two (λ b base set. from_begin change b (cond c set base)) V bases sets)
    go true = from_begin_blockwise change V sets e ∙ ap (places_at V) (sym (each_second (from_begin change) V bases sets h e))
    go false = from_begin_blockwise change V bases h ∙ ap (places_at V) (sym (each_first (from_begin change) V bases sets h e))

-- ---- sets again

two_are_sets : (change : DomainChange) (V : World) (bases sets : List (List Bool)) → AreSets V bases → AreSets V sets → AreSets V (each_two (changed_set change) V bases sets)
two_are_sets change [] bases sets h e = refl
two_are_sets change (b ∷ V) [] sets h e = absurd (cc)
two_are_sets change (b ∷ V) (s ∷ bases) [] h e = absurd (cc)
two_are_sets change (b ∷ V) (s ∷ bases) (t ∷ sets) h e =
    λ i. changed_keeps change b s t (first_is_set b V s bases h) (first_is_set b V t sets e) i ∷ two_are_sets change V bases sets (rest_are_sets b V s bases h) (rest_are_sets b V t sets e) i

passing_are_sets : (t : Document → Bool) (V : World) → AreSets V (map (passing t) V)
passing_are_sets t [] = refl
passing_are_sets t (b ∷ V) = λ i. length-passing t b i ∷ passing_are_sets t V i

pub keep_lengths : KeepLengths
keep_lengths = record {
  base = λ r tags blocks. length-passing (meets_base r tags) blocks;
  rebuilt = λ r path tags blocks. length-passing (meets_rebuilt r path tags) blocks;
  change = changed_keeps;
  bucket = λ kind key. passing_keeps (in_bucket kind key);
}

pub are_sets_again : AreSetsAgain
are_sets_again = record {
  bases = λ r tags. passing_are_sets (meets_base r tags);
  rebuilt = λ r path tags. passing_are_sets (meets_rebuilt r path tags);
  changes = two_are_sets;
  buckets = λ kind key. each_are_sets (bucket_set kind key) (passing_keeps (in_bucket kind key));
}
