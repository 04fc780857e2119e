-- Sets of lists of blocks that are joined, one behind the other.
use Rattle.std.proofs.Common.{◌≡◌, ℕ, ◌+◌, List, [], ◌∷◌, ◌++◌, map, length, take, drop, Bool, true, false, cond, ◌&&◌, refl, sym, ◌∙◌, ap, arith, append_assoc, length-append}
use Rattle.std.specs.List.{list_all, items_where_true}
use Rattle.std.proofs.lemmas.List.{map-append, take-append-le, drop-append-le, length-drop}
use Rattle.fc_spec.specs.words.Lists.{is_empty, joined}
use Rattle.fc_spec.specs.documents.Document.{Document, Block}
use Rattle.fc_spec.specs.documents.World.{World, places_from, shard_places}
use Rattle.fc_spec.specs.documents.Totals.{documents_of, documents_in, document_total}
use Rattle.fc_spec.specs.documents.Sets.{zip_with, passing, passing_of, AreSets, each_set, each_two}
use Rattle.fc_spec.specs.queries.Matching.{matches}
use Rattle.fc_spec.specs.requests.Request.{BlockStep, stay, parents, children, DomainChange}
use Rattle.fc_spec.specs.requests.Base.{meets_base}
use Rattle.fc_spec.specs.requests.Paths.{meets_rebuilt}
use Rattle.fc_spec.specs.requests.Buckets.{in_bucket}
use Rattle.fc_spec.specs.requests.DomainSets.{by_blocks, to_parent, to_children, moved_set, filtered_set}
use Rattle.fc_spec.specs.laws.Blockwise.{BasesJoin, RebuiltJoin, ChangesJoin, BucketsJoin, DocumentsJoin}
use Rattle.fc_spec.proofs.documents.BlockTotals.{documents_in-append}
use Rattle.fc_spec.proofs.documents.PlacedDocuments.{documents_at-shard}
use Rattle.fc_spec.proofs.words.WhereTrue.{items_where_true-map}
use Rattle.fc_spec.proofs.requests.SetChanges.{first_is_set, rest_are_sets, each_are_sets, each_set-each_set, each_set-same, each_first, each_second, from_begin, moved_keeps, zip_joined}

passing-joined : (t : Document → Bool) (V : World) → passing t (joined V) ≡ joined (map (passing t) V)
passing-joined t [] = refl
passing-joined t (b ∷ V) =
    ap (map t) (documents_in-append b (joined V)) ∙ map-append t (documents_in b) (documents_in (joined V)) ∙ ap (λ v. passing t b ++ v) (passing-joined t V)

passing_of-joined : (t : Document → Bool) (V : World) (sets : List (List Bool)) → AreSets V sets → passing_of t (joined V) (joined sets) ≡ joined (each_set (passing_of t) V sets)
passing_of-joined t V sets e = ap (zip_with ◌&&◌ (joined sets)) (passing-joined t V) ∙ zip_joined t V sets e

pub bases_join : BasesJoin
bases_join r tags V = passing-joined (meets_base r tags) V

pub rebuilt_join : RebuiltJoin
rebuilt_join r path tags V = passing-joined (meets_rebuilt r path tags) V

pub buckets_join : BucketsJoin
buckets_join kind key V sets e = passing_of-joined (in_bucket kind key) V sets e

-- ---- block steps

-- blocks behind blocks
by_blocks-append : (f : Block → List Bool → List Bool) (A B : List Block) (s t : List Bool) → length s ≡ document_total A → by_blocks f (A ++ B) (s ++ t) ≡ by_blocks f A s ++ by_blocks f B t
by_blocks-append f [] B [] t e = refl
by_blocks-append f [] B (h ∷ s) t e = absurd (cc)
by_blocks-append f (x ∷ A) B s t e =
    let n = length (documents_of x) in
    let total : length s ≡ n + document_total A = e ∙ length-append (documents_of x) (documents_in A) in
    let high : length (drop n s) ≡ document_total A = length-drop n s ∙ omega arith in
    (λ i. f x (take-append-le n s t (omega arith) i) ++ by_blocks f (A ++ B) (drop-append-le n s t (omega arith) i))
    ∙ ap (λ v. f x (take n s) ++ v) (by_blocks-append f A B (drop n s) t high)
    ∙ sym (append_assoc (f x (take n s)) (by_blocks f A (drop n s)) (by_blocks f B t))

by_blocks-joined : (f : Block → List Bool → List Bool) (V : World) (sets : List (List Bool)) → AreSets V sets → by_blocks f (joined V) (joined sets) ≡ joined (each_set (by_blocks f) V sets)
by_blocks-joined f [] sets e = refl
by_blocks-joined f (b ∷ V) [] e = absurd (cc)
by_blocks-joined f (b ∷ V) (s ∷ sets) e =
    by_blocks-append f b (joined V) s (joined sets) (first_is_set b V s sets e) ∙ ap (λ v. by_blocks f b s ++ v) (by_blocks-joined f V sets (rest_are_sets b V s sets e))

moved_set-joined : (step : BlockStep) (V : World) (sets : List (List Bool)) → AreSets V sets → moved_set step (joined V) (joined sets) ≡ joined (each_set (moved_set step) V sets)
moved_set-joined stay V sets e = ap joined (sym (each_set-same V sets e))
moved_set-joined (parents q) V sets e = by_blocks-joined (to_parent q) V sets e
moved_set-joined (children q) V sets e = by_blocks-joined (to_children q) V sets e

-- ---- domain changes

from_begin-joined : (change : DomainChange) (V : World) (sets : List (List Bool)) → AreSets V sets → from_begin change (joined V) (joined sets) ≡ joined (each_set (from_begin change) V sets)
from_begin-joined change V sets e =
    let t = λ (d : Document). list_all (λ q. matches q d) change.filters in
    ap (filtered_set change.filters (joined V)) (moved_set-joined change.block V sets e)
    ∙ passing_of-joined t V (each_set (moved_set change.block) V sets) (each_are_sets (moved_set change.block) (moved_keeps change.block) V sets e)
    ∙ ap joined (each_set-each_set (passing_of t) (moved_set change.block) V sets)

pub changes_join : ChangesJoin
changes_join change V bases sets h e = go (is_empty change.exclude)
  where
    go : (c : Bool) → from_begin change (joined V) (cond c (joined sets) (joined bases)) ≡ joined (each_two (λ b base set. from_begin change b (cond c set base)) V bases sets)
    go true = from_begin-joined change V sets e ∙ ap joined (sym (each_second (from_begin change) V bases sets h e))
    go false = from_begin-joined change V bases h ∙ ap joined (sym (each_first (from_begin change) V bases sets h e))

-- ---- documents

pub documents_from : (s : ℕ) (V : World) → map (λ p. p.document) (places_from s V) ≡ documents_in (joined V)
documents_from s [] = refl
documents_from s (b ∷ V) =
    map-append (λ p. p.document) (shard_places s 0 0 b) (places_from (s + 1) V)
    ∙ (λ i. documents_at-shard s 0 0 b i ++ documents_from (s + 1) V i)
    ∙ sym (documents_in-append b (joined V))

pub documents_join : DocumentsJoin
documents_join V sets = sym (items_where_true-map (λ p. p.document) (joined sets) (places_from 0 V)) ∙ ap (items_where_true (joined sets)) (documents_from 0 V)
