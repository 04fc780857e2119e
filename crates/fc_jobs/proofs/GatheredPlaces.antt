-- The places of sets that are made segment by segment.
use Rattle.std.proofs.Common.{◌≡◌, ℕ, zero, suc, ◌+◌, List, [], ◌∷◌, ◌++◌, map, length, drop, Bool, refl, sym, ◌∙◌, ap, subst, arith, append_assoc, append-nil, add-zero}
use Rattle.std.proofs.Math.Seq.{drop-append_seam}
use Rattle.std.specs.List.{items_where_true}
use Rattle.fc_spec.specs.words.Lists.{joined}
use Rattle.fc_spec.specs.documents.Document.{Block}
use Rattle.fc_spec.specs.documents.Sets.{AreSets, places_at, places_on}
use Rattle.fc_spec.specs.documents.Totals.{documents_in}
use Rattle.fc_spec.specs.documents.World.{World, Place, places_from, shard_places}
use Rattle.fc_spec.proofs.documents.PlacedDocuments.{documents_at-shard}
use Rattle.fc_spec.proofs.requests.SetChanges.{first_is_set, length-shard_places, rest_are_sets}
use Rattle.fc_spec.proofs.words.WhereTrue.{items_where_true-append, items_where_true-map}
use Rattle.fc_answers.specs.SetAnswer.{Piece, Pieces, Sets, whole_world}
use Rattle.fc_kind.specs.Tallies.{SameDocuments}
use Rattle.fc_jobs.specs.Gathered.{AreFirst, gathered, gathered_from}

-- the blocks of a segment stand where it does
pub whole_there : (n : ℕ) (V rest : Pieces) (p : Piece) → drop n V ≡ p ∷ rest → drop n (whole_world V) ≡ p.blocks ∷ whole_world rest
whole_there zero V rest p there = ap whole_world there
whole_there (suc n) [] rest p there = absurd (cc)
whole_there (suc n) (q ∷ V) rest p there = whole_there n V rest p there

-- of no set there is no place
pub gathered_none : (s : ℕ) (V : World) → gathered_from s V [] ≡ []
gathered_none s [] = refl
gathered_none s (b ∷ V) = refl

-- the places of sets and of others behind them
pub gathered-append : (s : ℕ) (V : World) (first more : Sets) → gathered_from s V (first ++ more) ≡ gathered_from s V first ++ gathered_from (s + length first) (drop (length first) V) more
gathered-append s V [] more = ap (λ n. gathered_from n V more) (sym (add-zero s)) ∙ ap (λ l. l ++ gathered_from (s + 0) V more) (sym (gathered_none s V))
gathered-append s [] (set ∷ first) more = refl
gathered-append s (b ∷ V) (set ∷ first) more =
    let next : s + 1 + length first ≡ s + suc (length first) = omega arith in
    ap (λ l. places_on s b set ++ l) (gathered-append (s + 1) V first more)
    ∙ ap (λ n. places_on s b set ++ (gathered_from (s + 1) V first ++ gathered_from n (drop (length first) V) more)) next
    ∙ sym (append_assoc (places_on s b set) (gathered_from (s + 1) V first) (gathered_from (s + suc (length first)) (drop (length first) V) more))

-- and of one set more
pub gathered_more : (V rest : World) (domain : Sets) (blocks : List Block) (set : List Bool) → drop (length domain) V ≡ blocks ∷ rest
    → gathered V (domain ++ set ∷ []) ≡ gathered V domain ++ places_on (length domain) blocks set
gathered_more V rest domain blocks set there =
    gathered-append 0 V domain (set ∷ [])
    ∙ ap (λ W. gathered V domain ++ gathered_from (0 + length domain) W (set ∷ [])) there
    ∙ ap (λ l. gathered V domain ++ (places_on (0 + length domain) blocks set ++ l)) (gathered_none (0 + length domain + 1) rest)
    ∙ ap (λ l. gathered V domain ++ l) (append-nil (places_on (0 + length domain) blocks set))
    ∙ ap (λ n. gathered V domain ++ places_on n blocks set) zeroth
  where
    zeroth : 0 + length domain ≡ length domain
    zeroth = omega arith

-- of a set for each segment they are the places at the positions in the sets
gathered_at : (s : ℕ) (V : World) (D : Sets) → AreSets V D → gathered_from s V D ≡ items_where_true (joined D) (places_from s V)
gathered_at s [] [] are = refl
gathered_at s [] (set ∷ D) are = absurd (cc)
gathered_at s (b ∷ V) [] are = refl
gathered_at s (b ∷ V) (set ∷ D) are =
    ap (λ l. places_on s b set ++ l) (gathered_at (s + 1) V D (rest_are_sets b V set D are))
    ∙ sym (items_where_true-append set (joined D) (shard_places s 0 0 b) (places_from (s + 1) V) (first_is_set b V set D are ∙ sym (length-shard_places s 0 0 b)))

pub gathered_whole : (V : World) (D : Sets) → AreSets V D → gathered V D ≡ places_at V D
gathered_whole V D are = gathered_at 0 V D are

-- the documents of a set do not depend on the segment's number
pub same_documents : (s t : ℕ) (blocks : List Block) (set : List Bool) → SameDocuments (places_on s blocks set) (places_on t blocks set)
same_documents s t blocks set = are s ∙ sym (are t)
  where
    are : (n : ℕ) → map (λ p. p.document) (places_on n blocks set) ≡ items_where_true set (documents_in blocks)
    are n = sym (items_where_true-map (λ (p : Place). p.document) set (shard_places n 0 0 blocks)) ∙ ap (items_where_true set) (documents_at-shard n 0 0 blocks)

-- ---- the first of all sets

pub are_first : {X : Type 0} (all domain more : List X) (set : X) → domain ++ drop (length domain) all ≡ all → drop (length domain) all ≡ set ∷ more → (domain ++ set ∷ []) ++ drop (length (domain ++ set ∷ [])) all ≡ all
are_first all domain more set first next =
    subst (λ l. (domain ++ set ∷ []) ++ drop (length (domain ++ set ∷ [])) l ≡ l) whole (ap (λ l. (domain ++ set ∷ []) ++ l) (drop-append_seam (domain ++ set ∷ []) more))
  where
    whole : (domain ++ set ∷ []) ++ more ≡ all
    whole = append_assoc domain (set ∷ []) more ∙ ap (λ l. domain ++ l) (sym next) ∙ first

-- one more is among the first too
pub first_more : (D domain more : Sets) (set : List Bool) → AreFirst D domain → drop (length domain) D ≡ set ∷ more → AreFirst D (domain ++ set ∷ [])
first_more D domain more set first next = are_first D domain more set first next

-- the places of the first sets stand first
pub gathered_front : (V : World) (D domain : Sets) → AreFirst D domain → gathered V domain ++ gathered_from (0 + length domain) (drop (length domain) V) (drop (length domain) D) ≡ gathered V D
gathered_front V D domain first = sym (gathered-append 0 V domain (drop (length domain) D)) ∙ ap (gathered V) first
