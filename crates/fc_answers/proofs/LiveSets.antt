-- The sets of a shard's answer keep to the live documents of its segments.
use Rattle.std.proofs.Common.{◌≡◌, ℕ, zero, suc, ◌+◌, List, [], ◌∷◌, ◌++◌, map, length, replicate, take, drop, Bool, true, false, cond, ◌&&◌, Option, None, Some, refl, sym, ◌∙◌, ap, ap₂, subst, arith, length-append}
use Rattle.std.specs.List.{list_any, list_all}
use Rattle.std.proofs.lemmas.List.{length-replicate, length-take-le, length-drop, take-append-drop, get_or-replicate, replicate-append-replicate}
use Rattle.std.proofs.lemmas.List.Elements.{All-head, All-tail}
use Rattle.std.proofs.Math.Seq.{take-append_seam, drop-append_seam}
use Rattle.fc_spec.specs.words.Lists.{is_empty}
use Rattle.fc_spec.specs.documents.Val.{Text}
use Rattle.fc_spec.specs.documents.Document.{Document, Block}
use Rattle.fc_spec.specs.documents.Totals.{documents_of, documents_in, document_total}
use Rattle.fc_spec.specs.documents.Sets.{zip_with, passing, passing_of, AreSets}
use Rattle.fc_spec.specs.documents.Live.{parents_in_set, whole_blocks, HasWholeBlocks}
use Rattle.fc_spec.specs.queries.Query.{Query}
use Rattle.fc_spec.specs.queries.Matching.{matches}
use Rattle.fc_spec.specs.requests.Request.{BlockStep, stay, parents, children, DomainChange, Kind, Facet, Nodes, Request}
use Rattle.fc_spec.specs.requests.Base.{meets_base}
use Rattle.fc_spec.specs.requests.Buckets.{Key, in_bucket}
use Rattle.fc_spec.specs.requests.DomainSets.{by_blocks, to_parent, to_children, moved_set, changed_set, bucket_set}
use Rattle.fc_spec.specs.messages.Message.{Way}
use Rattle.fc_spec.specs.messages.Target.{facet_at}
use Rattle.fc_spec.proofs.words.WhereTrue.{length-zip_with, zip_with-append}
use Rattle.fc_spec.proofs.documents.LiveBlocks.{length-parents_in_set, length-live}
use Rattle.fc_spec.proofs.requests.SetChanges.{passing_keeps, moved_keeps}
use Rattle.fc_answers.specs.SetAnswer.{Piece, Pieces, whole_world, AreWhole, Sets, Scope, base_of, base_in, domain_sets, bucket_sets, Spot, nowhere, scope_of, spot_in, spot_from}
use Rattle.fc_answers.specs.LiveSets.{IsLive, AreLive}

-- ---- sets within others

abbrev IsWithin : List Bool → List Bool → Type 0
IsWithin live set = zip_with ◌&&◌ set live ≡ set

both_again : (here : Bool) → (here && here) ≡ here
both_again true = refl
both_again false = refl

within_itself : (live : List Bool) → IsWithin live live
within_itself [] = refl
within_itself (here ∷ live) = ap₂ (λ h l. h ∷ l) (both_again here) (within_itself live)

passed_again : (here passes alive : Bool) → (here && alive) ≡ here → ((here && passes) && alive) ≡ (here && passes)
passed_again true true alive e = e
passed_again true false alive e = refl
passed_again false passes alive e = refl

-- what passes of a set stays within
within_passed : (set live passes : List Bool) → IsWithin live set → IsWithin live (zip_with ◌&&◌ set passes)
within_passed [] live passes within = refl
within_passed (s ∷ set) [] passes within = absurd cc
within_passed (s ∷ set) (l ∷ live) [] within = refl
within_passed (s ∷ set) (l ∷ live) (x ∷ passes) within =
    let first : (s && l) ≡ s = cc in
    let rest : zip_with ◌&&◌ set live ≡ set = cc in
    ap₂ (λ h t. h ∷ t) (passed_again s x l first) (within_passed set live passes rest)

within_all : (set : List Bool) (n : ℕ) → length set ≡ n → zip_with ◌&&◌ set (replicate n true) ≡ set
within_all [] n size = refl
within_all (s ∷ set) zero size = absurd cc
within_all (true ∷ set) (suc n) size = ap (λ l. true ∷ l) (within_all set n (omega arith))
within_all (false ∷ set) (suc n) size = ap (λ l. false ∷ l) (within_all set n (omega arith))

within_none : (set : List Bool) (n : ℕ) → length set ≡ n → zip_with ◌&&◌ set (replicate n false) ≡ replicate n false
within_none [] zero size = refl
within_none [] (suc n) size = absurd cc
within_none (s ∷ set) zero size = absurd cc
within_none (true ∷ set) (suc n) size = ap (λ l. false ∷ l) (within_none set n (omega arith))
within_none (false ∷ set) (suc n) size = ap (λ l. false ∷ l) (within_none set n (omega arith))

none_within : (n : ℕ) (live : List Bool) → length live ≡ n → IsWithin live (replicate n false)
none_within zero live size = refl
none_within (suc n) [] size = absurd cc
none_within (suc n) (l ∷ live) size = ap (λ t. false ∷ t) (none_within n live (omega arith))

-- ---- block steps stay inside a block

module _ (f : Block → List Bool → List Bool)
    (sizes : (b : Block) (set : List Bool) → length (f b set) ≡ length (documents_of b))
    (quiet : (b : Block) → f b (replicate (length (documents_of b)) false) ≡ replicate (length (documents_of b)) false) where
  -- of one block
  one_within : (b : Block) (here : Bool) (set : List Bool) → length set ≡ length (documents_of b) → IsWithin (replicate (length (documents_of b)) here) set
      → IsWithin (replicate (length (documents_of b)) here) (f b set)
  one_within b true set size within = within_all (f b set) (length (documents_of b)) (sizes b set)
  one_within b false set size within =
      let n = length (documents_of b) in
      let nothing : f b set ≡ replicate n false = ap (f b) (sym within ∙ within_none set n size) ∙ quiet b in
      within_none (f b set) n (sizes b set) ∙ sym nothing

  blocks_within : (blocks : List Block) (kept set : List Bool) → length kept ≡ length blocks → length set ≡ document_total blocks
      → IsWithin (whole_blocks blocks kept) set → IsWithin (whole_blocks blocks kept) (by_blocks f blocks set)
  blocks_within [] kept set even size within = refl
  blocks_within (b ∷ blocks) [] set even size within = absurd cc
  blocks_within (b ∷ blocks) (here ∷ kept) set even size within =
      let n = length (documents_of b) in
      let whole = whole_blocks blocks kept in
      let front = take n set in
      let back = drop n set in
      let total = length-append (documents_of b) (documents_in blocks) in
      let front_size : length front ≡ n = length-take-le n set (omega (arith, size, total)) in
      let back_size : length back ≡ document_total blocks = length-drop n set ∙ omega (arith, size, total) in
      let long : length (replicate n here) ≡ n = length-replicate n here in
      let front_now = zip_with ◌&&◌ front (replicate n here) in
      let now_size : length front_now ≡ n = length-zip_with ◌&&◌ front (replicate n here) (front_size ∙ sym long) ∙ front_size in
      let split : front_now ++ zip_with ◌&&◌ back whole ≡ set =
      sym (zip_with-append ◌&&◌ front back (replicate n here) whole (front_size ∙ sym long)) ∙ ap (λ s. zip_with ◌&&◌ s (replicate n here ++ whole)) (take-append-drop n set) ∙ within in
      let first : front_now ≡ front =
      sym (take-append_seam front_now (zip_with ◌&&◌ back whole)) ∙ ap (λ k. take k (front_now ++ zip_with ◌&&◌ back whole)) now_size ∙ ap (take n) split in
      let rest : zip_with ◌&&◌ back whole ≡ back =
      sym (drop-append_seam front_now (zip_with ◌&&◌ back whole)) ∙ ap (λ k. drop k (front_now ++ zip_with ◌&&◌ back whole)) now_size ∙ ap (drop n) split in
      zip_with-append ◌&&◌ (f b front) (by_blocks f blocks back) (replicate n here) whole (sizes b front ∙ sym long)
      ∙ ap₂ (λ k l. k ++ l) (one_within b here front front_size first) (blocks_within blocks kept back (omega arith) back_size rest)

  steps_within : (p : Piece) (set : List Bool) → HasWholeBlocks p.blocks p.live → IsLive p set → IsWithin p.live (by_blocks f p.blocks set)
  steps_within p set whole is =
      subst (λ l. IsWithin l (by_blocks f p.blocks set)) (sym whole.whole)
      (blocks_within p.blocks (parents_in_set p.blocks p.live) set (length-parents_in_set p.blocks p.live) is.count (subst (λ l. IsWithin l set) whole.whole is.live))

size_of : (b : Block) → length (documents_of b) ≡ length b.children + 1
size_of b = length-append b.children (b.parent ∷ [])

row_size : (b : Block) (here there : Bool) → length (replicate (length b.children) here ++ there ∷ []) ≡ length (documents_of b)
row_size b here there = omega (arith, length-append (replicate (length b.children) here) (there ∷ []), length-replicate (length b.children) here, size_of b)

row_of_none : (b : Block) → replicate (length b.children) false ++ false ∷ [] ≡ replicate (length (documents_of b)) false
row_of_none b = replicate-append-replicate (length b.children) 1 false ∙ ap (λ n. replicate n false) (sym (size_of b))

none_there : (n : ℕ) → list_any (λ here. here) (replicate n false) ≡ false
none_there zero = refl
none_there (suc n) = none_there n

and_false : (b : Bool) → (b && false) ≡ false
and_false true = refl
and_false false = refl

no_parent : (q : Query) (b : Block) → to_parent q b (replicate (length (documents_of b)) false) ≡ replicate (length (documents_of b)) false
no_parent q b =
    ap (λ h. replicate (length b.children) false ++ (matches q b.parent && h) ∷ []) (none_there (length (documents_of b)))
    ∙ ap (λ h. replicate (length b.children) false ++ h ∷ []) (and_false (matches q b.parent)) ∙ row_of_none b

no_children : (q : Query) (b : Block) → to_children q b (replicate (length (documents_of b)) false) ≡ replicate (length (documents_of b)) false
no_children q b =
    let size = size_of b in
    ap (λ h. replicate (length b.children) (matches q b.parent && h) ++ false ∷ []) (get_or-replicate (length (documents_of b)) (length b.children) false false (omega arith))
    ∙ ap (λ h. replicate (length b.children) h ++ false ∷ []) (and_false (matches q b.parent)) ∙ row_of_none b

-- ---- of one segment

module _ (t : Document → Bool) (p : Piece) where
  pub passing_live : HasWholeBlocks p.blocks p.live → IsLive p (passing_of t p.blocks p.live)
  passing_live whole = record {
    count = passing_keeps t p.blocks p.live (length-live p.blocks p.live whole);
    live = within_passed p.live p.live (passing t p.blocks) (within_itself p.live);
  }

  pub passing_of_live : (set : List Bool) → IsLive p set → IsLive p (passing_of t p.blocks set)
  passing_of_live set is = record { count = passing_keeps t p.blocks set is.count; live = within_passed set p.live (passing t p.blocks) is.live }

pub base_live : (r : Request) (tags : List Text) (p : Piece) → HasWholeBlocks p.blocks p.live → IsLive p (base_of r tags p)
base_live r tags p whole = passing_live (meets_base r tags) p whole

pub base_in_live : (o : Scope) (tags : List Text) (p : Piece) → HasWholeBlocks p.blocks p.live → IsLive p (base_in o tags p)
base_in_live o tags p whole = passing_live (λ d. o.meets d && meets_base o.request (o.excluded ++ tags) d) p whole

moved_live : (step : BlockStep) (p : Piece) (set : List Bool) → HasWholeBlocks p.blocks p.live → IsLive p set → IsLive p (moved_set step p.blocks set)
moved_live stay p set whole is = is
moved_live (parents q) p set whole is = record {
  count = moved_keeps (parents q) p.blocks set is.count;
  live = steps_within (to_parent q) (λ b here. row_size b false _) (no_parent q) p set whole is;
}
moved_live (children q) p set whole is = record {
  count = moved_keeps (children q) p.blocks set is.count;
  live = steps_within (to_children q) (λ b here. row_size b _ false) (no_children q) p set whole is;
}

pub changed_live : (change : DomainChange) (p : Piece) (base set : List Bool) → HasWholeBlocks p.blocks p.live → IsLive p base → IsLive p set → IsLive p (changed_set change p.blocks base set)
changed_live change p base set whole base_is is =
    passing_of_live (λ d. list_all (λ q. matches q d) change.filters) p _ (moved_live change.block p _ whole (go (is_empty change.exclude)))
  where
    go : (none : Bool) → IsLive p (cond none set base)
    go true = is
    go false = base_is

pub domain_live : (o : Scope) (f : Facet) (p : Piece) (set : List Bool) → HasWholeBlocks p.blocks p.live → IsLive p set → IsLive p (changed_set f.change p.blocks (base_in o f.change.exclude p) set)
domain_live o f p set whole is = changed_live f.change p (base_in o f.change.exclude p) set whole (base_in_live o f.change.exclude p whole) is

pub bucket_live : (kind : Kind) (key : Key) (p : Piece) (set : List Bool) → IsLive p set → IsLive p (bucket_set kind key p.blocks set)
bucket_live kind key p set is = passing_of_live (in_bucket kind key) p set is

pub nothing_live : (p : Piece) → HasWholeBlocks p.blocks p.live → IsLive p (replicate (document_total p.blocks) false)
nothing_live p whole = record {
  count = length-replicate (document_total p.blocks) false;
  live = none_within (document_total p.blocks) p.live (length-live p.blocks p.live whole);
}

-- ---- of all segments

-- in it the documents of a block are all live, or none is
abbrev pub IsWhole : Piece → Type 0
IsWhole p = HasWholeBlocks p.blocks p.live

-- a set made of each segment
each_live : (f : Piece → List Bool) → ((p : Piece) → IsWhole p → IsLive p (f p)) → (V : Pieces) → AreWhole V → AreLive V (map f V)
each_live f keeps [] whole = tt
each_live f keeps (p ∷ V) whole = (keeps p (All-head IsWhole p V whole), each_live f keeps V (All-tail IsWhole p V whole))

pub bases_live : (r : Request) (tags : List Text) (V : Pieces) → AreWhole V → AreLive V (map (base_of r tags) V)
bases_live r tags V whole = each_live (base_of r tags) (base_live r tags) V whole

pub bases_in_live : (o : Scope) (tags : List Text) (V : Pieces) → AreWhole V → AreLive V (map (base_in o tags) V)
bases_in_live o tags V whole = each_live (base_in o tags) (base_in_live o tags) V whole

pub domains_live : (o : Scope) (V : Pieces) (f : Facet) (sets : Sets) → AreWhole V → AreLive V sets → AreLive V (domain_sets o V f sets)
domains_live o [] f [] whole are = tt
domains_live o [] f (set ∷ sets) whole are = absurd are
domains_live o (p ∷ V) f [] whole are = absurd are
domains_live o (p ∷ V) f (set ∷ sets) whole are = (domain_live o f p set (All-head IsWhole p V whole) are.0, domains_live o V f sets (All-tail IsWhole p V whole) are.1)

pub buckets_live : (V : Pieces) (kind : Kind) (key : Key) (sets : Sets) → AreLive V sets → AreLive V (bucket_sets V kind key sets)
buckets_live [] kind key [] are = tt
buckets_live [] kind key (set ∷ sets) are = absurd are
buckets_live (p ∷ V) kind key [] are = absurd are
buckets_live (p ∷ V) kind key (set ∷ sets) are = (bucket_live kind key p set are.0, buckets_live V kind key sets are.1)

pub nowhere_live : (V : Pieces) → AreWhole V → AreLive V (nowhere V).sets
nowhere_live V whole = each_live (λ p. replicate (document_total p.blocks) false) nothing_live V whole

pub spots_live : (r : Request) (V : Pieces) (s : Spot) (way : Way) → AreWhole V → AreLive V s.sets → AreLive V (spot_from r V s way).sets
spots_live r V s [] whole are = are
spots_live r V s (step ∷ way) whole are = spots_live r V (spot_in r V step.key s (facet_at step.node s.nodes)) way whole (go (facet_at step.node s.nodes))
  where
    go : (f : Option (Facet × Nodes)) → AreLive V (spot_in r V step.key s f).sets
    go None = nowhere_live V whole
    go (Some f) = buckets_live V (f.0).kind step.key (domain_sets (scope_of r s) V f.0 s.sets) (domains_live (scope_of r s) V f.0 s.sets whole are)

pub live_are_sets : (V : Pieces) (sets : Sets) → AreLive V sets → AreSets (whole_world V) sets
live_are_sets [] [] are = refl
live_are_sets [] (set ∷ sets) are = absurd are
live_are_sets (p ∷ V) [] are = absurd are
live_are_sets (p ∷ V) (set ∷ sets) are = λ i. (are.0).count i ∷ live_are_sets V sets are.1 i

-- ---- the segment at a place

pub whole_at : (n : ℕ) (V rest : Pieces) (p : Piece) → drop n V ≡ p ∷ rest → AreWhole V → HasWholeBlocks p.blocks p.live
whole_at zero [] rest p there whole = absurd cc
whole_at zero (q ∷ V) rest p there whole = let same : q ≡ p = cc in subst IsWhole same (All-head IsWhole q V whole)
whole_at (suc n) [] rest p there whole = absurd cc
whole_at (suc n) (q ∷ V) rest p there whole = whole_at n V rest p there (All-tail IsWhole q V whole)

pub live_at : (n : ℕ) (V rest : Pieces) (p : Piece) (sets more : Sets) (set : List Bool) → drop n V ≡ p ∷ rest → drop n sets ≡ set ∷ more → AreLive V sets → IsLive p set
live_at zero [] rest p sets more set there here are = absurd cc
live_at zero (q ∷ V) rest p [] more set there here are = absurd are
live_at zero (q ∷ V) rest p (first ∷ sets) more set there here are =
    let same : q ≡ p = cc in
    let found : first ≡ set = cc in
    subst (λ s. IsLive p s) found (subst (λ a. IsLive a first) same are.0)
live_at (suc n) [] rest p sets more set there here are = absurd cc
live_at (suc n) (q ∷ V) rest p [] more set there here are = absurd are
live_at (suc n) (q ∷ V) rest p (first ∷ sets) more set there here are = live_at n V rest p sets more set there here are.1
