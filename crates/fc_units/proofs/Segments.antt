-- One segment of a job: what stands at its place.
use Rattle.std.proofs.Common.{◌≡◌, ℕ, zero, suc, ◌+◌, ◌<◌, ◌≤◌, List, [], ◌∷◌, ◌++◌, length, map, drop, drop-cons, get_or, Bool, true, vec_len, refl, sym, ◌∙◌, ap, subst, arith, add-one}
use Rattle.std.proofs.Math.ListN.{get_or-append}
use Rattle.std.specs.declared.alloc.Global.{Global}
use Rattle.std.specs.declared.vec.Vec.{Vec}
use Rattle.std.proofs.lemmas.List.{drop-map}
use Rattle.fc_spec.specs.documents.Live.{HasWholeBlocks}
use Rattle.fc_spec.specs.documents.Schema.{Schema, texts_held}
use Rattle.fc_spec.specs.documents.Sets.{places_on}
use Rattle.fc_spec.specs.messages.Message.{Ask}
use Rattle.fc_spec.specs.requests.Buckets.{Key}
use Rattle.fc_spec.specs.requests.DomainSets.{bucket_set}
use Rattle.fc_spec.specs.requests.Request as definition
use Rattle.fc_spec.specs.requests.Request.{Facet, Kind, Stat}
use Rattle.fc_spec.specs.requests.Statistics.{Stats, stats_over}
use Rattle.fc_spec.specs.scripts.WorldLimits.{IsWithinLimits}
use Rattle.fc_domain.specs.FieldsFit.{BaseFits}
use Rattle.fc_domain.proofs.SchemaFits.{fields_fit}
use Rattle.fc_kind.specs.Collecting.{BucketsAddUp}
use Rattle.fc_partial.specs.Adding.{AddUp}
use Rattle.fc_partial.specs.Tallied.{Tallied}
use Rattle.fc_partial.specs.View.{key_view}
use Rattle.fc_request.specs.FacetNode.{facet_view}
use Rattle.fc_request.specs.RequestView.{request_view}
use Rattle.fc_request.specs.declared.node.Node.{Node}
use Rattle.fc_request.specs.declared.request.Request.{Request}
use Rattle.fc_segment.specs.Segmented.{Segmented}
use Rattle.fc_answers.specs.LiveSets.{AreLive}
use Rattle.fc_answers.specs.SetAnswer.{Piece, Pieces, Scope, Sets, base_of, bucket_sets, domain_sets, whole_world}
use Rattle.fc_answers.proofs.LiveFits.{live_fit}
use Rattle.fc_answers.proofs.LiveSets.{buckets_live, domains_live, live_are_sets, whole_at}
use Rattle.fc_levels.specs.Levels.{open_in, open_sets}
use Rattle.fc_levels.specs.Steps.{IsLevel, IsValidNode}
use Rattle.fc_levels.specs.declared.level.Level.{Level}
use Rattle.fc_levels.proofs.Stacked.{open_top}
use Rattle.fc_jobs.specs.FacetFits.{AllFit, FacetFits}
use Rattle.fc_jobs.specs.Gathered.{AreFirst, AreSoFar, IsCountedSoFar}
use Rattle.fc_jobs.specs.Pieces.{each_piece, no_piece, piece_of, pieces_in}
use Rattle.fc_jobs.specs.Walked.{domain_set}
use Rattle.fc_jobs.proofs.CountedTallies.{counted_add_up}
use Rattle.fc_jobs.proofs.GatheredPlaces.{first_more}
use Rattle.fc_jobs.proofs.SegmentLimits.{segment_within}
use Rattle.fc_jobs.proofs.TopBuckets.{bucket_add_up, drop-each_piece, drop-each_set}
use Rattle.fc_jobs.proofs.ValidFacets.{all_fit, facet_fits}
use Rattle.fc_jobs.proofs.WalkedSets.{domains_by_segment}
use Rattle.fc_units.specs.Asked.{top_domain, top_set}
use Rattle.fc_units.specs.Built.{CanAnswer}
use Rattle.fc_units.specs.Stepping.{IsOneFurther}
use Rattle.fc_units.proofs.JobEnds.{top_are_live}

-- ---- lists

pub stands_at : {X : Type 0} (xs : List X) (i : ℕ) (x : X) → i < length xs → x ≡ get_or xs i x → drop i xs ≡ x ∷ drop (suc i) xs
stands_at xs i x h is = drop-cons xs i x h ∙ ap (λ y. y ∷ drop (suc i) xs) (sym is)

pub map_stands : {X Y : Type 0} (f : X → Y) (n : ℕ) (x : X) (xs rest : List X) → drop n xs ≡ x ∷ rest → drop n (map f xs) ≡ f x ∷ map f rest
map_stands f n x xs rest e = drop-map f n xs ∙ ap (map f) e

-- what is shared at a place
pub shared_stands : {X Y : Type 0} (f : X → Y) (xs : List X) (i : ℕ) (x : X) (y : Y) → i < length xs → x ≡ get_or xs i x → y ≡ f x → drop i (map f xs) ≡ y ∷ drop (i + 1) (map f xs)
shared_stands f xs i x y h is e =
    map_stands f i x xs (drop (suc i) xs) (stands_at xs i x h is) ∙ (λ j. sym e j ∷ sym (drop-map f (suc i) xs) j) ∙ ap (λ k. y ∷ drop k (map f xs)) (sym (add-one i))

standing : {X : Type 0} (n : ℕ) (x d : X) (xs rest : List X) → drop n xs ≡ x ∷ rest → get_or xs n d ≡ x
standing zero x d xs rest e = ap (λ l. get_or l 0 d) e
standing (suc n) x d [] rest e = absurd (cc)
standing (suc n) x d (y ∷ xs) rest e = standing n x d xs rest e

-- a segment is the one at its number
pub piece_at : (gs : List Segmented) (at : ℕ) (g : Segmented) (rest : List Segmented) → drop at gs ≡ g ∷ rest → get_or (pieces_in gs) at no_piece ≡ piece_of g
piece_at gs at g rest here = standing at (piece_of g) no_piece (pieces_in gs) (pieces_in rest) (map_stands piece_of at g gs rest here)

pub within_list : {X : Type 0} (n : ℕ) (x : X) (xs rest : List X) → drop n xs ≡ x ∷ rest → n < length xs
within_list zero x [] rest e = absurd (cc)
within_list zero x (y ∷ xs) rest e = omega arith
within_list (suc n) x [] rest e = absurd (cc)
within_list (suc n) x (y ∷ xs) rest e = let h = within_list n x xs rest e in omega arith

-- what is read of the first sets is what stands there of all
pub first_at : (D domain more : Sets) (n : ℕ) (set x d : List Bool) → AreFirst D domain → n < length domain → drop n D ≡ set ∷ more → x ≡ get_or domain n d → x ≡ set
first_at D domain more n set x d front h next is = is ∙ sym (get_or-append domain (drop (length domain) D) d n h) ∙ ap (λ l. get_or l n d) front ∙ standing n set d D more next

-- counts of what is in memory
pub vec_count : {X : Type 0} (v : Vec X Global) (k : ℕ) → k ≡ vec_len v → k ≡ length v.items
vec_count v k e = omega (arith, e, v.ok.0)

pub vec_there : {X : Type 0} (v : Vec X Global) (n k : ℕ) → n < k → k ≡ vec_len v → n < length v.items
vec_there v n k h e = omega (arith, h, e, v.ok.0)

pub vec_within : {X : Type 0} (v : Vec X Global) (n : ℕ) → n < length v.items → n < vec_len v
vec_within v n h = omega (arith, h, v.ok.0)

pub vec_past : {X : Type 0} (v : Vec X Global) (n k : ℕ) → k ≤ n → k ≡ vec_len v → length v.items ≤ n
vec_past v n k h e = omega (arith, h, e, v.ok.0)

pub one_further : (segments at : ℕ) → at < segments → IsOneFurther segments at (at + 1)
one_further segments at h = record { more = λ g. refl; none = λ g. absurd (omega (arith, h, g)) }

pub no_further : (segments at : ℕ) → segments ≤ at → IsOneFurther segments at at
no_further segments at h = record { more = λ g. absurd (omega (arith, h, g)); none = λ g. refl }

-- ---- a segment

module _ (s : Schema) (gs : List Segmented) (request : Request) (at : ℕ) (g : Segmented) (rest : List Segmented) (here : drop at gs ≡ g ∷ rest) (can : CanAnswer s gs request) where
  abbrev pub r : definition.Request
  r = request_view request

  abbrev pub V : Pieces
  V = pieces_in gs

  pub piece_here : drop at V ≡ piece_of g ∷ pieces_in rest
  piece_here = map_stands piece_of at g gs rest here

  blocks_here : drop at (whole_world V) ≡ g.blocks ∷ whole_world (pieces_in rest)
  blocks_here = map_stands (λ (p : Piece). p.blocks) at (piece_of g) V (pieces_in rest) piece_here

  texts_here : g.texts ≡ texts_held s.fields
  texts_here = sym (ap (λ (x : Segmented). x.texts) (standing at g g gs rest here)) ∙ can.columns at g (within_list at g gs rest here)

  pub limits_here : IsWithinLimits (g.blocks ∷ [])
  limits_here = segment_within at gs rest g here can.each

  -- each of its blocks is live whole or not at all
  pub whole_here : HasWholeBlocks g.blocks g.live
  whole_here = whole_at at V (pieces_in rest) (piece_of g) piece_here can.whole

  pub base_here : BaseFits g.texts r
  base_here = subst (λ ts. BaseFits ts r) (sym texts_here) (record {
    query = fields_fit s r.query can.valid.query.fits;
    filters = λ k f below. fields_fit s (get_or r.filters k f).query (can.valid.filters k f below).query.fits;
  })

  pub all_here : AllFit g.texts r.nodes
  all_here = all_fit s true g.texts r.nodes texts_here can.valid.nodes

  pub facet_here : (n : Node) → IsValidNode s n → FacetFits g.texts n
  facet_here n v = facet_fits s v.valid.0 v.inner.0 g.texts n texts_here v.facet v.valid.1 v.inner.1

  abbrev pub bases : Sets
  bases = map (base_of r []) V

  pub base_stands : drop at bases ≡ base_of r [] (piece_of g) ∷ map (base_of r []) (pieces_in rest)
  base_stands = map_stands (base_of r []) at (piece_of g) V (pieces_in rest) piece_here

  -- what is there of the bases, and what is put behind them
  pub base_there : (roots : Sets) (d : List Bool) → AreFirst bases roots → at < length roots → get_or roots at d ≡ base_of r [] (piece_of g)
  base_there roots d front h = first_at bases roots (map (base_of r []) (pieces_in rest)) at (base_of r [] (piece_of g)) (get_or roots at d) d front h base_stands refl

  pub base_more : (roots : Sets) → AreFirst bases roots → length roots ≡ at → AreFirst bases (roots ++ base_of r [] (piece_of g) ∷ [])
  base_more roots front same =
      first_more bases roots (map (base_of r []) (pieces_in rest)) (base_of r [] (piece_of g)) front (subst (λ n. drop n bases ≡ base_of r [] (piece_of g) ∷ map (base_of r []) (pieces_in rest)) (sym same) base_stands)

  -- a top bucket's domain
  module _ (ask : Ask) (number : ℕ) (f : Facet) where
    pub top_stands : drop at (top_domain r V ask number f) ≡ top_set r ask number f (piece_of g) ∷ top_domain r (pieces_in rest) ask number f
    top_stands = map_stands (top_set r ask number f) at (piece_of g) V (pieces_in rest) piece_here

    pub top_more : (domain : Sets) → AreFirst (top_domain r V ask number f) domain → length domain ≡ at → AreFirst (top_domain r V ask number f) (domain ++ top_set r ask number f (piece_of g) ∷ [])
    top_more domain front same =
        first_more (top_domain r V ask number f) domain (top_domain r (pieces_in rest) ask number f) (top_set r ask number f (piece_of g)) front
        (subst (λ n. drop n (top_domain r V ask number f) ≡ top_set r ask number f (piece_of g) ∷ top_domain r (pieces_in rest) ask number f) (sym same) top_stands)

    pub top_adds_up : (kind : Kind) (ss : List Stat) (key : Key) (stats : Stats) → AreSoFar V (top_domain r V ask number f) kind ss key at stats
        → AddUp stats (stats_over ss (places_on 0 g.blocks (bucket_set kind key g.blocks (top_set r ask number f (piece_of g)))))
    top_adds_up kind ss key stats so_far =
        bucket_add_up V (pieces_in rest) (top_domain r V ask number f) (top_domain r (pieces_in rest) ask number f) kind ss key at (piece_of g) (top_set r ask number f (piece_of g)) piece_here top_stands stats
        (live_are_sets V (top_domain r V ask number f) live) (live_fit V (bucket_sets V kind key (top_domain r V ask number f)) can.whole (buckets_live V kind key (top_domain r V ask number f) live) can.limits) so_far
      where
        live : AreLive V (top_domain r V ask number f)
        live = top_are_live r V ask number f can.whole

  -- a facet's domain in the bucket that is open, in a scope
  module _ (o : Scope) (f : Facet) (levels before : List Level) (l : Level) (is : levels ≡ before ++ l ∷ []) (valid : IsLevel s V l) (set : List Bool) (more : Sets) (next : drop at l.domain.items ≡ set ∷ more) where
    abbrev E : Sets
    E = domain_sets o V f (open_in V [] levels)

    open_is : open_in V [] levels ≡ open_sets V l
    open_is = ap (open_in V []) is ∙ open_top V [] before l

    open_are_live : AreLive V (open_sets V l)
    open_are_live = buckets_live V (facet_view l.node.now).kind (key_view l.key) l.domain.items valid.sets

    abbrev own : List Bool
    own = bucket_set (facet_view l.node.now).kind (key_view l.key) g.blocks set

    abbrev behind : Sets
    behind = each_piece (λ p x. domain_set o p f x) (pieces_in rest) (bucket_sets (pieces_in rest) (facet_view l.node.now).kind (key_view l.key) more)

    pub facet_stands : drop at E ≡ domain_set o (piece_of g) f own ∷ behind
    facet_stands =
        ap (λ D. drop at (domain_sets o V f D)) open_is ∙ ap (drop at) (domains_by_segment o V f (open_sets V l))
        ∙ drop-each_piece (λ p x. domain_set o p f x) at V (pieces_in rest) (open_sets V l) (bucket_sets (pieces_in rest) (facet_view l.node.now).kind (key_view l.key) more) (piece_of g) own piece_here
        (drop-each_set (bucket_set (facet_view l.node.now).kind (key_view l.key)) at (whole_world V) (whole_world (pieces_in rest)) l.domain.items more g.blocks set blocks_here next)

    facet_are_live : AreLive V E
    facet_are_live = domains_live o V f (open_in V [] levels) can.whole (subst (AreLive V) (sym open_is) open_are_live)

    pub facet_adds_up : (kind : Kind) (ss : List Stat) (domain : Sets) (t : Tallied) → length domain ≡ at → IsCountedSoFar V E kind ss domain t → BucketsAddUp kind ss (places_on 0 g.blocks (domain_set o (piece_of g) f own)) t.entries
    facet_adds_up kind ss domain t same so_far =
        counted_add_up V (pieces_in rest) E domain behind kind ss (piece_of g) (domain_set o (piece_of g) f own) t (ap (λ n. drop n V) same ∙ piece_here) (ap (λ n. drop n E) same ∙ facet_stands)
        (live_are_sets V E facet_are_live) (live_fit V E can.whole facet_are_live can.limits) so_far
