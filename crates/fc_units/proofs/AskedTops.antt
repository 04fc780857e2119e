-- Which bucket stands at a number of an answer.
use Rattle.std.proofs.Common.{◌≡◌, ℕ, zero, suc, ◌+◌, ◌<◌, List, [], ◌∷◌, ◌++◌, length, map, drop, Bool, true, false, Some, refl, sym, ◌∙◌, ap, ap₂, arith}
use Rattle.std.specs.Prelude.{◌&&◌}
use Rattle.std.specs.List.{list_all}
use Rattle.fc_spec.specs.documents.Document.{Block, Document}
use Rattle.fc_spec.specs.documents.Sets.{AreSets, each_two, places_at, zip_with}
use Rattle.fc_spec.specs.documents.Totals.{documents_in}
use Rattle.fc_spec.specs.messages.Message.{first, more, Partials, partial, Want, Way, way_of}
use Rattle.fc_spec.specs.messages.Target.{facet_at}
use Rattle.fc_spec.specs.queries.Matching.{matches}
use Rattle.fc_spec.specs.queries.Query.{all}
use Rattle.fc_spec.specs.requests.Base.{meets_base}
use Rattle.fc_spec.specs.requests.Buckets.{Key, in_bucket, whole}
use Rattle.fc_spec.specs.requests.DomainReading.{no_change}
use Rattle.fc_spec.specs.requests.DomainSets.{changed_set}
use Rattle.fc_spec.specs.requests.Paths.{Path, at_root, into}
use Rattle.fc_spec.specs.requests.Request.{Facet, query, Request, stats_of}
use Rattle.fc_spec.specs.requests.Statistics.{stats_over}
use Rattle.fc_answers.specs.SetAnswer.{AreWhole, Piece, Pieces, Scope, Sets, Spot, base_in, base_of, bucket_sets, domain_sets, inside, root, scope_of, scope_on, set_rows, set_wants, spot_at, spot_from, spot_in, whole_world}
use Rattle.fc_answers.proofs.LiveSets.{bases_live, live_are_sets}
use Rattle.fc_levels.specs.Facets.{Nested}
use Rattle.fc_jobs.specs.Pieces.{each_piece}
use Rattle.fc_jobs.specs.Walked.{WalksBySegment, domain_set, nodes_from, path_along, scope_along, walked}
use Rattle.fc_units.specs.Asked.{IsTop, followed, key_at, node_at, path_at, top_bucket, top_domain, top_scope}

-- ---- wanted buckets

-- the want with a number, and those behind it
want_there : (ws : List Want) (i : ℕ) → i < length ws → (w : Want) × (drop i ws ≡ w ∷ drop (i + 1) ws) × (w.path ≡ path_at ws i) × (w.node ≡ node_at ws i) × (w.key ≡ key_at ws i)
want_there [] i h = absurd (omega (arith, h))
want_there (w ∷ ws) zero h = (w, refl, refl, refl, refl)
want_there (w ∷ ws) (suc i) h =
    let there = want_there ws i (omega (arith, h)) in
    let up : suc (i + 1) ≡ suc i + 1 = omega arith in
    (there.0, there.1 ∙ ap (λ n. there.0 ∷ drop n (w ∷ ws)) up, there.2, there.3, there.4)

-- one step more at the end of a way
further : (r : Request) (V : Pieces) (s : Spot) (way : Way) (step : _) → spot_from r V s (way ++ step ∷ []) ≡ spot_in r V step.key (spot_from r V s way) (facet_at step.node (spot_from r V s way).nodes)
further r V s [] step = refl
further r V s (t ∷ way) step = further r V (spot_in r V t.key s (facet_at t.node s.nodes)) way step

-- a set for each segment, made of others made of it
each_made : (f : List Block → List Bool → List Bool → List Bool) (g b : Piece → List Bool) (h : Piece → List Bool → List Bool) (V : Pieces)
    → each_two f (whole_world V) (map g V) (each_piece h V (map b V)) ≡ map (λ p. f p.blocks (g p) (h p (b p))) V
each_made f g b h [] = refl
each_made f g b h (p ∷ V) = ap (λ l. f p.blocks (g p) (h p (b p)) ∷ l) (each_made f g b h V)

-- the sets of the bucket around a wanted one, and its path
abbrev around_sets : Request → Pieces → List Want → ℕ → Sets
around_sets r V ws i = each_piece (λ p set. walked (scope_on r at_root) p r.nodes set (path_at ws i)) V (map (base_of r []) V)

abbrev around_path : Request → List Want → ℕ → Path
around_path r ws i = path_along at_root r.nodes (path_at ws i)

-- the facet of a wanted bucket, with its domain
wanted_domain : (r : Request) (V : Pieces) (ws : List Want) (i : ℕ) (f : Facet) → domain_sets (top_scope r (more ws) i) V f (around_sets r V ws i) ≡ top_domain r V (more ws) i f
wanted_domain r V ws i f = each_made (changed_set f.change) (base_in (top_scope r (more ws) i) f.change.exclude) (base_of r []) (λ p set. walked (scope_on r at_root) p r.nodes set (path_at ws i)) V

-- the bases are a set for each segment
bases_are_sets : (r : Request) (V : Pieces) → AreWhole V → AreSets (whole_world V) (map (base_of r []) V)
bases_are_sets r V are_whole = live_are_sets V (map (base_of r []) V) (bases_live r [] V are_whole)

around_scope : WalksBySegment → (r : Request) (V : Pieces) (ws : List Want) (i : ℕ) → AreWhole V → scope_on r (around_path r ws i) ≡ top_scope r (more ws) i
around_scope walks r V ws i are_whole = (walks r V (root r V) (path_at ws i) (bases_are_sets r V are_whole)).1

spot_there : WalksBySegment → (r : Request) (V : Pieces) (ws : List Want) (i : ℕ) (n : Nested) (w : Want) → AreWhole V → w.path ≡ path_at ws i → w.node ≡ node_at ws i → facet_at (node_at ws i) (nodes_from r.nodes (path_at ws i)) ≡ Some n
    → spot_at r V (way_of w) ≡ record { path = into (around_path r ws i) n.0 w.key; nodes = n.1; sets = bucket_sets V n.0.kind w.key (top_domain r V (more ws) i n.0) }
spot_there walks r V ws i n w are_whole p m e =
    let around : Spot = record { path = around_path r ws i; nodes = nodes_from r.nodes (path_at ws i); sets = around_sets r V ws i } in
    further r V (root r V) w.path (record { node = w.node; key = w.key })
    ∙ (λ j. spot_in r V w.key (reached j) (facet_at (m j) (reached j).nodes))
    ∙ ap (spot_in r V w.key around) e
    ∙ ap (λ D. record { path = into (around_path r ws i) n.0 w.key; nodes = n.1; sets = bucket_sets V n.0.kind w.key D }) (ap (λ o. domain_sets o V n.0 (around_sets r V ws i)) (around_scope walks r V ws i are_whole) ∙ wanted_domain r V ws i n.0)
  where
    reached : spot_from r V (root r V) w.path ≡ record { path = around_path r ws i; nodes = nodes_from r.nodes (path_at ws i); sets = around_sets r V ws i }
    reached = ap (spot_from r V (root r V)) p ∙ (walks r V (root r V) (path_at ws i) (bases_are_sets r V are_whole)).0

-- the bucket where a spot is
at_spot : (r : Request) (V : Pieces) (o : Scope) (n : Nested) (k : Key) (D : Sets) (s : Spot) (others : Partials) → scope_on r s.path ≡ inside o n.0 k → s.nodes ≡ n.1 → s.sets ≡ bucket_sets V n.0.kind k D
    → partial k (stats_over (stats_of s.nodes) (places_at (whole_world V) s.sets)) (set_rows (scope_of r s) V s.nodes s.sets) others ≡ followed (top_bucket o V n k D) others
at_spot r V o n k D s others scope nodes sets = λ j. partial k (stats_over (stats_of (nodes j)) (places_at (whole_world V) (sets j))) (set_rows (scope j) V (nodes j) (sets j)) others

pub wanted_top : WalksBySegment → (r : Request) (V : Pieces) (ws : List Want) (i : ℕ) (n : Nested) → AreWhole V → i < length ws → facet_at (node_at ws i) (nodes_from r.nodes (path_at ws i)) ≡ Some n
    → IsTop r V (more ws) i n (key_at ws i)
wanted_top walks r V ws i n are_whole h e =
    let w = want_there ws i h in
    let there = spot_there walks r V ws i n w.0 are_whole w.2 w.3 e in
    ap (set_wants r V) w.1
    ∙ at_spot r V (top_scope r (more ws) i) n w.0.key (top_domain r V (more ws) i n.0) (spot_at r V (way_of w.0)) (set_wants r V (drop (i + 1) ws))
    (ap (λ (s : Spot). scope_on r s.path) there ∙ ap (λ o. inside o n.0 w.0.key) (around_scope walks r V ws i are_whole)) (ap (λ (s : Spot). s.nodes) there) (ap (λ (s : Spot). s.sets) there)
    ∙ ap (λ k. followed (top_bucket (top_scope r (more ws) i) V n k (top_domain r V (more ws) i n.0)) (set_wants r V (drop (i + 1) ws))) w.4

-- ---- the root

-- each document is in the whole bucket of a facet that has every one
and_true : (b : Bool) → (b && true) ≡ b
and_true true = refl
and_true false = refl

pub in_whole : (t : Document → Bool) (live : List Bool) (ds : List Document) → zip_with ◌&&◌ (zip_with ◌&&◌ live (map t ds)) (map (in_bucket (query all) whole) ds) ≡ zip_with ◌&&◌ live (map t ds)
in_whole t [] ds = refl
in_whole t (here ∷ live) [] = refl
in_whole t (here ∷ live) (d ∷ ds) = ap₂ (λ b l. b ∷ l) (and_true (here && t d)) (in_whole t live ds)

pub whole_base : (r : Request) (V : Pieces) → bucket_sets V (query all) whole (map (base_of r []) V) ≡ map (base_of r []) V
whole_base r [] = refl
whole_base r (p ∷ V) = ap₂ (λ a l. a ∷ l) (in_whole (meets_base r []) p.live (documents_in p.blocks)) (whole_base r V)

pub root_top : (r : Request) (V : Pieces) (n : Nested) → n.1 ≡ r.nodes → n.0.kind ≡ query all → n.0.change ≡ no_change → IsTop r V first 0 n whole
root_top r V n inner kind change = at_spot r V (scope_on r at_root) n whole (map (base_of r []) V) (root r V) _ scope (sym inner) sets
  where
    scope : scope_on r at_root ≡ inside (scope_on r at_root) n.0 whole
    scope = sym (λ j. record {
      request = r;
      excluded = (change j).exclude;
      meets = λ d. list_all (λ q. matches q d) (change j).filters && in_bucket (kind j) whole d;
    })

    sets : map (base_of r []) V ≡ bucket_sets V n.0.kind whole (map (base_of r []) V)
    sets = sym (ap (λ k. bucket_sets V k whole (map (base_of r []) V)) kind ∙ whole_base r V)

-- ---- the domain of the next wanted bucket

pub same_domain : (r : Request) (V : Pieces) (ws : List Want) (i j : ℕ) (f : Facet) → path_at ws i ≡ path_at ws j → top_domain r V (more ws) i f ≡ top_domain r V (more ws) j f
same_domain r V ws i j f e = ap (λ (way : Way). map (λ p. domain_set (scope_along (scope_on r at_root) r.nodes way) p f (walked (scope_on r at_root) p r.nodes (base_of r [] p) way)) V) e
