-- One segment more of a facet's job, in the root's bucket.
use Rattle.std.proofs.Common.{◌≡◌, ℕ, ◌+◌, ◌<◌, List, [], ◌∷◌, ◌++◌, drop, length, map, get_or, Bool, IsTrue, refl, sym, ◌∙◌, ap, subst, arith, length-append}
use Rattle.fc_spec.specs.documents.Schema.{Schema}
use Rattle.fc_spec.specs.documents.Sets.{places_on}
use Rattle.fc_spec.specs.documents.Totals.{document_total, documents_in}
use Rattle.fc_spec.specs.queries.Query.{all}
use Rattle.fc_spec.specs.requests.Base.{meets_base}
use Rattle.fc_spec.specs.requests.Buckets.{whole}
use Rattle.fc_spec.specs.requests.DomainSets.{bucket_set}
use Rattle.fc_spec.specs.requests.Paths.{at_root}
use Rattle.fc_spec.specs.requests.Request as definition
use Rattle.fc_spec.specs.requests.Request.{Facet, Kind, Stat, query, stats_of}
use Rattle.fc_kind.specs.Collecting.{BucketsAddUp, Collects}
use Rattle.fc_request.specs.FacetNode.{facet_view, kind_of, kind_view}
use Rattle.fc_request.specs.NodeView.{inner_view}
use Rattle.fc_request.specs.RequestView.{request_view}
use Rattle.fc_request.specs.declared.node.Node.{Node}
use Rattle.fc_request.specs.declared.request.Request.{Request}
use Rattle.fc_segment.specs.Segmented.{Segmented}
use Rattle.fc_answers.specs.LiveSets.{AreLive}
use Rattle.fc_answers.specs.SetAnswer.{Pieces, Scope, Sets, base_of, scope_on}
use Rattle.fc_answers.proofs.LiveFits.{live_fit}
use Rattle.fc_answers.proofs.LiveSets.{base_live, bases_live, domains_live, live_are_sets}
use Rattle.fc_levels.specs.Facets.{nested_view}
use Rattle.fc_levels.specs.Steps.{IsValidNode}
use Rattle.fc_jobs.specs.FacetFits.{FacetFits}
use Rattle.fc_jobs.specs.Gathered.{IsCountedSoFar}
use Rattle.fc_jobs.specs.Pieces.{each_piece, piece_of, pieces_in}
use Rattle.fc_jobs.specs.Walked.{domain_set}
use Rattle.fc_jobs.proofs.CountedTallies.{counted_add_up, counted_more}
use Rattle.fc_jobs.proofs.TopBuckets.{drop-each_piece}
use Rattle.fc_jobs.proofs.WalkedSets.{domains_by_segment}
use Rattle.fc_units.specs.Built.{CanAnswer}
use Rattle.fc_units.specs.LeastLists.{facet_sets, root_sets}
use Rattle.fc_units.specs.Leasts.{IsListJob}
use Rattle.fc_units.specs.declared.leasts.ListJob.{ListJob}
use Rattle.fc_units.proofs.AskedTops.{in_whole}
use Rattle.fc_units.proofs.Begun.{all_first}
use Rattle.fc_units.proofs.Segments.{base_stands, base_there, facet_here, piece_here, whole_here, within_list}

-- what is read of the root's kind
pub root_kind_is : (root node : Node) → nested_view node ≡ nested_view root → kind_view (kind_of root) ≡ query all → kind_view (kind_of node) ≡ query all
root_kind_is root node same is = ap (λ m. (m.0).kind) same ∙ is

module _ (s : Schema) (gs : List Segmented) (request : Request) (job : ListJob) (g : Segmented) (rest : List Segmented) (here : drop job.at gs ≡ g ∷ rest) (can : CanAnswer s gs request) (is : IsListJob s (request_view request) (pieces_in gs) job) where
  abbrev r : definition.Request
  r = request_view request

  abbrev V : Pieces
  V = pieces_in gs

  abbrev o : Scope
  o = scope_on r at_root

  abbrev f : Facet
  f = facet_view job.node.now

  abbrev kind : Kind
  kind = kind_view (kind_of job.node.now)

  abbrev ss : List Stat
  ss = stats_of (inner_view job.node.now)

  abbrev E : Sets
  E = facet_sets r V f

  -- the base there, and the facet's domain
  abbrev base : List Bool
  base = base_of r [] (piece_of g)

  abbrev docs : List Bool
  docs = domain_set o (piece_of g) f base

  pub list_node : FacetFits g.texts job.node.now
  list_node = facet_here s gs request job.at g rest here can job.node.now is.node

  pub list_root : (root : Node) → IsValidNode s root → FacetFits g.texts root
  list_root root valid = facet_here s gs request job.at g rest here can root valid

  -- what is read of the root's domain
  module _ (sets : Sets) (same : sets ≡ root_sets r V) where
    pub list_bound : job.at < length sets
    list_bound = subst (λ D. job.at < length D) (sym same) (within_list job.at base (root_sets r V) _ (base_stands s gs request job.at g rest here can))

    pub list_base : (set : List Bool) → set ≡ get_or sets job.at set → set ≡ base
    list_base set read =
        read ∙ ap (λ D. get_or D job.at set) same
        ∙ base_there s gs request job.at g rest here can (root_sets r V) set (all_first (root_sets r V)) (subst (λ D. job.at < length D) same list_bound)

    pub list_long : (set : List Bool) → set ≡ get_or sets job.at set → length set ≡ document_total g.blocks
    list_long set read = ap length (list_base set read) ∙ (base_live r [] (piece_of g) (whole_here s gs request job.at g rest here can)).count

    -- in the root's bucket
    pub list_docs : (k : Kind) (set : List Bool) → k ≡ query all → set ≡ get_or sets job.at set → domain_set o (piece_of g) f (bucket_set k whole g.blocks set) ≡ docs
    list_docs k set is_root read =
        (λ j. domain_set o (piece_of g) f (bucket_set (is_root j) whole g.blocks (list_base set read j)))
        ∙ ap (domain_set o (piece_of g) f) (in_whole (meets_base r []) g.live (documents_in g.blocks))

  abbrev behind : Sets
  behind = each_piece (λ p x. domain_set o p f x) (pieces_in rest) (root_sets r (pieces_in rest))

  stands : drop job.at E ≡ docs ∷ behind
  stands =
      ap (drop job.at) (domains_by_segment o V f (root_sets r V))
      ∙ drop-each_piece (λ p x. domain_set o p f x) job.at V (pieces_in rest) (root_sets r V) (root_sets r (pieces_in rest)) (piece_of g) base (piece_here s gs request job.at g rest here can) (base_stands s gs request job.at g rest here can)

  live : AreLive V E
  live = domains_live o V f (root_sets r V) can.whole (bases_live r [] V can.whole)

  -- where the job stands
  own_piece : drop (length is.domain) V ≡ piece_of g ∷ pieces_in rest
  own_piece = ap (λ n. drop n V) is.reached ∙ piece_here s gs request job.at g rest here can

  own_docs : drop (length is.domain) E ≡ docs ∷ behind
  own_docs = ap (λ n. drop n E) is.reached ∙ stands

  pub list_add_up : (set : List Bool) → set ≡ docs → BucketsAddUp kind job.tally.stats (places_on 0 g.blocks set) job.tally.entries
  list_add_up set found =
      subst (λ ts. BucketsAddUp kind ts (places_on 0 g.blocks set) job.tally.entries) (sym is.counted.tally.stats)
      (subst (λ x. BucketsAddUp kind ss (places_on 0 g.blocks x) job.tally.entries) (sym found)
      (counted_add_up V (pieces_in rest) E is.domain behind kind ss (piece_of g) docs job.tally own_piece own_docs (live_are_sets V E live) (live_fit V E can.whole live can.limits) is.counted))

  -- one segment more
  pub list_stepped : (after : ListJob) (set : List Bool) → set ≡ docs → after.node.now ≡ job.node.now → after.at ≡ job.at + 1 → Collects kind job.tally.stats (places_on 0 g.blocks set) job.tally after.tally → IsListJob s r V after
  list_stepped after set found node at collects =
      let counted : IsCountedSoFar V E kind ss (is.domain ++ docs ∷ []) after.tally =
      counted_more V (pieces_in rest) E is.domain behind kind ss (piece_of g) docs job.tally after.tally own_piece own_docs is.counted
      (subst (λ ts. Collects kind ts (places_on 0 g.blocks docs) job.tally after.tally) is.counted.tally.stats (subst (λ x. Collects kind job.tally.stats (places_on 0 g.blocks x) job.tally after.tally) found collects)) in
      record {
        node = subst (IsValidNode s) (sym node) is.node;
        domain = is.domain ++ docs ∷ [];
        counted = subst (λ (m : Node). IsCountedSoFar V (facet_sets r V (facet_view m)) (kind_view (kind_of m)) (stats_of (inner_view m)) (is.domain ++ docs ∷ []) after.tally) (sym node) counted;
        reached = length-append is.domain (docs ∷ []) ∙ omega (arith, is.reached, at);
      }
