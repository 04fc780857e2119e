-- One segment more of a facet's job.
use Rattle.std.proofs.Common.{◌≡◌, ℕ, suc, ◌+◌, ◌-◌, ◌<◌, ◌≤◌, List, [], ◌∷◌, ◌++◌, length, drop, take, get_or, All, Bool, IsTrue, refl, sym, ◌∙◌, ap, subst, arith, length-append}
use Rattle.std.proofs.lemmas.List.{length-map, take-append-drop}
use Rattle.std.proofs.lemmas.List.Elements.{All-cons, All-drop, All-head, All-nil, All-tail}
use Rattle.fc_spec.specs.documents.Schema.{Schema}
use Rattle.fc_spec.specs.documents.Sets.{places_on}
use Rattle.fc_spec.specs.documents.Totals.{document_total}
use Rattle.fc_spec.specs.messages.Message.{Ask}
use Rattle.fc_spec.specs.requests.Buckets.{is_key_of}
use Rattle.fc_spec.specs.requests.DomainSets.{bucket_set}
use Rattle.fc_spec.specs.requests.Request as definition
use Rattle.fc_spec.specs.requests.Request.{Facet, Kind, Stat, stats_of}
use Rattle.fc_spec.specs.scripts.WorldLimits.{IsWithinLimits}
use Rattle.fc_domain.specs.FieldsFit.{BaseFits}
use Rattle.fc_kind.specs.Collecting.{BucketsAddUp, Collects}
use Rattle.fc_partial.specs.View.{key_view}
use Rattle.fc_request.specs.FacetNode.{facet_view, kind_of, kind_view}
use Rattle.fc_request.specs.NodeView.{inner_view}
use Rattle.fc_request.specs.RequestView.{request_view}
use Rattle.fc_request.specs.declared.node.Node.{Node}
use Rattle.fc_request.specs.declared.request.Request.{Request}
use Rattle.fc_segment.specs.Segmented.{Segmented}
use Rattle.fc_answers.specs.SetAnswer.{Pieces, Scope, Sets, domain_sets}
use Rattle.fc_answers.proofs.LiveSets.{live_at}
use Rattle.fc_levels.specs.Levels.{open_in, scope_in}
use Rattle.fc_levels.specs.Steps.{IsLevel, IsValidNode}
use Rattle.fc_levels.specs.declared.level.Level.{Level}
use Rattle.fc_jobs.specs.FacetFits.{AllFit, FacetFits}
use Rattle.fc_jobs.specs.Gathered.{IsCountedSoFar}
use Rattle.fc_jobs.specs.Pieces.{piece_of, pieces_in}
use Rattle.fc_jobs.specs.Scopes.{KeyFits}
use Rattle.fc_jobs.specs.Walked.{domain_set}
use Rattle.fc_jobs.proofs.CountedTallies.{counted_more}
use Rattle.fc_units.specs.Asked.{top_scope}
use Rattle.fc_units.specs.Stepping.{IsFacetStep, IsOneFurther, StandsAtFacet}
use Rattle.fc_units.specs.declared.jobs.FacetJob.{FacetJob}
use Rattle.fc_units.proofs.JobEnds.{sets_count}
use Rattle.fc_units.proofs.Segments.{all_here, base_here, facet_adds_up, facet_here, facet_stands, limits_here, no_further, one_further, piece_here, stands_at, within_list}

-- ---- sets
bound_at : (n long many segments : ℕ) → n < segments → long ≡ many → many ≡ segments → n < long
bound_at n long many segments h e k = omega (arith, h, e, k)

more_by_one : (at : ℕ) (xs : Sets) (x : List Bool) (ys : Sets) → at ≡ length xs → ys ≡ xs ++ x ∷ [] → length ys ≡ at + 1
more_by_one at xs x ys e is = ap length is ∙ omega (arith, e, length-append xs (x ∷ []))

-- ---- the innermost level
pub last_is : (levels : List Level) (l : Level) → drop (length levels - 1) levels ≡ l ∷ [] → levels ≡ take (length levels - 1) levels ++ l ∷ []
last_is levels l e = sym (take-append-drop (length levels - 1) levels) ∙ ap (λ xs. take (length levels - 1) levels ++ xs) e

-- ---- no segment is left
pub facet_kept : (s : Schema) (gs : List Segmented) (request : Request) (ask : Ask) (number : ℕ) (levels : List Level) (job : FacetJob) (at : ℕ) → at ≡ length job.domain.items → length gs ≤ at → StandsAtFacet s gs request ask number levels job → IsFacetStep s gs request ask number levels job job
facet_kept s gs request ask number levels job at count past st = record { same = refl; job = st.is_job; further = no_further (length gs) (length job.domain.items) (subst (λ n. length gs ≤ n) count past) }

-- ---- the job at a segment
module _ (s : Schema) (gs : List Segmented) (request : Request) (ask : Ask) (number : ℕ) (levels : List Level) (job : FacetJob) (at : ℕ) (count : at ≡ length job.domain.items) (g : Segmented) (rest : List Segmented) (here : drop at gs ≡ g ∷ rest) (st : StandsAtFacet s gs request ask number levels job) where
  abbrev r : definition.Request
  r = request_view request

  abbrev V : Pieces
  V = pieces_in gs

  abbrev f : Facet
  f = facet_view job.node.now

  abbrev kind : Kind
  kind = kind_view (kind_of job.node.now)

  abbrev ss : List Stat
  ss = stats_of (inner_view job.node.now)

  -- the scope of the bucket that is open
  abbrev o : Scope
  o = scope_in (top_scope r ask number) levels

  abbrev E : Sets
  E = domain_sets o V f (open_in V [] levels)

  pub facet_base : BaseFits g.texts r
  facet_base = base_here s gs request at g rest here st.can

  pub facet_limits : IsWithinLimits (g.blocks ∷ [])
  facet_limits = limits_here s gs request at g rest here st.can

  pub facet_node : FacetFits g.texts job.node.now
  facet_node = facet_here s gs request at g rest here st.can job.node.now st.is_job.node

  pub facet_stats : job.tally.stats ≡ ss
  facet_stats = st.is_job.counted.tally.stats

  level_fits : (l : Level) → IsLevel s V l → KeyFits g.texts l.node.now (key_view l.key)
  level_fits l v =
      let fits = facet_here s gs request at g rest here st.can l.node.now v.node in
      record { facet = fits.facet; change = fits.change; kind = fits.kind; key = v.key }

  all_levels_fit : (ls : List Level) → All (IsLevel s V) ls → All (λ (l : Level). KeyFits g.texts l.node.now (key_view l.key)) ls
  all_levels_fit [] a = All-nil (λ (l : Level). KeyFits g.texts l.node.now (key_view l.key))
  all_levels_fit (l ∷ ls) a = All-cons (λ (l : Level). KeyFits g.texts l.node.now (key_view l.key)) l ls (level_fits l (All-head (IsLevel s V) l ls a)) (all_levels_fit ls (All-tail (IsLevel s V) l ls a))

  -- the facets around are open in buckets of their own
  pub facet_levels : All (λ (l : Level). KeyFits g.texts l.node.now (key_view l.key)) levels
  facet_levels = all_levels_fit levels st.is_job.valid

  pub facet_nodes : AllFit g.texts r.nodes
  facet_nodes = all_here s gs request at g rest here st.can

  -- in the bucket that is open at the innermost level
  module _ (l : Level) (last : drop (length levels - 1) levels ≡ l ∷ []) where
    abbrev before : List Level
    before = take (length levels - 1) levels

    level : IsLevel s V l
    level = All-head (IsLevel s V) l [] (subst (All (IsLevel s V)) last (All-drop (IsLevel s V) (length levels - 1) levels st.is_job.valid))

    pub facet_around : FacetFits g.texts l.node.now
    facet_around = facet_here s gs request at g rest here st.can l.node.now level.node

    pub facet_key : IsTrue (is_key_of (kind_view (kind_of l.node.now)) (key_view l.key))
    facet_key = level.key

    pub facet_bound : at < length l.domain.items
    facet_bound = bound_at at (length l.domain.items) (length V) (length gs) (within_list at g gs rest here) (sets_count V l.domain.items level.sets) (length-map gs piece_of)

    module _ (set : List Bool) (is : set ≡ get_or l.domain.items at set) where
      abbrev behind : Sets
      behind = drop (suc at) l.domain.items

      next : drop at l.domain.items ≡ set ∷ behind
      next = stands_at l.domain.items at set facet_bound is

      pub facet_long : length set ≡ document_total g.blocks
      facet_long = (live_at at V (pieces_in rest) (piece_of g) l.domain.items behind set (piece_here s gs request at g rest here st.can) next level.sets).count

      abbrev docs : List Bool
      docs = domain_set o (piece_of g) f (bucket_set (kind_view (kind_of l.node.now)) (key_view l.key) g.blocks set)

      pub facet_add_up : BucketsAddUp kind job.tally.stats (places_on 0 g.blocks docs) job.tally.entries
      facet_add_up =
          subst (λ ts. BucketsAddUp kind ts (places_on 0 g.blocks docs) job.tally.entries) (sym facet_stats)
          (facet_adds_up s gs request at g rest here st.can o f levels before l (last_is levels l last) level set behind next kind ss job.domain.items job.tally (sym count) st.is_job.counted)

      -- one segment more
      module _ (after : FacetJob) (found : List Bool) (found_is : found ≡ docs) (node : after.node.now ≡ job.node.now) (domain_is : after.domain.items ≡ job.domain.items ++ found ∷ [])
          (collects : Collects kind job.tally.stats (places_on 0 g.blocks found) job.tally after.tally) where
        counted : IsCountedSoFar V E kind ss (job.domain.items ++ docs ∷ []) after.tally
        counted =
            counted_more V (pieces_in rest) E job.domain.items _ kind ss (piece_of g) docs job.tally after.tally (ap (λ n. drop n V) (sym count) ∙ piece_here s gs request at g rest here st.can)
            (ap (λ n. drop n E) (sym count) ∙ facet_stands s gs request at g rest here st.can o f levels before l (last_is levels l last) level set behind next) st.is_job.counted
            (subst (λ ts. Collects kind ts (places_on 0 g.blocks docs) job.tally after.tally) facet_stats (subst (λ (x : List Bool). Collects kind job.tally.stats (places_on 0 g.blocks x) job.tally after.tally) found_is collects))

        pub facet_stepped : IsFacetStep s gs request ask number levels job after
        facet_stepped = record {
          same = node;
          job = record {
            node = subst (IsValidNode s) (sym node) st.is_job.node;
            valid = st.is_job.valid;
            some = st.is_job.some;
            counted = subst (λ (m : Node). IsCountedSoFar V (domain_sets o V (facet_view m) (open_in V [] levels)) (kind_view (kind_of m)) (stats_of (inner_view m)) after.domain.items after.tally) (sym node)
                (subst (λ (d : Sets). IsCountedSoFar V E kind ss d after.tally) (sym (domain_is ∙ ap (λ x. job.domain.items ++ x ∷ []) found_is)) counted);
          };
          further = subst (λ n. IsOneFurther (length gs) n (length after.domain.items)) count
              (subst (λ n. IsOneFurther (length gs) at n) (sym (more_by_one at job.domain.items found after.domain.items count domain_is)) (one_further (length gs) at (within_list at g gs rest here)));
        }
