-- The end of a top bucket's job, and of a facet's.
use Rattle.std.proofs.Common.{◌≡◌, ℕ, ◌+◌, ◌<◌, ◌≤◌, List, [], ◌∷◌, ◌++◌, length, All, Bool, Option, None, Some, refl, sym, ◌∙◌, ap, subst, arith, append-nil, length-append}
use Rattle.std.proofs.lemmas.List.{drop_all, length-map}
use Rattle.std.proofs.lemmas.List.Elements.{All-head, All-tail}
use Rattle.fc_spec.specs.documents.Live.{HasWholeBlocks}
use Rattle.fc_spec.specs.documents.Schema.{Schema}
use Rattle.fc_spec.specs.documents.Sets.{places_at}
use Rattle.fc_spec.specs.documents.Totals.{document_total}
use Rattle.fc_spec.specs.messages.Message.{Ask, first, more, Partials, no_partials, partial, Way}
use Rattle.fc_spec.specs.messages.Target.{facet_at, nodes_in}
use Rattle.fc_spec.specs.requests.Buckets.{Key}
use Rattle.fc_spec.specs.requests.Paths.{at_root}
use Rattle.fc_spec.specs.requests.Request as definition
use Rattle.fc_spec.specs.requests.Request.{Facet as DefFacet, Nodes, stats_of}
use Rattle.fc_spec.specs.requests.Statistics.{stats_over}
use Rattle.fc_partial.specs.BucketView.{node_view}
use Rattle.fc_partial.specs.StatsView.{stats_view}
use Rattle.fc_partial.specs.View.{key_view}
use Rattle.fc_request.specs.FacetNode.{facet_view, kind_of, kind_view}
use Rattle.fc_request.specs.NodeView.{inner_view}
use Rattle.fc_request.specs.RequestView.{request_view}
use Rattle.fc_request.specs.declared.request.Request.{Request}
use Rattle.fc_segment.specs.Segmented.{Segmented}
use Rattle.fc_answers.specs.LiveSets.{AreLive, IsLive}
use Rattle.fc_answers.specs.SetAnswer.{AreWhole, Piece, Pieces, Scope, Sets, base_of, bucket_sets, domain_sets, inside, scope_on, set_rows, whole_world}
use Rattle.fc_answers.proofs.LiveSets.{base_live, bucket_live, buckets_live, domain_live, domains_live, live_are_sets, nothing_live}
use Rattle.fc_levels.specs.Facets.{Nested, nested_view}
use Rattle.fc_levels.specs.Jobs.{openings, openings_of, units_each}
use Rattle.fc_levels.specs.Levels.{ended_in, open_in, open_sets, outermost_domain, plug, row_in, row_over, scope_in}
use Rattle.fc_levels.specs.Steps.{Goes, IsLevel, IsNextOf}
use Rattle.fc_levels.specs.declared.level.Level.{Level}
use Rattle.fc_levels.specs.declared.level.Next.{Next}
use Rattle.fc_levels.specs.declared.level.Next.TheVariants.{Job, Whole}
use Rattle.fc_jobs.specs.Gathered.{AreFirst, IsCountedSoFar}
use Rattle.fc_jobs.specs.Pieces.{piece_of, pieces_in}
use Rattle.fc_jobs.specs.Walked.{domain_set, scope_into, set_in, walked}
use Rattle.fc_jobs.proofs.TopBuckets.{bucket_all}
use Rattle.fc_units.specs.Asked.{path_at, top_bucket, top_domain, top_scope, top_set}
use Rattle.fc_units.specs.Built.{IsFacetJob, IsUnder, row_under_way, zeroed}
use Rattle.fc_units.specs.Going.{Ends, known_already}
use Rattle.fc_units.specs.Stepping.{IsOneFurther, StandsAtTop}
use Rattle.fc_units.specs.declared.jobs.FacetJob.{FacetJob}
use Rattle.fc_units.specs.declared.jobs.TopJob.{TopJob}
use Rattle.fc_units.proofs.Opening.{zeroed-append}

-- ---- sets for each segment

-- those that are first are all, where there are so many
pub all_there : (D domain : Sets) → AreFirst D domain → length D ≤ length domain → domain ≡ D
all_there D domain front h = sym (append-nil domain) ∙ ap (λ l. domain ++ l) (sym (drop_all (length domain) D h)) ∙ front

-- in a segment in which each block is live whole or not at all, sets along ways are of live documents
module _ (p : Piece) (are_whole : HasWholeBlocks p.blocks p.live) where
  set_in_live : (o : Scope) (key : Key) (set : List Bool) (f : Option (DefFacet × Nodes)) → IsLive p set → IsLive p (set_in o p key set f)
  set_in_live o key set None h = nothing_live p are_whole
  set_in_live o key set (Some f) h = bucket_live f.0.kind key p (domain_set o p f.0 set) (domain_live o f.0 p set are_whole h)

  walked_live : (o : Scope) (nodes : Nodes) (set : List Bool) (way : Way) → IsLive p set → IsLive p (walked o p nodes set way)
  walked_live o nodes set [] h = h
  walked_live o nodes set (step ∷ way) h =
      walked_live (scope_into o step.key (facet_at step.node nodes)) (nodes_in (facet_at step.node nodes)) (set_in o p step.key set (facet_at step.node nodes)) way (set_in_live o step.key set (facet_at step.node nodes) h)

  pub top_live : (r : definition.Request) (ask : Ask) (i : ℕ) (f : DefFacet) → IsLive p (top_set r ask i f p)
  top_live r first i f = base_live r [] p are_whole
  top_live r (more wants) i f =
      domain_live (top_scope r (more wants) i) f p (walked (scope_on r at_root) p r.nodes (base_of r [] p) (path_at wants i)) are_whole
      (walked_live (scope_on r at_root) r.nodes (base_of r [] p) (path_at wants i) (base_live r [] p are_whole))

pub top_are_live : (r : definition.Request) (V : Pieces) (ask : Ask) (i : ℕ) (f : DefFacet) → AreWhole V → AreLive V (top_domain r V ask i f)
top_are_live r [] ask i f are_whole = tt
top_are_live r (p ∷ V) ask i f are_whole = (top_live p (All-head (λ (q : Piece). HasWholeBlocks q.blocks q.live) p V are_whole) r ask i f, top_are_live r V ask i f (All-tail (λ (q : Piece). HasWholeBlocks q.blocks q.live) p V are_whole))

pub sets_count : (V : Pieces) (sets : Sets) → AreLive V sets → length sets ≡ length V
sets_count V sets are = sym (length-map sets length) ∙ ap length (live_are_sets V sets are) ∙ length-map (whole_world V) document_total ∙ length-map V (λ p. p.blocks)

-- ---- levels

some_levels : (o : Scope) (V : Pieces) (levels : List Level) (ps : Partials) (xs : List ℕ) (k : ℕ) → ended_in o V levels ps ≡ xs ++ k ∷ [] → 0 < length levels
some_levels o V [] ps xs k e = absurd (omega (arith, ap length e, length-append xs (k ∷ [])))
some_levels o V (l ∷ levels) ps xs k e = omega arith

same_outermost : (D E : Sets) (levels : List Level) → 0 < length levels → outermost_domain D levels ≡ outermost_domain E levels
same_outermost D E [] h = absurd (omega (arith, h))
same_outermost D E (l ∷ levels) h = refl

pub some_ended : (o : Scope) (V : Pieces) (levels : List Level) (ps : Partials) → 0 < length levels → 0 < length (ended_in o V levels ps)
some_ended o V [] ps h = absurd (omega (arith, h))
some_ended o V (l ∷ levels) ps h = omega arith

-- a top bucket by itself: its own job is the first, and opens none that was not known
one_zeroed : (o : Scope) (V : Pieces) (n : Nested) (k : Key) (D : Sets) (ps : Partials) → ps ≡ top_bucket o V n k D → openings ps ≡ zeroed (openings_of ps)
one_zeroed o V n k D ps e = ap openings e ∙ ap (λ (qs : Partials). zeroed (openings_of qs)) (sym e)

-- ---- units

pub last_unit : (m k at : ℕ) → k < units_each m → IsOneFurther m k at → m ≤ at → k + 1 ≡ units_each m
last_unit m k at h f past = grind (arith, h, f.more, f.none, past)

pub within_unit : (m k at : ℕ) → IsOneFurther m k at → at < m → (at ≡ k + 1) × (at < units_each m)
within_unit m k at f h = (grind (arith, f.more, f.none, h), omega (arith, h))

-- ---- a top bucket's job has ended
module _ (s : Schema) (segments : List Segmented) (request : Request) (ask : Ask) (i : ℕ) (roots : Sets) (job : TopJob) (st : StandsAtTop s segments request ask i roots job) (past : length segments ≤ job.at) where
  abbrev pub r : definition.Request
  r = request_view request

  abbrev pub V : Pieces
  V = pieces_in segments

  abbrev o : Scope
  o = top_scope r ask i

  abbrev pub n : Nested
  n = nested_view job.node.now

  abbrev key : Key
  key = key_view job.key

  abbrev pub D : Sets
  D = top_domain r V ask i n.0

  sets : AreLive V D
  sets = top_are_live r V ask i n.0 st.can.whole

  count : length D ≡ length segments
  count = sets_count V D sets ∙ length-map segments piece_of

  pub whole : job.domain.items ≡ D
  whole = all_there D job.domain.items st.is_job.domain (omega (arith, count, past, st.is_job.reached))

  pub top_sets : AreLive V job.domain.items
  top_sets = subst (AreLive V) (sym whole) sets

  at_end : job.at ≡ length V
  at_end = omega (arith, past, st.is_job.reached, ap length whole, count, length-map segments piece_of)

  stats : stats_view job.over ≡ stats_over (stats_of n.1) (places_at (whole_world V) (bucket_sets V n.0.kind key D))
  stats = bucket_all V D n.0.kind (stats_of n.1) key job.at (stats_view job.over) (live_are_sets V D sets) at_end st.is_job.over

  pub top_stats : stats_view job.over ≡ stats_over (stats_of n.1) (places_at (whole_world V) (bucket_sets V n.0.kind key job.domain.items))
  top_stats = stats ∙ ap (λ E. stats_over (stats_of n.1) (places_at (whole_world V) (bucket_sets V n.0.kind key E))) (sym whole)

  -- what the levels are told of
  abbrev bucket : Partials
  bucket = partial key (stats_view job.over) (set_rows (inside o n.0 key) V n.1 (bucket_sets V n.0.kind key job.domain.items)) no_partials

  bucket_is : bucket ≡ top_bucket o V n key D
  bucket_is = λ j. partial key (stats j) (set_rows (inside o n.0 key) V n.1 (bucket_sets V n.0.kind key (whole j))) no_partials

  pub top_ends : (levels : List Level) (next : Next) → Goes o V [] levels job.domain.items bucket next → All (IsLevel s V) levels → IsNextOf s V next → Ends s segments request ask i [] levels (known_already next)
  top_ends levels (Job m k) g kept valid =
      let some = some_levels o V levels (row_in (scope_in o levels) V (nested_view m.now) (open_in V [] levels)) [] k g.2 in (
        valid,
        kept,
        some,
        record {
          facet = n;
          key = key;
          asked = st.is_job.asked;
          top = st.is_job.top;
          bucket = g.1 ∙ bucket_is;
          domain = same_outermost [] job.domain.items levels some ∙ g.3 ∙ whole;
        },
        ap zeroed g.2,
      )
  top_ends levels (Whole p domain) g kept valid = (n, key, st.is_job.asked, st.is_job.top, g.1 ∙ bucket_is, g.3 ∙ whole, one_zeroed o V n key D (node_view p) (g.1 ∙ bucket_is) ∙ ap zeroed g.2)

-- ---- a facet's job has ended
module _ (s : Schema) (segments : List Segmented) (request : Request) (ask : Ask) (i : ℕ) (levels : List Level) (job : FacetJob) (is : IsFacetJob s (top_scope (request_view request) ask i) (pieces_in segments) levels job)
    (under : IsUnder request (pieces_in segments) ask i levels (row_under_way (top_scope (request_view request) ask i) (pieces_in segments) levels job)) (are_whole : AreWhole (pieces_in segments)) (past : length segments ≤ length job.domain.items) where
  abbrev q : definition.Request
  q = request_view request

  abbrev u : Scope
  u = top_scope q ask i

  abbrev W : Pieces
  W = pieces_in segments

  abbrev m : Nested
  m = nested_view job.node.now

  abbrev E : Sets
  E = domain_sets (scope_in u levels) W m.0 (open_in W [] levels)

  open_are : (ls : List Level) (D : Sets) → AreLive W D → All (IsLevel s W) ls → AreLive W (open_in W D ls)
  open_are [] D are all = are
  open_are (l ∷ ls) D are all = open_are ls (open_sets W l) (buckets_live W (facet_view l.node.now).kind (key_view l.key) l.domain.items (All-head (IsLevel s W) l ls all).sets) (All-tail (IsLevel s W) l ls all)

  open_top_are : (ls : List Level) → 0 < length ls → All (IsLevel s W) ls → AreLive W (open_in W [] ls)
  open_top_are [] h all = absurd (omega (arith, h))
  open_top_are (l ∷ ls) h all = open_are ls (open_sets W l) (buckets_live W (facet_view l.node.now).kind (key_view l.key) l.domain.items (All-head (IsLevel s W) l ls all).sets) (All-tail (IsLevel s W) l ls all)

  facet_are_live : AreLive W E
  facet_are_live = domains_live (scope_in u levels) W m.0 (open_in W [] levels) are_whole (open_top_are levels is.some is.valid)

  facet_whole : job.domain.items ≡ E
  facet_whole = all_there E job.domain.items is.counted.first (omega (arith, sets_count W E facet_are_live, length-map segments piece_of, past))

  pub facet_sets : AreLive W job.domain.items
  facet_sets = subst (AreLive W) (sym facet_whole) facet_are_live

  pub facet_counted : IsCountedSoFar W job.domain.items (kind_view (kind_of job.node.now)) (stats_of (inner_view job.node.now)) job.domain.items job.tally
  facet_counted = subst (λ D. IsCountedSoFar W D (kind_view (kind_of job.node.now)) (stats_of (inner_view job.node.now)) job.domain.items job.tally) (sym facet_whole) is.counted

  list_is : row_over (scope_in u levels) W m job.domain.items ≡ row_under_way u W levels job
  list_is = ap (row_over (scope_in u levels) W m) facet_whole

  pub facet_ends : (after : List Level) (next : Next) → Goes u W levels after job.domain.items (row_over (scope_in u levels) W m job.domain.items) next → All (IsLevel s W) after → IsNextOf s W next
      → Ends s segments request ask i (zeroed (ended_in u W levels (row_under_way u W levels job))) after next
  facet_ends after (Job x k) g kept valid =
      let some = some_levels u W after (row_in (scope_in u after) W (nested_view x.now) (open_in W [] after)) (ended_in u W levels (row_over (scope_in u levels) W m job.domain.items)) k g.2 in (
        valid,
        kept,
        some,
        record {
          facet = under.facet;
          key = under.key;
          asked = under.asked;
          top = under.top;
          bucket = g.1 ∙ ap (plug u W levels) list_is ∙ under.bucket;
          domain = same_outermost [] job.domain.items after some ∙ g.3 ∙ same_outermost job.domain.items [] levels is.some ∙ under.domain;
        },
        ap zeroed (g.2 ∙ ap (λ ps. ended_in u W levels ps ++ k ∷ []) list_is) ∙ zeroed-append (ended_in u W levels (row_under_way u W levels job)) (k ∷ []) (some_ended u W levels (row_under_way u W levels job) is.some),
      )
  facet_ends after (Whole list domain) g kept valid =
      let bucket = g.1 ∙ ap (plug u W levels) list_is ∙ under.bucket in (
        under.facet,
        under.key,
        under.asked,
        under.top,
        bucket,
        g.3 ∙ same_outermost job.domain.items [] levels is.some ∙ under.domain,
        one_zeroed u W under.facet under.key (top_domain q W ask i under.facet.0) (node_view list) bucket
            ∙ ap zeroed (g.2 ∙ ap (λ ps. ended_in u W levels ps ++ 0 ∷ []) list_is) ∙ zeroed-append (ended_in u W levels (row_under_way u W levels job)) (0 ∷ []) (some_ended u W levels (row_under_way u W levels job) is.some),
      )
