-- What follows the end of a job.
use Rattle.std.proofs.Common.{◌≡◌, ℕ, ◌+◌, ◌≤◌, List, [], ◌∷◌, ◌++◌, length, map, Bool, Bor, refl, sym, ◌∙◌, ap, subst}
use Rattle.std.specs.declared.alloc.Global.{Global}
use Rattle.std.specs.declared.vec.Vec.{Vec}
use Rattle.std.proofs.lemmas.List.{append_assoc, map-append}
use Rattle.fc_spec.specs.documents.Schema.{Schema}
use Rattle.fc_spec.specs.messages.Message.{Ask}
use Rattle.fc_spec.specs.requests.Request.{stats_of}
use Rattle.fc_partial.specs.BucketView.{bucket_view, linked, node_view}
use Rattle.fc_partial.specs.declared.bucket.PartialBucket.{PartialBucket}
use Rattle.fc_partial.specs.declared.bucket.PartialNode.{PartialNode}
use Rattle.fc_request.specs.FacetNode.{facet_view, kind_of, kind_view}
use Rattle.fc_request.specs.NodeView.{inner_view}
use Rattle.fc_request.specs.RequestView.{request_view}
use Rattle.fc_request.specs.declared.node.Node.{Node}
use Rattle.fc_request.specs.declared.request.Request.{Request}
use Rattle.fc_segment.specs.Segmented.{Segmented}
use Rattle.fc_answers.specs.SetAnswer.{Pieces, Scope, Sets, base_of, domain_sets}
use Rattle.fc_levels.specs.Facets.{nested_view}
use Rattle.fc_levels.specs.Jobs.{openings}
use Rattle.fc_levels.specs.Levels.{ended_in, open_in, row_in, scope_in}
use Rattle.fc_levels.specs.Steps.{IsValidNode}
use Rattle.fc_levels.specs.declared.level.Level.{Level}
use Rattle.fc_levels.specs.declared.level.Next.TheVariants.{Job, Whole}
use Rattle.fc_jobs.specs.Gathered.{AreFirst, IsCountedSoFar}
use Rattle.fc_jobs.proofs.CountedTallies.{counted_none}
use Rattle.fc_jobs.specs.Pieces.{pieces_in}
use Rattle.fc_units.specs.Asked.{FitsTop, HasSameDomain, asked_count, top_scope}
use Rattle.fc_units.specs.Built.{CanAnswer, IsTopJob, IsUnder, zeroed}
use Rattle.fc_units.specs.Going.{AreFront, Begins, Ends, GoesOn}
use Rattle.fc_units.specs.declared.going.Gone.{Gone}
use Rattle.fc_units.specs.declared.going.Gone.TheVariants as gone
use Rattle.fc_units.specs.declared.jobs.FacetJob.{FacetJob}
use Rattle.fc_units.specs.declared.jobs.Job.TheVariants.{Facet, Top}
use Rattle.fc_units.specs.declared.jobs.TopJob.{TopJob}
use Rattle.fc_units.proofs.Begun.{same_fits}
use Rattle.fc_units.proofs.Fronts.{all_front, next_front, openings_linked}

-- ---- no bucket is open

-- the next top bucket's job begins
pub begins_top : (s : Schema) (segments : List Segmented) (request : Request) (ask : Ask) (roots : Vec (List Bool) Global) (buckets : Vec PartialBucket Global) (levels : Vec Level Global) (job : TopJob) → CanAnswer s segments request
    → AreFirst (map (base_of (request_view request) []) (pieces_in segments)) roots.items → AreFront (request_view request) (pieces_in segments) ask buckets.items → levels.items ≡ [] → job.at ≡ 0
    → IsTopJob s request (pieces_in segments) ask (length buckets.items) roots.items job
    → Begins s segments request ask buckets.items (gone.On (record { roots = roots; buckets = buckets; levels = levels; job = Top job }) 0)
begins_top s segments request ask roots buckets levels job can based front none at is = (
  record { can = can; roots = based; front = front; job = (is, none) },
  at,
  refl,
  refl,
)

-- there is none
pub begins_none : (s : Schema) (segments : List Segmented) (request : Request) (ask : Ask) (buckets : Vec PartialBucket Global) → AreFront (request_view request) (pieces_in segments) ask buckets.items → asked_count ask ≤ length buckets.items
    → Begins s segments request ask buckets.items (gone.Whole (record { buckets = buckets }))
begins_none s segments request ask buckets front h =
    let whole = all_front (request_view request) (pieces_in segments) ask buckets.items front h in
    (whole, ap openings (sym whole))

-- ---- the job of a facet begins
pub goes_on : (s : Schema) (segments : List Segmented) (request : Request) (ask : Ask) (before : List ℕ) (k : ℕ) (n : Bor Node) (roots : Vec (List Bool) Global) (buckets : Vec PartialBucket Global) (levels : Vec Level Global) (job : FacetJob)
    → CanAnswer s segments request → AreFirst (map (base_of (request_view request) []) (pieces_in segments)) roots.items → AreFront (request_view request) (pieces_in segments) ask buckets.items
    → job.node.now ≡ n.now → job.domain.items ≡ [] → job.tally ≡ record { stats = stats_of (inner_view n.now); entries = [] } → Ends s segments request ask (length buckets.items) before levels.items (Job n k)
    → GoesOn s segments request ask (openings (linked (map bucket_view buckets.items)) ++ before) k (gone.On (record { roots = roots; buckets = buckets; levels = levels; job = Facet job }) k)
goes_on s segments request ask before k n roots buckets levels job can based front node domain tally e = (
  record {
    can = can;
    roots = based;
    front = front;
    job = (
      record {
        node = subst (IsValidNode s) (sym node) e.0;
        valid = e.1;
        some = e.2;
        counted = counted;
      },
      subst (λ m. IsUnder request V ask (length buckets.items) levels.items (row_in (scope_in o levels.items) V (nested_view m) (open_in V [] levels.items))) (sym node) e.3,
    );
  },
  ap length domain,
  refl,
  ap (λ m. openings (linked (map bucket_view buckets.items)) ++ zeroed (ended_in o V levels.items (row_in (scope_in o levels.items) V (nested_view m) (open_in V [] levels.items)))) node
      ∙ ap (λ l. openings (linked (map bucket_view buckets.items)) ++ l) e.4 ∙ sym (append_assoc (openings (linked (map bucket_view buckets.items))) before (k ∷ [])),
)
  where
    o : Scope
    o = top_scope (request_view request) ask (length buckets.items)

    V : Pieces
    V = pieces_in segments

    D : Node → Sets
    D m = domain_sets (scope_in o levels.items) V (facet_view m) (open_in V [] levels.items)

    counted : IsCountedSoFar V (D job.node.now) (kind_view (kind_of job.node.now)) (stats_of (inner_view job.node.now)) job.domain.items job.tally
    counted = subst (λ d. IsCountedSoFar V (D job.node.now) (kind_view (kind_of job.node.now)) (stats_of (inner_view job.node.now)) d job.tally) (sym domain)
        (subst (IsCountedSoFar V (D job.node.now) (kind_view (kind_of job.node.now)) (stats_of (inner_view job.node.now)) []) (sym (tally ∙ ap (λ m. record { stats = stats_of (inner_view m); entries = [] }) (sym node)))
        (counted_none V (D job.node.now) (kind_view (kind_of job.node.now)) (stats_of (inner_view job.node.now))))

-- ---- a top bucket is whole
module _ (s : Schema) (segments : List Segmented) (request : Request) (ask : Ask) (before : List ℕ) (p : PartialNode) (domain : Vec (List Bool) Global) (buckets : List PartialBucket) (levels : List Level) (more : List PartialBucket)
    (is : node_view p ≡ linked (map bucket_view more)) (front : AreFront (request_view request) (pieces_in segments) ask buckets) (e : Ends s segments request ask (length buckets) before levels (Whole p domain)) where
  pub whole_front : AreFront (request_view request) (pieces_in segments) ask (buckets ++ more) × (length (buckets ++ more) ≡ length buckets + 1)
  whole_front = next_front (request_view request) (pieces_in segments) ask e.0 e.1 buckets more front e.3 (sym is ∙ e.4)

  pub whole_fits : HasSameDomain ask (length (buckets ++ more)) → FitsTop (nested_view request.root) (request_view request) (pieces_in segments) ask (length (buckets ++ more)) domain.items
  whole_fits same =
      let count = whole_front.1 in
      subst (λ i. FitsTop (nested_view request.root) (request_view request) (pieces_in segments) ask i domain.items) (sym count)
      (same_fits (nested_view request.root) (request_view request) (pieces_in segments) ask (length buckets) e.0 domain.items e.2 e.5 (subst (HasSameDomain ask) count same))

  ended : openings (linked (map bucket_view (buckets ++ more))) ≡ (openings (linked (map bucket_view buckets)) ++ before) ++ 0 ∷ []
  ended =
      ap (λ bs. openings (linked bs)) (map-append bucket_view buckets more) ∙ openings_linked (map bucket_view buckets) (map bucket_view more)
      ∙ ap (λ ps. openings (linked (map bucket_view buckets)) ++ openings ps) (sym is) ∙ ap (λ l. openings (linked (map bucket_view buckets)) ++ l) e.6
      ∙ sym (append_assoc (openings (linked (map bucket_view buckets))) before (0 ∷ []))

  pub whole_goes_on : (g : Gone) → Begins s segments request ask (buckets ++ more) g → GoesOn s segments request ask (openings (linked (map bucket_view buckets)) ++ before) 0 g
  whole_goes_on (gone.On after opened) b = (b.0, b.1, b.2, b.3 ∙ ended)
  whole_goes_on (gone.Whole m) b = (b.0, b.1 ∙ ended)
