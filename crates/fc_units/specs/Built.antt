-- An answer that is partly built, over segments.
use Rattle.std.specs.Prelude.{◌≡◌, ℕ, ◌+◌, ◌*◌, ◌<◌, ◌≤◌, List, [], ◌∷◌, ◌++◌, length, map, All, IsTrue}
use Rattle.fc_spec.specs.documents.Schema.{Schema, texts_held}
use Rattle.fc_spec.specs.messages.Message as message
use Rattle.fc_spec.specs.messages.Message.{Partials}
use Rattle.fc_spec.specs.requests.Buckets.{Key, is_key_of}
use Rattle.fc_spec.specs.requests.Request.{stats_of}
use Rattle.fc_spec.specs.requests.ValidRequests.{IsSearchable}
use Rattle.fc_spec.specs.scripts.WorldLimits.{IsWithinLimits}
use Rattle.fc_spec.specs.words.Lists.{joined}
use Rattle.fc_base.specs.StatisticView.{stat_view}
use Rattle.fc_partial.specs.BucketView.{bucket_view, linked}
use Rattle.fc_partial.specs.StatsView.{stats_view}
use Rattle.fc_partial.specs.View.{key_view}
use Rattle.fc_partial.specs.declared.bucket.PartialBucket.{PartialBucket}
use Rattle.fc_request.specs.FacetNode.{facet_view, kind_of, kind_view}
use Rattle.fc_request.specs.NodeView.{inner_view}
use Rattle.fc_request.specs.RequestView.{IsRoot, request_view}
use Rattle.fc_request.specs.declared.request.Request.{Request}
use Rattle.fc_segment.specs.Segmented.{Segmented}
use Rattle.fc_answers.specs.SetAnswer.{AreWhole, Pieces, Scope, Sets, base_of, domain_sets, live_world, set_answer}
use Rattle.fc_levels.specs.Facets.{Nested, nested_view}
use Rattle.fc_levels.specs.Jobs.{openings, units_each}
use Rattle.fc_levels.specs.Levels.{ended_in, open_in, outermost_domain, plug, put, row_in, scope_in}
use Rattle.fc_levels.specs.Steps.{IsLevel, IsValidNode}
use Rattle.fc_levels.specs.declared.level.Level.{Level}
use Rattle.fc_jobs.specs.Gathered.{AreFirst, AreSoFar, IsCountedSoFar}
use Rattle.fc_jobs.specs.Pieces.{pieces_in}
use Rattle.fc_units.specs.Asked.{IsAskedFacet, IsTop, answer_from, asked_key, top_bucket, top_domain, top_scope}
use Rattle.fc_units.specs.declared.building.Building.{Building}
use Rattle.fc_units.specs.declared.jobs.FacetJob.{FacetJob}
use Rattle.fc_units.specs.declared.jobs.Job.{Job}
use Rattle.fc_units.specs.declared.jobs.Job.TheVariants.{Top, Facet}
use Rattle.fc_units.specs.declared.jobs.TopJob.{TopJob}

-- what segments and a request must be for the work to be done
pub record CanAnswer (s : Schema) (segments : List Segmented) (request : Request) : Type 0 where
  pub columns : All (λ g. g.texts ≡ texts_held s.fields) segments
  pub whole : AreWhole (pieces_in segments)
  pub each : All (λ g. IsWithinLimits (g.blocks ∷ [])) segments
  pub limits : IsWithinLimits (joined (live_world (pieces_in segments)) ∷ [])
  pub root : IsRoot request.root
  pub valid : IsSearchable s (request_view request)

-- the list of the facet under way, in the bucket that is open
abbrev pub row_under_way : Scope → Pieces → List Level → FacetJob → Partials
row_under_way o V levels job = row_in (scope_in o levels) V (nested_view job.node.now) (open_in V [] levels)

-- the list with a number without its first
abbrev pub zeroed : List ℕ → List ℕ
zeroed [] = []
zeroed (x ∷ xs) = 0 ∷ xs

-- for each job that has ended, how many jobs are known from its end on; those in a top bucket are known from the start
abbrev pub ended : Scope → Pieces → List PartialBucket → List Level → Job → List ℕ
ended o V buckets levels (Top job) = openings (linked (map bucket_view buckets))
ended o V buckets levels (Facet job) = openings (linked (map bucket_view buckets)) ++ zeroed (ended_in o V levels (row_under_way o V levels job))

-- how many segments of the job under way are done
abbrev pub done_in : Job → ℕ
done_in (Top job) = job.at
done_in (Facet job) = length job.domain.items

-- a top bucket's job, of which the first segments are done: that of the bucket with this number
pub record IsTopJob (s : Schema) (request : Request) (V : Pieces) (ask : message.Ask) (number : ℕ) (roots : Sets) (job : TopJob) : Type 0 where
  pub node : IsValidNode s job.node.now
  pub asked : IsAskedFacet (nested_view request.root) (request_view request) ask number (nested_view job.node.now)
  pub key : key_view job.key ≡ asked_key ask number
  pub is_key : IsTrue (is_key_of (kind_view (kind_of job.node.now)) (key_view job.key))
  pub top : IsTop (request_view request) V ask number (nested_view job.node.now) (key_view job.key)
  pub domain : AreFirst (top_domain (request_view request) V ask number (facet_view job.node.now)) job.domain.items
  pub reached : job.at ≤ length job.domain.items
  pub stats : map stat_view job.stats.items ≡ stats_of (inner_view job.node.now)
  pub over : AreSoFar V (top_domain (request_view request) V ask number (facet_view job.node.now)) (kind_view (kind_of job.node.now)) (stats_of (inner_view job.node.now)) (key_view job.key) job.at (stats_view job.over)

-- a facet's job, of which the first segments are done, in the bucket that is open; o is the scope around the levels
pub record IsFacetJob (s : Schema) (o : Scope) (V : Pieces) (levels : List Level) (job : FacetJob) : Type 0 where
  pub node : IsValidNode s job.node.now
  pub valid : All (IsLevel s V) levels
  pub some : 0 < length levels
  pub counted : IsCountedSoFar V (domain_sets (scope_in o levels) V (facet_view job.node.now) (open_in V [] levels)) (kind_view (kind_of job.node.now)) (stats_of (inner_view job.node.now)) job.domain.items job.tally

-- the levels, once the facet under way in them has its list, are the top bucket with this number
pub record IsUnder (request : Request) (V : Pieces) (ask : message.Ask) (number : ℕ) (levels : List Level) (list : Partials) : Type 0 where
  pub facet : Nested
  pub key : Key
  pub asked : IsAskedFacet (nested_view request.root) (request_view request) ask number facet
  pub top : IsTop (request_view request) V ask number facet key
  pub bucket : plug (top_scope (request_view request) ask number) V levels list ≡ top_bucket (top_scope (request_view request) ask number) V facet key (top_domain (request_view request) V ask number facet.0)
  pub domain : outermost_domain [] levels ≡ top_domain (request_view request) V ask number facet.0

abbrev pub IsJob : Schema → Request → Pieces → message.Ask → ℕ → Sets → List Level → Job → Type 0
IsJob s request V ask number roots levels (Top job) = IsTopJob s request V ask number roots job × (levels ≡ [])
IsJob s request V ask number roots levels (Facet job) = IsFacetJob s (top_scope (request_view request) ask number) V levels job × IsUnder request V ask number levels (row_under_way (top_scope (request_view request) ask number) V levels job)

-- the whole buckets are the first of the answer, and the next one is under way
pub record IsBuilt (s : Schema) (segments : List Segmented) (request : Request) (ask : message.Ask) (b : Building) : Type 0 where
  pub can : CanAnswer s segments request
  pub roots : AreFirst (map (base_of (request_view request) []) (pieces_in segments)) b.roots.items
  pub front : put (map bucket_view b.buckets.items) (answer_from (request_view request) (pieces_in segments) ask (length b.buckets.items)) ≡ set_answer (request_view request) (pieces_in segments) ask
  pub job : IsJob s request (pieces_in segments) ask (length b.buckets.items) b.roots.items b.levels.items b.job

-- so many units are done
pub record IsCountedUp (segments : List Segmented) (request : Request) (ask : message.Ask) (b : Building) (done : ℕ) : Type 0 where
  pub within : done_in b.job < units_each (length segments)
  pub count : done ≡ units_each (length segments) * length (ended (top_scope (request_view request) ask (length b.buckets.items)) (pieces_in segments) b.buckets.items b.levels.items b.job) + done_in b.job
