-- An answer from counts on that is partly built, over segments.
use Rattle.std.specs.Prelude.{◌≡◌, ℕ, ◌+◌, ◌*◌, ◌<◌, List, [], ◌∷◌, ◌++◌, drop, length, map}
use Rattle.fc_spec.specs.documents.Schema.{Schema}
use Rattle.fc_spec.specs.messages.Message.{first}
use Rattle.fc_spec.specs.requests.Request as definition
use Rattle.fc_spec.specs.requests.Request.{stats_of}
use Rattle.fc_partial.specs.BucketView.{message_view, node_view}
use Rattle.fc_partial.specs.StatsView.{stats_view}
use Rattle.fc_partial.specs.declared.bucket.PartialNode.{PartialNode}
use Rattle.fc_request.specs.FacetNode.{facet_view, kind_of, kind_view}
use Rattle.fc_request.specs.NodeView.{inner_view, nodes_view}
use Rattle.fc_request.specs.RequestView.{request_view}
use Rattle.fc_request.specs.declared.request.Request.{Request}
use Rattle.fc_partial.specs.declared.statistics.Stats.{Stats}
use Rattle.fc_segment.specs.Segmented.{Segmented}
use Rattle.fc_answers.specs.SetAnswer.{Pieces, Sets}
use Rattle.fc_jobs.specs.Gathered.{IsCountedSoFar}
use Rattle.fc_jobs.specs.Pieces.{pieces_in}
use Rattle.fc_levels.specs.Facets.{Nested, facet_count, facets_of, nested_view}
use Rattle.fc_levels.specs.Jobs.{units_each}
use Rattle.fc_levels.specs.Steps.{AreValidFacets, IsValidNode}
use Rattle.fc_units.specs.Built.{CanAnswer, IsTopJob}
use Rattle.fc_units.specs.LeastLists.{facet_sets, least_answer, least_lists, root_sets, root_stats}
use Rattle.fc_units.specs.declared.leasts.LeastBuilding.{LeastBuilding}
use Rattle.fc_units.specs.declared.leasts.LeastBuilding.TheVariants.{Root, Facets}
use Rattle.fc_units.specs.declared.leasts.LeastGone.{LeastGone}
use Rattle.fc_units.specs.declared.leasts.LeastGone.TheVariants.{On, Whole}
use Rattle.fc_units.specs.declared.leasts.ListJob.{ListJob}
use Rattle.fc_units.specs.declared.leasts.Lists.{Lists}

-- a facet's job, of which the first segments are done
pub record IsListJob (s : Schema) (r : definition.Request) (V : Pieces) (job : ListJob) : Type 0 where
  pub node : IsValidNode s job.node.now
  pub domain : Sets
  pub counted : IsCountedSoFar V (facet_sets r V (facet_view job.node.now)) (kind_view (kind_of job.node.now)) (stats_of (inner_view job.node.now)) domain job.tally
  pub reached : length domain ≡ job.at

-- the root's bucket is whole, and so are the first of its lists; those of these facets are left
pub record AreFirstLists (s : Schema) (r : definition.Request) (V : Pieces) (ns : List ℕ) (base : Sets) (stats : Stats) (done : List PartialNode) (left : List Nested) : Type 0 where
  pub base_is : base ≡ root_sets r V
  pub stats_are : stats_view stats ≡ root_stats r V
  pub lists : map node_view done ++ least_lists r V left (drop (length done) ns) ≡ least_lists r V (facets_of r.nodes) ns

pub record AreLists (s : Schema) (r : definition.Request) (V : Pieces) (ns : List ℕ) (l : Lists) : Type 0 where
  pub so_far : AreFirstLists s r V ns l.base.items l.stats l.done.items (nested_view l.job.node.now ∷ facets_of (nodes_view l.left.now))
  pub left : AreValidFacets s (nodes_view l.left.now)
  pub job : IsListJob s r V l.job

abbrev pub IsLeastJob : Schema → Request → Pieces → List ℕ → LeastBuilding → Type 0
IsLeastJob s request V ns (Root job) = IsTopJob s request V first 0 [] job
IsLeastJob s request V ns (Facets l) = AreLists s (request_view request) V ns l

-- the first lists of the answer are whole, and the next job is under way
pub record IsLeastBuilt (s : Schema) (segments : List Segmented) (request : Request) (ns : List ℕ) (b : LeastBuilding) : Type 0 where
  pub can : CanAnswer s segments request
  pub job : IsLeastJob s request (pieces_in segments) ns b

-- ---- units

-- how many jobs have ended, and how many segments of the one under way are done
abbrev pub jobs_ended : LeastBuilding → ℕ
jobs_ended (Root job) = 0
jobs_ended (Facets l) = length l.done.items + 1

abbrev pub least_done : LeastBuilding → ℕ
least_done (Root job) = job.at
least_done (Facets l) = l.job.at

-- how many jobs there are
abbrev pub least_jobs : definition.Request → ℕ
least_jobs r = facet_count r.nodes + 1

-- one unit more is done, where e jobs had ended and k segments of the next one were done
pub record IsOneMore (segments e k : ℕ) (b : LeastBuilding) : Type 0 where
  pub within : least_done b < units_each segments
  pub count : units_each segments * jobs_ended b + least_done b ≡ units_each segments * e + k + 1

-- a unit of it: it is partly built, or it is the answer and the unit was the last one
abbrev pub LeastUnitDone : Schema → List Segmented → Request → List ℕ → ℕ → ℕ → LeastGone → Type 0
LeastUnitDone s segments request ns e k (On b) = IsLeastBuilt s segments request ns b × IsOneMore (length segments) e k b
LeastUnitDone s segments request ns e k (Whole m) =
    (message_view m ≡ least_answer (request_view request) (pieces_in segments) ns) × (e + 1 ≡ least_jobs (request_view request)) × (k + 1 ≡ units_each (length segments))

-- what follows the end of a job, once so many have ended: the next one begins, or it is the answer
abbrev pub LeastGoesOn : Schema → List Segmented → Request → List ℕ → ℕ → LeastGone → Type 0
LeastGoesOn s segments request ns e (On b) = IsLeastBuilt s segments request ns b × (least_done b ≡ 0) × (jobs_ended b ≡ e)
LeastGoesOn s segments request ns e (Whole m) = (message_view m ≡ least_answer (request_view request) (pieces_in segments) ns) × (e ≡ least_jobs (request_view request))
