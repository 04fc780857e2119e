-- What follows a unit of an answer from counts on.
use Rattle.std.proofs.Common.{◌≡◌, ℕ, ◌+◌, ◌<◌, ◌≤◌, List, [], ◌∷◌, ◌++◌, length, drop, All, IsTrue, refl, sym, ◌∙◌, ap, subst, arith}
use Rattle.std.specs.Prelude.{Result, Ok, Err, IfOk}
use Rattle.std.specs.Map.{keys_of}
use Rattle.fc_base.specs.declared.error.WantMemory.{WantMemory}
use Rattle.fc_spec.specs.documents.Schema.{Schema}
use Rattle.fc_spec.specs.messages.Message.{first}
use Rattle.fc_spec.specs.messages.TopRounds.{first_number}
use Rattle.fc_spec.specs.requests.Buckets.{is_key_of}
use Rattle.fc_spec.specs.requests.Request as definition
use Rattle.fc_spec.specs.requests.Request.{Nodes, stats_of}
use Rattle.fc_partial.specs.BucketView.{bare, buckets_view, node_view}
use Rattle.fc_partial.specs.Tallying.{IsTally}
use Rattle.fc_partial.specs.declared.bucket.PartialBucket.{PartialBucket}
use Rattle.fc_partial.specs.declared.bucket.PartialNode.{PartialNode}
use Rattle.fc_partial.specs.declared.statistics.Stats.{Stats}
use Rattle.fc_request.specs.FacetNode.{facet_view, kind_of, kind_view}
use Rattle.fc_request.specs.NodeView.{inner_view, nodes_view}
use Rattle.fc_request.specs.RequestView.{request_view}
use Rattle.fc_request.specs.declared.node.Node.{Node}
use Rattle.fc_request.specs.declared.request.Request.{Request}
use Rattle.fc_segment.specs.Segmented.{Segmented}
use Rattle.fc_answers.specs.LeastListed.{least_of}
use Rattle.fc_answers.specs.SetAnswer.{Pieces, Sets}
use Rattle.fc_levels.specs.Facets.{facets_of, nested_view}
use Rattle.fc_levels.specs.Jobs.{units_each}
use Rattle.fc_levels.specs.Steps.{AreValidFacets}
use Rattle.fc_jobs.specs.Pieces.{pieces_in}
use Rattle.fc_jobs.proofs.ListedKeys.{counted_keys}
use Rattle.fc_units.specs.Built.{CanAnswer}
use Rattle.fc_units.specs.LeastLists.{facet_sets}
use Rattle.fc_units.specs.Leasts.{AreFirstLists, AreLists, IsLeastBuilt, IsLeastJob, IsListJob, LeastGoesOn, LeastUnitDone, jobs_ended, least_done}
use Rattle.fc_units.specs.Stepping.{IsOneFurther, IsTopStep, StandsAtTop}
use Rattle.fc_units.specs.declared.jobs.TopJob.{TopJob}
use Rattle.fc_units.specs.declared.leasts.LeastBuilding.{LeastBuilding}
use Rattle.fc_units.specs.declared.leasts.LeastBuilding.TheVariants.{Root, Facets}
use Rattle.fc_units.specs.declared.leasts.LeastGone.{LeastGone}
use Rattle.fc_units.specs.declared.leasts.ListJob.{ListJob}
use Rattle.fc_units.specs.declared.leasts.Lists.{Lists}
use Rattle.fc_units.proofs.JobEnds.{last_unit}
use Rattle.fc_units.proofs.LeastLists.{list_is, one_list_more}
use Rattle.fc_units.proofs.LeastRoots.{forget_bases, root_facets, root_lists}
use Rattle.fc_units.proofs.LeastUnits.{goes_past}

-- what follows lists that are whole
abbrev pub NextGoes : Sets → Stats → List PartialNode → Nodes → LeastGone → Type 0
NextGoes base stats done nodes g =
    (s : Schema) (cut : List Segmented) (request : Request) (ns : List ℕ) → CanAnswer s cut request → AreFirstLists s (request_view request) (pieces_in cut) ns base stats done (facets_of nodes) → AreValidFacets s nodes
    → LeastGoesOn s cut request ns (length done + 1) g

-- ---- the root's job

abbrev pub RootGoes : TopJob → LeastGone → Type 0
RootGoes job g = (s : Schema) (cut : List Segmented) (request : Request) (ns : List ℕ) → StandsAtTop s cut request first 0 [] job → length cut ≤ job.at → LeastGoesOn s cut request ns 1 g

pub root_goes : (job : TopJob) (done : List PartialNode) (nodes : Nodes) → done ≡ [] → nodes ≡ inner_view job.node.now → (r : Result LeastGone WantMemory) → IfOk r (NextGoes job.domain.items job.over done nodes) → IfOk r (RootGoes job)
root_goes job done nodes none inner (Ok g) goes = λ s cut request ns st past.
    let one : length done + 1 ≡ 1 = omega (arith, ap length none) in
    subst (λ e. LeastGoesOn s cut request ns e g) one
    (goes s cut request ns st.can
    (subst (λ d. AreFirstLists s (request_view request) (pieces_in cut) ns job.domain.items job.over d (facets_of nodes)) (sym none)
    (subst (λ m. AreFirstLists s (request_view request) (pieces_in cut) ns job.domain.items job.over [] (facets_of m)) (sym inner) (root_lists s cut request job st past ns)))
    (subst (AreValidFacets s) (sym inner) (root_facets s cut request job st past)))
root_goes job done nodes none inner (Err x) goes = goes

abbrev pub FollowsRoot : ℕ → TopJob → LeastGone → Type 0
FollowsRoot n job g =
    (s : Schema) (cut : List Segmented) (request : Request) (ns : List ℕ) (done : ℕ) → length cut ≡ n → done < units_each (length cut) → IsOneFurther (length cut) done job.at → StandsAtTop s cut request first 0 [] job
    → LeastUnitDone s cut request ns 0 done g

pub root_past : (n : ℕ) (job : TopJob) → n ≤ job.at → (r : Result LeastGone WantMemory) → IfOk r (RootGoes job) → IfOk r (FollowsRoot n job)
root_past n job past (Ok g) goes = λ s cut request ns done count more further st.
    let over : length cut ≤ job.at = omega (arith, count, past) in
    goes_past s cut request ns 0 done g (last_unit (length cut) done job.at more further over) (goes s cut request ns st over)
root_past n job past (Err x) goes = goes

pub root_unit_done : (gs : List Segmented) (request : Request) (n : ℕ) (roots : Sets) (old new : TopJob) → length gs ≡ n → old.at < units_each (length gs)
    → ((s : Schema) → StandsAtTop s gs request first 0 [] old → IsTopStep s gs request first 0 roots old new) → (r : Result LeastGone WantMemory) → IfOk r (FollowsRoot n new)
    → IfOk r (λ g. (s : Schema) (ns : List ℕ) → StandsAtTop s gs request first 0 [] old → LeastUnitDone s gs request ns 0 old.at g)
root_unit_done gs request n roots old new count within steps (Ok g) follows = λ s ns st.
    let step = steps s st in
    follows s gs request ns old.at count within step.further (forget_bases s gs request roots new step.stands)
root_unit_done gs request n roots old new count within steps (Err x) follows = follows

-- ---- a facet's job

-- the keys of its tally are its own
pub list_keys : (s : Schema) (cut : List Segmented) (r : definition.Request) (job : ListJob) → IsListJob s r (pieces_in cut) job → All (λ key. IsTrue (is_key_of (kind_view (kind_of job.node.now)) key)) (keys_of job.tally.entries)
list_keys s cut r job is =
    counted_keys (pieces_in cut) (facet_sets r (pieces_in cut) (facet_view job.node.now)) is.domain (kind_view (kind_of job.node.now)) (stats_of (inner_view job.node.now)) job.tally is.counted

-- what is listed of it
pub record IsListed (job : ListJob) (least : ℕ) (list : PartialNode) : Type 0 where
  pub buckets : List PartialBucket
  pub view : node_view list ≡ buckets_view buckets
  pub ascends : IsTally job.tally
  pub listed : buckets_view buckets ≡ bare (least_of (kind_view (kind_of job.node.now)) (inner_view job.node.now) least job.tally.entries)

abbrev pub ListGoes : ℕ → Lists → LeastGone → Type 0
ListGoes least l g =
    (s : Schema) (cut : List Segmented) (request : Request) (ns : List ℕ) → CanAnswer s cut request → AreLists s (request_view request) (pieces_in cut) ns l → length cut ≤ l.job.at
    → least ≡ first_number (drop (length l.done.items) ns) → LeastGoesOn s cut request ns (length l.done.items + 2) g

pub list_goes : (l : Lists) (least : ℕ) (list : PartialNode) (more : List PartialNode) → more ≡ l.done.items ++ list ∷ [] → IsListed l.job least list
    → (r : Result LeastGone WantMemory) → IfOk r (NextGoes l.base.items l.stats more (nodes_view l.left.now)) → IfOk r (ListGoes least l)
list_goes l least list more is listed (Ok g) goes = λ s cut request ns can are past count.
    let view = listed.view ∙ list_is s cut request l.job can are.job past listed.buckets (first_number (drop (length l.done.items) ns)) listed.ascends (listed.listed ∙ ap (λ n. bare (least_of (kind_view (kind_of l.job.node.now)) (inner_view l.job.node.now) n l.job.tally.entries)) count) in
    let one = one_list_more s (request_view request) (pieces_in cut) ns l.base.items l.stats l.done.items more (nested_view l.job.node.now) (facets_of (nodes_view l.left.now)) list is view are.so_far in
    let up : length more + 1 ≡ length l.done.items + 2 = omega (arith, one.1) in
    subst (λ e. LeastGoesOn s cut request ns e g) up (goes s cut request ns can one.0 are.left)
list_goes l least list more is listed (Err x) goes = goes

abbrev pub FollowsList : ℕ → List ℕ → Lists → LeastGone → Type 0
FollowsList n ns l g =
    (s : Schema) (cut : List Segmented) (request : Request) (done : ℕ) → CanAnswer s cut request → length cut ≡ n → done < units_each (length cut) → IsOneFurther (length cut) done l.job.at
    → AreLists s (request_view request) (pieces_in cut) ns l → LeastUnitDone s cut request ns (length l.done.items + 1) done g

pub list_past : (n : ℕ) (ns : List ℕ) (l : Lists) (least : ℕ) → n ≤ l.job.at → least ≡ first_number (drop (length l.done.items) ns) → (r : Result LeastGone WantMemory) → IfOk r (ListGoes least l) → IfOk r (FollowsList n ns l)
list_past n ns l least past is (Ok g) goes = λ s cut request done can count more further are.
    let over : length cut ≤ l.job.at = omega (arith, count, past) in
    let up : length l.done.items + 2 ≡ length l.done.items + 1 + 1 = omega arith in
    goes_past s cut request ns (length l.done.items + 1) done g (last_unit (length cut) done l.job.at more further over) (subst (λ e. LeastGoesOn s cut request ns e g) up (goes s cut request ns can are over is))
list_past n ns l least past is (Err x) goes = goes

-- the same lists, with the job a segment further
stepped_lists : (s : Schema) (r : definition.Request) (V : Pieces) (ns : List ℕ) (l : Lists) (job : ListJob) → job.node.now ≡ l.job.node.now → AreLists s r V ns l → IsListJob s r V job → AreLists s r V ns (record l { job = job })
stepped_lists s r V ns l job same are is = record {
  so_far = subst (λ (n : Node). AreFirstLists s r V ns l.base.items l.stats l.done.items (nested_view n ∷ facets_of (nodes_view l.left.now))) (sym same) are.so_far;
  left = are.left;
  job = is;
}

pub list_unit_done : (gs : List Segmented) (request : Request) (n : ℕ) (ns : List ℕ) (l : Lists) (job : ListJob) → length gs ≡ n → l.job.at < units_each (length gs) → job.node.now ≡ l.job.node.now
    → ((s : Schema) → CanAnswer s gs request → IsListJob s (request_view request) (pieces_in gs) l.job → IsListJob s (request_view request) (pieces_in gs) job) → IsOneFurther (length gs) l.job.at job.at
    → (r : Result LeastGone WantMemory) → IfOk r (FollowsList n ns (record l { job = job }))
    → IfOk r (λ g. (s : Schema) → CanAnswer s gs request → AreLists s (request_view request) (pieces_in gs) ns l → LeastUnitDone s gs request ns (length l.done.items + 1) l.job.at g)
list_unit_done gs request n ns l job count within same steps further (Ok g) follows = λ s can are.
    follows s gs request l.job.at can count within further (stepped_lists s (request_view request) (pieces_in gs) ns l job same are (steps s can are.job))
list_unit_done gs request n ns l job count within same steps further (Err x) follows = follows

-- ---- a unit

pub stands_root : (s : Schema) (gs : List Segmented) (request : Request) (ns : List ℕ) (b : LeastBuilding) (job : TopJob) → b ≡ Root job → IsLeastBuilt s gs request ns b → StandsAtTop s gs request first 0 [] job
stands_root s gs request ns b job is built = record { can = built.can; based = refl; is_job = subst (IsLeastJob s request (pieces_in gs) ns) is built.job }

pub stands_lists : (s : Schema) (gs : List Segmented) (request : Request) (ns : List ℕ) (b : LeastBuilding) (l : Lists) → b ≡ Facets l → IsLeastBuilt s gs request ns b → AreLists s (request_view request) (pieces_in gs) ns l
stands_lists s gs request ns b l is built = subst (IsLeastJob s request (pieces_in gs) ns) is built.job

abbrev pub DoneOf : List Segmented → Request → List ℕ → LeastBuilding → LeastGone → Type 0
DoneOf gs request ns b g = (s : Schema) → IsLeastBuilt s gs request ns b → LeastUnitDone s gs request ns (jobs_ended b) (least_done b) g

pub built_root : (gs : List Segmented) (request : Request) (ns : List ℕ) (b : LeastBuilding) (job : TopJob) → b ≡ Root job → (r : Result LeastGone WantMemory)
    → IfOk r (λ g. (s : Schema) (ms : List ℕ) → StandsAtTop s gs request first 0 [] job → LeastUnitDone s gs request ms 0 job.at g) → IfOk r (DoneOf gs request ns b)
built_root gs request ns b job is (Ok g) done = λ s built. subst (λ x. LeastUnitDone s gs request ns (jobs_ended x) (least_done x) g) (sym is) (done s ns (stands_root s gs request ns b job is built))
built_root gs request ns b job is (Err x) done = done

pub built_lists : (gs : List Segmented) (request : Request) (ns : List ℕ) (b : LeastBuilding) (l : Lists) → b ≡ Facets l → (r : Result LeastGone WantMemory)
    → IfOk r (λ g. (s : Schema) → CanAnswer s gs request → AreLists s (request_view request) (pieces_in gs) ns l → LeastUnitDone s gs request ns (length l.done.items + 1) l.job.at g) → IfOk r (DoneOf gs request ns b)
built_lists gs request ns b l is (Ok g) done = λ s built. subst (λ x. LeastUnitDone s gs request ns (jobs_ended x) (least_done x) g) (sym is) (done s built.can (stands_lists s gs request ns b l is built))
built_lists gs request ns b l is (Err x) done = done
