-- Lists of facets from counts on, one after another.
use Rattle.std.proofs.Common.{◌≡◌, ℕ, zero, suc, ◌+◌, ◌≤◌, List, [], ◌∷◌, ◌++◌, drop, length, map, IsTrue, refl, sym, ◌∙◌, ap, subst, arith, append-nil, length-append}
use Rattle.std.specs.declared.alloc.Global.{Global}
use Rattle.std.specs.declared.vec.Vec.{Vec}
use Rattle.std.proofs.lemmas.List.{append_assoc, length-map, map-append}
use Rattle.fc_spec.specs.documents.Schema.{Schema}
use Rattle.fc_spec.specs.documents.Sets.{places_at}
use Rattle.fc_spec.specs.messages.Message.{no_partials, partial}
use Rattle.fc_spec.specs.messages.TopRounds.{first_number, later_numbers}
use Rattle.fc_spec.specs.requests.Buckets.{whole}
use Rattle.fc_spec.specs.requests.Paths.{at_root}
use Rattle.fc_spec.specs.requests.Request as definition
use Rattle.fc_spec.specs.requests.Request.{Nodes, stats_of}
use Rattle.fc_partial.specs.BucketView.{Part, bare, buckets_view, linked_rows, node_view}
use Rattle.fc_partial.specs.StatsView.{stats_view}
use Rattle.fc_partial.specs.Tallying.{IsTally}
use Rattle.fc_partial.specs.declared.bucket.PartialBucket.{PartialBucket}
use Rattle.fc_partial.specs.declared.bucket.PartialBucket.TheViews.{roll-PartialBucket}
use Rattle.fc_partial.specs.declared.bucket.PartialNode.{PartialNode}
use Rattle.fc_partial.specs.declared.key.Key.TheVariants as key
use Rattle.fc_partial.specs.declared.statistics.Stats.{Stats}
use Rattle.fc_request.specs.FacetNode.{facet_view, has_buckets, kind_of, kind_view}
use Rattle.fc_request.specs.NodeView.{inner_view, nodes_view}
use Rattle.fc_request.specs.RequestView.{request_view}
use Rattle.fc_request.specs.declared.request.Request.{Request}
use Rattle.fc_segment.specs.Segmented.{Segmented}
use Rattle.fc_answers.specs.LeastListed.{least_of}
use Rattle.fc_answers.specs.LiveSets.{AreLive}
use Rattle.fc_answers.specs.SetAnswer.{Pieces, Sets, scope_on, whole_world}
use Rattle.fc_answers.proofs.LeastTallies.{least_tallies_list}
use Rattle.fc_answers.proofs.LiveSets.{bases_live, domains_live, live_are_sets}
use Rattle.fc_levels.specs.Facets.{Nested, facet_count, facets_of, nested_view}
use Rattle.fc_levels.specs.Steps.{AreValidFacets}
use Rattle.fc_levels.proofs.FacetLists.{first_valid, rest_valid}
use Rattle.fc_levels.proofs.Resuming.{bucket_is}
use Rattle.fc_jobs.specs.Gathered.{IsCountedSoFar}
use Rattle.fc_jobs.specs.Pieces.{piece_of, pieces_in}
use Rattle.fc_jobs.proofs.CountedTallies.{counted_all, counted_none}
use Rattle.fc_units.specs.Built.{CanAnswer}
use Rattle.fc_units.specs.LeastLists.{facet_sets, least_answer, least_list, least_lists, root_sets}
use Rattle.fc_units.specs.Leasts.{AreFirstLists, AreLists, IsListJob, LeastGoesOn}
use Rattle.fc_units.specs.declared.leasts.LeastBuilding.TheVariants.{Facets}
use Rattle.fc_units.specs.declared.leasts.LeastGone.TheVariants.{On, Whole}
use Rattle.fc_units.specs.declared.leasts.ListJob.{ListJob}
use Rattle.fc_units.specs.declared.leasts.Lists.{Lists}
use Rattle.fc_units.proofs.JobEnds.{all_there, sets_count}

-- ---- all lists are there

lists_count : (r : definition.Request) (V : Pieces) (facets : List Nested) (ns : List ℕ) → length (least_lists r V facets ns) ≡ length facets
lists_count r V [] ns = refl
lists_count r V (n ∷ more) ns = ap suc (lists_count r V more (later_numbers ns))

module _ (s : Schema) (r : definition.Request) (V : Pieces) (ns : List ℕ) (base : Sets) (stats : Stats) (done : List PartialNode) (left : List Nested) (are : AreFirstLists s r V ns base stats done left) (none : left ≡ []) where
  all_lists : map node_view done ≡ least_lists r V (facets_of r.nodes) ns
  all_lists = sym (append-nil (map node_view done)) ∙ ap (λ fs. map node_view done ++ least_lists r V fs (drop (length done) ns)) (sym none) ∙ are.lists

  pub lists_answer : partial whole (stats_view stats) (linked_rows (map node_view done)) no_partials ≡ least_answer r V ns
  lists_answer = λ j. partial whole (are.stats_are j) (linked_rows (all_lists j)) no_partials

  pub all_counted : length done ≡ facet_count r.nodes
  all_counted = sym (length-map done node_view) ∙ ap length all_lists ∙ lists_count r V (facets_of r.nodes) ns

pub lists_left : (s : Schema) (r : definition.Request) (V : Pieces) (ns : List ℕ) (base : Sets) (stats : Stats) (done : List PartialNode) (left : List Nested) → AreFirstLists s r V ns base stats done left → length done + length left ≡ facet_count r.nodes
lists_left s r V ns base stats done left are =
    let all = ap length are.lists in
    omega (
      arith,
      all,
      length-append (map node_view done) (least_lists r V left (drop (length done) ns)),
      length-map done node_view,
      lists_count r V left (drop (length done) ns),
      lists_count r V (facets_of r.nodes) ns,
    )

-- no further one: the root's bucket is the answer
root_bucket : (stats : Stats) (done : Vec PartialNode Global) (buckets : List PartialBucket) → buckets ≡ roll-PartialBucket (record { key = key.Whole; stats = stats; nodes = done }) ∷ []
    → buckets_view buckets ≡ partial whole (stats_view stats) (linked_rows (map node_view done.items)) no_partials
root_bucket stats done buckets is = ap buckets_view is ∙ ap (λ (p : Part). partial p.key p.stats p.rows no_partials) (bucket_is key.Whole stats done)

pub no_further : (s : Schema) (cut : List Segmented) (request : Request) (ns : List ℕ) (base : Sets) (stats : Stats) (done : Vec PartialNode Global) (buckets : Vec PartialBucket Global) (nodes : Nodes)
    → buckets.items ≡ roll-PartialBucket (record { key = key.Whole; stats = stats; nodes = done }) ∷ [] → facets_of nodes ≡ []
    → AreFirstLists s (request_view request) (pieces_in cut) ns base stats done.items (facets_of nodes) → LeastGoesOn s cut request ns (length done.items + 1) (Whole (record { buckets = buckets }))
no_further s cut request ns base stats done buckets nodes is none are =
    let r = request_view request in
    let V = pieces_in cut in (
      root_bucket stats done buckets.items is ∙ lists_answer s r V ns base stats done.items (facets_of nodes) are none,
      ap (λ n. n + 1) (all_counted s r V ns base stats done.items (facets_of nodes) are none),
    )

-- ---- the next one begins

pub next_begins : (s : Schema) (cut : List Segmented) (request : Request) (ns : List ℕ) (l : Lists) (nodes : Nodes) → CanAnswer s cut request
    → AreFirstLists s (request_view request) (pieces_in cut) ns l.base.items l.stats l.done.items (facets_of nodes) → AreValidFacets s nodes
    → facets_of nodes ≡ nested_view l.job.node.now ∷ facets_of (nodes_view l.left.now) → IsTrue (has_buckets (kind_of l.job.node.now))
    → l.job.tally ≡ record { stats = stats_of (inner_view l.job.node.now); entries = [] } → l.job.at ≡ 0 → LeastGoesOn s cut request ns (length l.done.items + 1) (On (Facets l))
next_begins s cut request ns l nodes can are valid e has none at =
    let V = pieces_in cut in
    let n = l.job.node.now in
    let D = facet_sets (request_view request) V (facet_view n) in
    let kind = kind_view (kind_of n) in
    let ss = stats_of (inner_view n) in (
      record {
        can = can;
        job = record {
          so_far = subst (AreFirstLists s (request_view request) V ns l.base.items l.stats l.done.items) e are;
          left = rest_valid s nodes (nodes_view l.left.now) n e valid;
          job = record {
            node = first_valid s nodes (nodes_view l.left.now) n e has valid;
            domain = [];
            counted = subst (IsCountedSoFar V D kind ss []) (sym none) (counted_none V D kind ss);
            reached = sym at;
          };
        };
      },
      at,
      refl,
    )

-- ---- a list is whole

later_are : (k : ℕ) (ns : List ℕ) → later_numbers (drop k ns) ≡ drop (k + 1) ns
later_are zero [] = refl
later_are zero (n ∷ ns) = refl
later_are (suc k) [] = let up : suc (k + 1) ≡ suc k + 1 = omega arith in ap (λ m. drop m []) up
later_are (suc k) (n ∷ ns) = let up : suc (k + 1) ≡ suc k + 1 = omega arith in later_are k ns ∙ ap (λ m. drop m (n ∷ ns)) up

module _ (s : Schema) (cut : List Segmented) (request : Request) (job : ListJob) (can : CanAnswer s cut request) (is : IsListJob s (request_view request) (pieces_in cut) job) (past : length cut ≤ job.at) where
  abbrev r : definition.Request
  r = request_view request

  abbrev V : Pieces
  V = pieces_in cut

  abbrev n : Nested
  n = nested_view job.node.now

  abbrev D : Sets
  D = facet_sets r V n.0

  live : AreLive V D
  live = domains_live (scope_on r at_root) V n.0 (root_sets r V) can.whole (bases_live r [] V can.whole)

  whole_domain : is.domain ≡ D
  whole_domain = all_there D is.domain is.counted.first (omega (arith, sets_count V D live, length-map cut piece_of, past, is.reached))

  counted : IsCountedSoFar V D n.0.kind (stats_of n.1) D job.tally
  counted = subst (λ E. IsCountedSoFar V D n.0.kind (stats_of n.1) E job.tally) whole_domain is.counted

  -- what is listed of its tally is its list
  pub list_is : (list : List PartialBucket) (least : ℕ) → IsTally job.tally → buckets_view list ≡ bare (least_of n.0.kind n.1 least job.tally.entries) → buckets_view list ≡ least_list V n least D
  list_is list least tally listed = listed ∙ ap bare (least_tallies_list n.0.kind n.1 least (places_at (whole_world V) D) job.tally.entries tally.ascend (counted_all V D n.0.kind (stats_of n.1) job.tally (live_are_sets V D live) counted).entries)

-- one list more is whole
pub one_list_more : (s : Schema) (r : definition.Request) (V : Pieces) (ns : List ℕ) (base : Sets) (stats : Stats) (done more : List PartialNode) (n : Nested) (left : List Nested) (list : PartialNode) → more ≡ done ++ list ∷ []
    → node_view list ≡ least_list V n (first_number (drop (length done) ns)) (facet_sets r V n.0) → AreFirstLists s r V ns base stats done (n ∷ left) → AreFirstLists s r V ns base stats more left × (length more ≡ length done + 1)
one_list_more s r V ns base stats done more n left list is view are =
    let count : length more ≡ length done + 1 = ap length is ∙ length-append done (list ∷ []) in
    let rest = least_lists r V left in (
      record {
        base_is = are.base_is;
        stats_are = are.stats_are;
        lists = (λ j. map node_view (is j) ++ rest (drop (count j) ns))
            ∙ ap (λ xs. xs ++ rest (drop (length done + 1) ns)) (map-append node_view done (list ∷ []))
            ∙ append_assoc (map node_view done) (node_view list ∷ []) (rest (drop (length done + 1) ns))
            ∙ (λ j. map node_view done ++ (view j ∷ rest (sym (later_are (length done) ns) j)))
            ∙ are.lists;
      },
      count,
    )
