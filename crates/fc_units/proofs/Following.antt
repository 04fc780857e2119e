-- What follows a unit.
use Rattle.std.proofs.Common.{◌≡◌, ℕ, ◌+◌, ◌<◌, ◌≤◌, ◌⊎◌, inl, inr, List, [], ◌∷◌, ◌++◌, length, map, All, Bool, IsTrue, Bor, refl, sym, ◌∙◌, ap, subst, arith, append-nil}
use Rattle.std.specs.Prelude.{Result, Ok, Err, IfOk}
use Rattle.std.specs.declared.alloc.Global.{Global}
use Rattle.std.specs.declared.vec.Vec.{Vec}
use Rattle.std.specs.Map.{keys_of}
use Rattle.std.proofs.lemmas.List.Elements.{All-nil}
use Rattle.fc_base.specs.declared.error.WantMemory.{WantMemory}
use Rattle.fc_spec.specs.documents.Schema.{Schema, texts_held}
use Rattle.fc_spec.specs.documents.Sets.{places_at}
use Rattle.fc_spec.specs.messages.Message.{Ask, Partials, no_partials, partial, Rows}
use Rattle.fc_spec.specs.requests.Buckets.{Key, is_key_of}
use Rattle.fc_spec.specs.requests.Request as definition
use Rattle.fc_spec.specs.requests.Request.{stats_of}
use Rattle.fc_spec.specs.requests.Statistics.{Stats, stats_over}
use Rattle.fc_partial.specs.BucketView.{Part, bare, bucket_step, bucket_view, buckets_view, linked, node_step, node_view}
use Rattle.fc_partial.specs.StatsView.{stats_view}
use Rattle.fc_partial.specs.Tallying.{IsTally}
use Rattle.fc_partial.specs.View.{key_view}
use Rattle.fc_partial.specs.declared.bucket.PartialBucket.{PartialBucket}
use Rattle.fc_partial.specs.declared.bucket.PartialBucket.TheFolds.{fold_out-PartialNode}
use Rattle.fc_partial.specs.declared.bucket.PartialNode.{PartialNode, out-PartialNode}
use Rattle.fc_request.specs.FacetNode.{facet_view, has_buckets, kind_of, kind_view}
use Rattle.fc_request.specs.NodeView.{inner_view}
use Rattle.fc_request.specs.RequestView.{request_view}
use Rattle.fc_request.specs.declared.node.Node.{Node}
use Rattle.fc_request.specs.declared.request.Request.{Request}
use Rattle.fc_refine.specs.CountableRanges.{IsCountable}
use Rattle.fc_kind.specs.Columns.{FitsColumns}
use Rattle.fc_kind.proofs.ValidFacets.{kind_fits}
use Rattle.fc_segment.specs.Segmented.{Segmented}
use Rattle.fc_answers.specs.Listed.{bucket_entry, listed_of}
use Rattle.fc_answers.specs.SetAnswer.{Pieces, Scope, Sets, base_of, bucket_sets, domain_sets, inside, own_keys, set_rows, whole_world}
use Rattle.fc_answers.specs.LiveSets.{AreLive}
use Rattle.fc_answers.proofs.LiveSets.{live_are_sets}
use Rattle.fc_levels.specs.Facets.{Nested, nested_view}
use Rattle.fc_levels.specs.Jobs.{openings, units_each}
use Rattle.fc_levels.specs.Levels.{ended_in, open_in, row_in, row_over, scope_in}
use Rattle.fc_levels.specs.Steps.{AreKeysOf, Goes, IsLevel, IsNextOf, IsValidNode}
use Rattle.fc_levels.specs.declared.level.Level.{Level}
use Rattle.fc_levels.specs.declared.level.Next.{Next}
use Rattle.fc_levels.specs.declared.level.Next.TheVariants.{Job, Whole}
use Rattle.fc_jobs.specs.Gathered.{AreFirst}
use Rattle.fc_jobs.proofs.ListedKeys.{counted_keys, listed_all}
use Rattle.fc_jobs.specs.Pieces.{pieces_in}
use Rattle.fc_units.specs.Asked.{FitsTop, HasSameDomain, IsTop, asked_count, top_scope}
use Rattle.fc_units.specs.Built.{CanAnswer, IsBuilt, IsJob, IsTopJob, IsUnder, done_in, ended, row_under_way, zeroed}
use Rattle.fc_units.specs.Going.{AreFront, Begins, Ends, GoesOn, UnitDone, ended_by, known_already, opened_by}
use Rattle.fc_units.specs.Stepping.{IsFacetStep, IsOneFurther, IsTopStep, StandsAtFacet, StandsAtTop}
use Rattle.fc_units.specs.declared.building.Building.{Building}
use Rattle.fc_units.specs.declared.going.Gone.{Gone}
use Rattle.fc_units.specs.declared.going.Gone.TheVariants as gone
use Rattle.fc_units.specs.declared.jobs.FacetJob.{FacetJob}
use Rattle.fc_units.specs.declared.jobs.Job.TheVariants.{Facet, Top}
use Rattle.fc_units.specs.declared.jobs.TopJob.{TopJob}
use Rattle.fc_units.proofs.Begun.{none_fits}
use Rattle.fc_units.proofs.Ending.{begins_top, goes_on, whole_fits, whole_front, whole_goes_on}
use Rattle.fc_units.proofs.FirstCounts.{past_last}
use Rattle.fc_units.proofs.JobEnds.{facet_counted, facet_ends, facet_sets, last_unit, top_ends, top_sets, top_stats, within_unit}

-- ---- the next top bucket

-- sets of the bucket before, where the next one has the same, or none
kept_fits : (request : Request) (V : Pieces) (ask : Ask) (i : ℕ) (before kept : Sets) → (kept ≡ before) × HasSameDomain ask i ⊎ (kept ≡ [])
    → (HasSameDomain ask i → FitsTop (nested_view request.root) (request_view request) V ask i before) → FitsTop (nested_view request.root) (request_view request) V ask i kept
kept_fits request V ask i before kept k fits = elim k [
  | inl same ↦ subst (FitsTop (nested_view request.root) (request_view request) V ask i) (sym same.0) (fits same.1)
  | inr none ↦ subst (FitsTop (nested_view request.root) (request_view request) V ask i) (sym none) (none_fits (nested_view request.root) (request_view request) V ask i)
]

-- what the next top bucket's job is
abbrev pub IsNextTop : Request → Ask → ℕ → Sets → TopJob → Type 0
IsNextTop request ask i kept job =
    (s : Schema) (segments : List Segmented) (roots : Sets) → CanAnswer s segments request → FitsTop (nested_view request.root) (request_view request) (pieces_in segments) ask i kept → IsTopJob s request (pieces_in segments) ask i roots job

-- it begins
pub begins_next : (request : Request) (ask : Ask) (roots : Vec (List Bool) Global) (buckets : Vec PartialBucket Global) (levels : Vec Level Global) (job : TopJob) (i : ℕ) (before kept : Sets) → i ≡ length buckets.items
    → IsNextTop request ask i kept job → job.at ≡ 0 → levels.items ≡ [] → (kept ≡ before) × HasSameDomain ask i ⊎ (kept ≡ []) → (s : Schema) (segments : List Segmented) → CanAnswer s segments request
    → AreFirst (map (base_of (request_view request) []) (pieces_in segments)) roots.items → AreFront (request_view request) (pieces_in segments) ask buckets.items
    → (HasSameDomain ask (length buckets.items) → FitsTop (nested_view request.root) (request_view request) (pieces_in segments) ask (length buckets.items) before)
    → Begins s segments request ask buckets.items (gone.On (record { roots = roots; buckets = buckets; levels = levels; job = Top job }) 0)
begins_next request ask roots buckets levels job i before kept count next at none keeps s segments can based front fits =
    let kept_there = subst (λ n. (kept ≡ before) × HasSameDomain ask n ⊎ (kept ≡ [])) count keeps in
    let fits_kept = kept_fits request (pieces_in segments) ask (length buckets.items) before kept kept_there fits in
    begins_top s segments request ask roots buckets levels job can based front none at (subst (λ n. IsNextTop request ask n kept job) count next s segments roots.items can fits_kept)

-- ---- the end of a job

-- what the end of a job comes to, and the answer goes on from there
abbrev pub GoesAfter : Request → Ask → Sets → List PartialBucket → List Level → Next → Gone → Type 0
GoesAfter request ask roots buckets levels next g =
    (s : Schema) (segments : List Segmented) (before : List ℕ) → CanAnswer s segments request → AreFirst (map (base_of (request_view request) []) (pieces_in segments)) roots → AreFront (request_view request) (pieces_in segments) ask buckets
    → Ends s segments request ask (length buckets) before levels next → GoesOn s segments request ask (openings (linked (map bucket_view buckets)) ++ before) (opened_by next) g

-- a facet's job begins
pub facet_begins : (request : Request) (ask : Ask) (roots : Vec (List Bool) Global) (buckets : Vec PartialBucket Global) (levels : Vec Level Global) (job : FacetJob) (next : Next) (n : Bor Node) (k : ℕ) → next ≡ Job n k
    → job.node.now ≡ n.now → job.domain.items ≡ [] → job.tally ≡ record { stats = stats_of (inner_view n.now); entries = [] }
    → GoesAfter request ask roots.items buckets.items levels.items next (gone.On (record { roots = roots; buckets = buckets; levels = levels; job = Facet job }) k)
facet_begins request ask roots buckets levels job next n k is node domain tally = λ s segments before can based front e.
    subst (λ j. GoesOn s segments request ask (openings (linked (map bucket_view buckets.items)) ++ before) j (gone.On (record { roots = roots; buckets = buckets; levels = levels; job = Facet job }) k)) (ap opened_by (sym is))
    (goes_on s segments request ask before k n roots buckets levels job can based front node domain tally (subst (Ends s segments request ask (length buckets.items) before levels.items) is e))

-- the buckets of a list
pub list_of : (p : PartialNode) → node_view p ≡ linked (map bucket_view (out-PartialNode p).buckets.items)
list_of p = fold_out-PartialNode Part Partials bucket_step node_step p

-- what follows the last bucket that was whole
abbrev pub BeginsAfter : Request → Ask → Sets → List PartialBucket → Sets → Gone → Type 0
BeginsAfter request ask roots buckets domain g =
    (s : Schema) (segments : List Segmented) → CanAnswer s segments request → AreFirst (map (base_of (request_view request) []) (pieces_in segments)) roots → AreFront (request_view request) (pieces_in segments) ask buckets
    → (HasSameDomain ask (length buckets) → FitsTop (nested_view request.root) (request_view request) (pieces_in segments) ask (length buckets) domain) → Begins s segments request ask buckets g

-- the top bucket is whole
pub whole_ends : (request : Request) (ask : Ask) (roots : Sets) (buckets grown : List PartialBucket) (levels : List Level) (next : Next) (p : PartialNode) (domain : Vec (List Bool) Global) → next ≡ Whole p domain
    → grown ≡ buckets ++ (out-PartialNode p).buckets.items → (r : Result Gone WantMemory) → IfOk r (BeginsAfter request ask roots grown domain.items) → IfOk r (GoesAfter request ask roots buckets levels next)
whole_ends request ask roots buckets grown levels next p domain is more (Ok g) begins = λ s segments before can based front e.
    let there = subst (Ends s segments request ask (length buckets) before levels) is e in
    let new = (out-PartialNode p).buckets.items in
    let starts = subst (λ bs. BeginsAfter request ask roots bs domain.items g) more begins s segments can based (whole_front s segments request ask before p domain buckets levels new (list_of p) front there).0
    (whole_fits s segments request ask before p domain buckets levels new (list_of p) front there) in
    subst (λ j. GoesOn s segments request ask (openings (linked (map bucket_view buckets)) ++ before) j g) (ap opened_by (sym is))
    (whole_goes_on s segments request ask before p domain buckets levels new (list_of p) front there g starts)
whole_ends request ask roots buckets grown levels next p domain is more (Err x) begins = begins

-- ---- a top bucket's job

-- a bucket by itself, from the sets of its facet
abbrev pub bucket_over : Scope → Pieces → Node → Key → Stats → Sets → Partials
bucket_over o V n k stats domain = partial k stats (set_rows (inside o (facet_view n) k) V (inner_view n) (bucket_sets V (kind_view (kind_of n)) k domain)) no_partials

-- what the levels make of its end
pub record TopEnded (old after : List Level) (job : TopJob) (next : Next) : Type 0 where
  pub goes : (o : Scope) (V : Pieces) → stats_view job.over ≡ stats_over (stats_of (inner_view job.node.now)) (places_at (whole_world V) (bucket_sets V (kind_view (kind_of job.node.now)) (key_view job.key) job.domain.items))
      → Goes o V old after job.domain.items (bucket_over (scope_in o old) V job.node.now (key_view job.key) (stats_view job.over) job.domain.items) next
  pub kept : (s : Schema) (V : Pieces) → All (IsLevel s V) old → IsValidNode s job.node.now → AreLive V job.domain.items → IsTrue (is_key_of (kind_view (kind_of job.node.now)) (key_view job.key)) → All (IsLevel s V) after
  pub next_is : (s : Schema) (V : Pieces) → All (IsLevel s V) old → IsValidNode s job.node.now → AreLive V job.domain.items → IsTrue (is_key_of (kind_view (kind_of job.node.now)) (key_view job.key)) → IsNextOf s V next

-- what it comes to
top_comes : (s : Schema) (segments : List Segmented) (request : Request) (ask : Ask) (i : ℕ) (roots : Sets) (job : TopJob) (old after : List Level) (next : Next) → old ≡ [] → TopEnded old after job next
    → StandsAtTop s segments request ask i roots job → length segments ≤ job.at → Ends s segments request ask i [] after (known_already next)
top_comes s segments request ask i roots job old after next none told st past =
    let V = pieces_in segments in
    let fresh = subst (λ ls. TopEnded ls after job next) none told in
    let sets = top_sets s segments request ask i roots job st past in
    top_ends s segments request ask i roots job st past after next
    (fresh.goes (top_scope (request_view request) ask i) V (top_stats s segments request ask i roots job st past))
    (fresh.kept s V (All-nil (IsLevel s V)) st.is_job.node sets st.is_job.is_key)
    (fresh.next_is s V (All-nil (IsLevel s V)) st.is_job.node sets st.is_job.is_key)

-- the answer goes on
abbrev pub GoesFromTop : Request → Ask → Sets → List PartialBucket → TopJob → Gone → Type 0
GoesFromTop request ask roots buckets job g =
    (s : Schema) (cut : List Segmented) → StandsAtTop s cut request ask (length buckets) roots job → length cut ≤ job.at → AreFront (request_view request) (pieces_in cut) ask buckets
    → (k : ℕ) × GoesOn s cut request ask (openings (linked (map bucket_view buckets))) k g

pub top_goes : (request : Request) (ask : Ask) (roots : Sets) (buckets : List PartialBucket) (job : TopJob) (old after : List Level) (next known : Next) → old ≡ [] → TopEnded old after job next → known ≡ known_already next
    → (r : Result Gone WantMemory) → IfOk r (GoesAfter request ask roots buckets after known) → IfOk r (GoesFromTop request ask roots buckets job)
top_goes request ask roots buckets job old after next known none told is (Ok g) goes = λ s cut st past front.
    let comes = subst (Ends s cut request ask (length buckets) [] after) (sym is) (top_comes s cut request ask (length buckets) roots job old after next none told st past) in
    (opened_by known, subst (λ E. GoesOn s cut request ask E (opened_by known) g) (append-nil (openings (linked (map bucket_view buckets)))) (goes s cut [] st.can st.based front comes))
top_goes request ask roots buckets job old after next known none told is (Err x) goes = goes

-- ---- a facet's job

-- what the levels make of its end
pub record FacetEnded (old after : List Level) (job : FacetJob) (list : List PartialBucket) (next : Next) : Type 0 where
  pub goes : (o : Scope) (V : Pieces)
      → buckets_view list ≡ bare (map (bucket_entry (kind_view (kind_of job.node.now)) (stats_of (inner_view job.node.now)) (places_at (whole_world V) job.domain.items)) (own_keys (kind_view (kind_of job.node.now)) (inner_view job.node.now) (places_at (whole_world V) job.domain.items)))
      → Goes o V old after job.domain.items (row_over (scope_in o old) V (nested_view job.node.now) job.domain.items) next
  pub kept : (s : Schema) (V : Pieces) → All (IsLevel s V) old → IsValidNode s job.node.now → AreLive V job.domain.items → AreKeysOf job.node.now list → All (IsLevel s V) after
  pub next_is : (s : Schema) (V : Pieces) → All (IsLevel s V) old → IsValidNode s job.node.now → AreLive V job.domain.items → AreKeysOf job.node.now list → IsNextOf s V next

-- what is listed of it
pub record FacetListed (job : FacetJob) (list : List PartialBucket) : Type 0 where
  pub ascends : IsTally job.tally
  pub listed : buckets_view list ≡ bare (listed_of (kind_view (kind_of job.node.now)) (inner_view job.node.now) job.tally.entries)
  pub keys : AreKeysOf job.node.now list

-- the levels, once its list is there, are the bucket under way
abbrev pub IsUnderWay : Request → Ask → List PartialBucket → List Level → FacetJob → List Segmented → Type 0
IsUnderWay request ask buckets levels job cut = IsUnder request (pieces_in cut) ask (length buckets) levels (row_under_way (top_scope (request_view request) ask (length buckets)) (pieces_in cut) levels job)

-- the jobs that have ended before it
abbrev pub ended_before : Request → Ask → ℕ → List Level → FacetJob → List Segmented → List ℕ
ended_before request ask i levels job cut = zeroed (ended_in (top_scope (request_view request) ask i) (pieces_in cut) levels (row_under_way (top_scope (request_view request) ask i) (pieces_in cut) levels job))

facet_comes : (s : Schema) (segments : List Segmented) (request : Request) (ask : Ask) (buckets : List PartialBucket) (old after : List Level) (job : FacetJob) (list : List PartialBucket) (next : Next) → FacetListed job list → FacetEnded old after job list next
    → StandsAtFacet s segments request ask (length buckets) old job → IsUnderWay request ask buckets old job segments → length segments ≤ length job.domain.items
    → Ends s segments request ask (length buckets) (ended_before request ask (length buckets) old job segments) after next
facet_comes s segments request ask buckets old after job list next l told st under past =
    let V = pieces_in segments in
    let i = length buckets in
    let kind = kind_view (kind_of job.node.now) in
    let sets = facet_sets s segments request ask i old job st.is_job under st.can.whole past in
    let counted = facet_counted s segments request ask i old job st.is_job under st.can.whole past in
    let all = l.listed ∙ ap bare (listed_all V job.domain.items kind (inner_view job.node.now) job.tally (live_are_sets V job.domain.items sets) l.ascends counted) in
    facet_ends s segments request ask i old job st.is_job under st.can.whole past after next
    (told.goes (top_scope (request_view request) ask i) V all)
    (told.kept s V st.is_job.valid st.is_job.node sets l.keys)
    (told.next_is s V st.is_job.valid st.is_job.node sets l.keys)

-- its buckets can be counted
pub countable_node : (s : Schema) (n : Node) → IsValidNode s n → IsCountable (kind_view (kind_of n))
countable_node s n valid = countable_kind (kind_view (kind_of n)) (kind_fits s (inner_view n) (kind_view (kind_of n)) valid.valid.1.kind)
  where
    countable_kind : (k : definition.Kind) → FitsColumns (texts_held s.fields) k → IsCountable k
    countable_kind (definition.terms t) fits = tt
    countable_kind (definition.range g) fits = fits.2
    countable_kind (definition.date_range g) fits = fits.2
    countable_kind (definition.query q) fits = tt

-- the keys of its tally are its own
pub listed_keys_of : (s : Schema) (cut : List Segmented) (request : Request) (ask : Ask) (i : ℕ) (levels : List Level) (job : FacetJob) → StandsAtFacet s cut request ask i levels job → All (λ key. IsTrue (is_key_of (kind_view (kind_of job.node.now)) key)) (keys_of job.tally.entries)
listed_keys_of s cut request ask i levels job st =
    counted_keys (pieces_in cut) (domain_sets (scope_in (top_scope (request_view request) ask i) levels) (pieces_in cut) (facet_view job.node.now) (open_in (pieces_in cut) [] levels)) job.domain.items (kind_view (kind_of job.node.now)) (stats_of (inner_view job.node.now)) job.tally st.is_job.counted

-- the answer goes on
abbrev pub GoesFromFacet : Request → Ask → Sets → List PartialBucket → List Level → FacetJob → Gone → Type 0
GoesFromFacet request ask roots buckets levels job g =
    (s : Schema) (cut : List Segmented) → StandsAtFacet s cut request ask (length buckets) levels job → length cut ≤ length job.domain.items → AreFirst (map (base_of (request_view request) []) (pieces_in cut)) roots
    → AreFront (request_view request) (pieces_in cut) ask buckets → IsUnderWay request ask buckets levels job cut
    → (k : ℕ) × GoesOn s cut request ask (openings (linked (map bucket_view buckets)) ++ ended_before request ask (length buckets) levels job cut) k g

pub facet_goes : (request : Request) (ask : Ask) (roots : Sets) (buckets : List PartialBucket) (old after : List Level) (job : FacetJob) (list : List PartialBucket) (next : Next) → FacetListed job list → FacetEnded old after job list next
    → (r : Result Gone WantMemory) → IfOk r (GoesAfter request ask roots buckets after next) → IfOk r (GoesFromFacet request ask roots buckets old job)
facet_goes request ask roots buckets old after job list next l told (Ok g) goes = λ s cut st past based front under.
    (opened_by next, goes s cut (ended_before request ask (length buckets) old job cut) st.can based front (facet_comes s cut request ask buckets old after job list next l told st under past))
facet_goes request ask roots buckets old after job list next l told (Err x) goes = goes

-- ---- one unit more

-- of the same job
pub top_further : (s : Schema) (segments : List Segmented) (request : Request) (ask : Ask) (roots : Vec (List Bool) Global) (buckets : Vec PartialBucket Global) (levels : Vec Level Global) (job : TopJob) (done : ℕ) → levels.items ≡ []
    → job.at < length segments → IsOneFurther (length segments) done job.at → StandsAtTop s segments request ask (length buckets.items) roots.items job → AreFront (request_view request) (pieces_in segments) ask buckets.items
    → UnitDone s segments request ask (openings (linked (map bucket_view buckets.items))) done (gone.On (record { roots = roots; buckets = buckets; levels = levels; job = Top job }) 0)
top_further s segments request ask roots buckets levels job done none within further st front =
    let unit = within_unit (length segments) done job.at further within in
    (record { can = st.can; roots = st.based; front = front; job = (st.is_job, none) }, inl (record { ended = refl; done = unit.0; within = unit.1; opens = refl }))

pub facet_further : (s : Schema) (segments : List Segmented) (request : Request) (ask : Ask) (roots : Vec (List Bool) Global) (buckets : Vec PartialBucket Global) (levels : Vec Level Global) (job : FacetJob) (done : ℕ)
    → length job.domain.items < length segments → IsOneFurther (length segments) done (length job.domain.items) → StandsAtFacet s segments request ask (length buckets.items) levels.items job
    → AreFirst (map (base_of (request_view request) []) (pieces_in segments)) roots.items → AreFront (request_view request) (pieces_in segments) ask buckets.items → IsUnderWay request ask buckets.items levels.items job segments
    → UnitDone s segments request ask (openings (linked (map bucket_view buckets.items)) ++ ended_before request ask (length buckets.items) levels.items job segments) done (gone.On (record { roots = roots; buckets = buckets; levels = levels; job = Facet job }) 0)
facet_further s segments request ask roots buckets levels job done within further st based front under =
    let unit = within_unit (length segments) done (length job.domain.items) further within in
    (record { can = st.can; roots = based; front = front; job = (st.is_job, under) }, inl (record { ended = refl; done = unit.0; within = unit.1; opens = refl }))

-- the last of a job
goes_past : (s : Schema) (segments : List Segmented) (request : Request) (ask : Ask) (E : List ℕ) (done k : ℕ) (g : Gone) → done + 1 ≡ units_each (length segments) → GoesOn s segments request ask E k g → UnitDone s segments request ask E done g
goes_past s segments request ask E done k (gone.On after opened) last b = (b.0, inr (record { last = last; begins = b.1; ended = b.3 ∙ ap (λ n. E ++ n ∷ []) (sym b.2) }))
goes_past s segments request ask E done k (gone.Whole m) last b = (b.0, last, b.1)

abbrev pub FollowsTop : Request → Ask → ℕ → Sets → List PartialBucket → TopJob → Gone → Type 0
FollowsTop request ask n roots buckets job g =
    (s : Schema) (cut : List Segmented) (done : ℕ) → length cut ≡ n → done < units_each (length cut) → IsOneFurther (length cut) done job.at → StandsAtTop s cut request ask (length buckets) roots job
    → AreFront (request_view request) (pieces_in cut) ask buckets → UnitDone s cut request ask (openings (linked (map bucket_view buckets))) done g

pub top_past : (request : Request) (ask : Ask) (n : ℕ) (roots : Sets) (buckets : List PartialBucket) (job : TopJob) → n ≤ job.at
    → (r : Result Gone WantMemory) → IfOk r (GoesFromTop request ask roots buckets job) → IfOk r (FollowsTop request ask n roots buckets job)
top_past request ask n roots buckets job past (Ok g) goes = λ s cut done count more further st front.
    let over : length cut ≤ job.at = omega (arith, count, past) in
    let on = goes s cut st over front in
    goes_past s cut request ask (openings (linked (map bucket_view buckets))) done on.0 g (last_unit (length cut) done job.at more further over) on.1
top_past request ask n roots buckets job past (Err x) goes = goes

abbrev pub FollowsFacet : Request → Ask → ℕ → Sets → List PartialBucket → List Level → FacetJob → Gone → Type 0
FollowsFacet request ask n roots buckets levels job g =
    (s : Schema) (cut : List Segmented) (done : ℕ) → length cut ≡ n → done < units_each (length cut) → IsOneFurther (length cut) done (length job.domain.items) → StandsAtFacet s cut request ask (length buckets) levels job
    → AreFirst (map (base_of (request_view request) []) (pieces_in cut)) roots → AreFront (request_view request) (pieces_in cut) ask buckets → IsUnderWay request ask buckets levels job cut
    → UnitDone s cut request ask (openings (linked (map bucket_view buckets)) ++ ended_before request ask (length buckets) levels job cut) done g

pub facet_past : (request : Request) (ask : Ask) (n : ℕ) (roots : Sets) (buckets : List PartialBucket) (levels : List Level) (job : FacetJob) → n ≤ length job.domain.items
    → (r : Result Gone WantMemory) → IfOk r (GoesFromFacet request ask roots buckets levels job) → IfOk r (FollowsFacet request ask n roots buckets levels job)
facet_past request ask n roots buckets levels job past (Ok g) goes = λ s cut done count more further st based front under.
    let over : length cut ≤ length job.domain.items = omega (arith, count, past) in
    let on = goes s cut st over based front under in
    goes_past s cut request ask (openings (linked (map bucket_view buckets)) ++ ended_before request ask (length buckets) levels job cut) done on.0 g (last_unit (length cut) done (length job.domain.items) more further over) on.1
facet_past request ask n roots buckets levels job past (Err x) goes = goes

-- ---- a unit

-- the bucket's number, and its facet after a step
pub stands_numbered : (segments : List Segmented) (request : Request) (ask : Ask) (i n : ℕ) (roots : Sets) (job : TopJob) → i ≡ n → (s : Schema) × StandsAtTop s segments request ask n roots job → (s : Schema) × StandsAtTop s segments request ask i roots job
stands_numbered segments request ask i n roots job number st = (st.0, subst (λ j. StandsAtTop st.0 segments request ask j roots job) (sym number) st.1)

pub step_facet : (segments : List Segmented) (request : Request) (ask : Ask) (i n : ℕ) (roots reached : Sets) (before after : TopJob) → i ≡ n → (s : Schema) × StandsAtTop s segments request ask n roots before
    → ((s : Schema) → StandsAtTop s segments request ask i roots before → IsTopStep s segments request ask i reached before after) → IsTrue (has_buckets (kind_of after.node.now))
step_facet segments request ask i n roots reached before after number st steps =
    let here = stands_numbered segments request ask i n roots before number st in
    (steps here.0 here.1).stands.is_job.node.facet

pub top_unit_done : (segments : List Segmented) (request : Request) (ask : Ask) (i n : ℕ) (roots reached : Sets) (buckets : List PartialBucket) (before after : TopJob) → i ≡ length buckets → length segments ≡ n → before.at < units_each n
    → ((s : Schema) → StandsAtTop s segments request ask i roots before → IsTopStep s segments request ask i reached before after)
    → (r : Result Gone WantMemory) → IfOk r (FollowsTop request ask n reached buckets after)
    → IfOk r (λ g. (s : Schema) → StandsAtTop s segments request ask (length buckets) roots before → AreFront (request_view request) (pieces_in segments) ask buckets → UnitDone s segments request ask (openings (linked (map bucket_view buckets))) before.at g)
top_unit_done segments request ask i n roots reached buckets before after number count within steps (Ok g) follows = λ s st front.
    let step = subst (λ j. IsTopStep s segments request ask j reached before after) number (steps s (subst (λ j. StandsAtTop s segments request ask j roots before) (sym number) st)) in
    follows s segments before.at count (subst (λ m. before.at < units_each m) (sym count) within) step.further step.stands front
top_unit_done segments request ask i n roots reached buckets before after number count within steps (Err x) follows = follows

-- a segment more changes neither the facet nor the bucket that it is in
same_row : (o : Scope) (V : Pieces) (levels : List Level) (before after : FacetJob) → after.node.now ≡ before.node.now → row_under_way o V levels after ≡ row_under_way o V levels before
same_row o V levels before after same = ap (λ (n : Node). row_in (scope_in o levels) V (nested_view n) (open_in V [] levels)) same

-- the levels as they are read
pub stands_in : (segments : List Segmented) (request : Request) (ask : Ask) (i : ℕ) (levels read : List Level) (job : FacetJob) → read ≡ levels → (s : Schema) × StandsAtFacet s segments request ask i levels job → (s : Schema) × StandsAtFacet s segments request ask i read job
stands_in segments request ask i levels read job same st = (st.0, subst (λ ls. StandsAtFacet st.0 segments request ask i ls job) (sym same) st.1)

pub facet_steps : (segments : List Segmented) (request : Request) (ask : Ask) (i : ℕ) (levels read : List Level) (before after : FacetJob) → read ≡ levels
    → ((s : Schema) → StandsAtFacet s segments request ask i read before → IsFacetStep s segments request ask i read before after)
    → (s : Schema) → StandsAtFacet s segments request ask i levels before → IsFacetStep s segments request ask i levels before after
facet_steps segments request ask i levels read before after same steps s st = subst (λ ls. IsFacetStep s segments request ask i ls before after) same (steps s (subst (λ ls. StandsAtFacet s segments request ask i ls before) (sym same) st))

pub stepped_facet : (segments : List Segmented) (request : Request) (ask : Ask) (i : ℕ) (levels read : List Level) (before after : FacetJob) → read ≡ levels → (s : Schema) × StandsAtFacet s segments request ask i levels before
    → ((s : Schema) → StandsAtFacet s segments request ask i read before → IsFacetStep s segments request ask i read before after)
    → (s : Schema) × (cut : List Segmented) × StandsAtFacet s cut request ask i levels after
stepped_facet segments request ask i levels read before after same st steps = (st.0, segments, record { can = st.1.can; is_job = (facet_steps segments request ask i levels read before after same steps st.0 st.1).job })

pub facet_unit_done : (segments : List Segmented) (request : Request) (ask : Ask) (n : ℕ) (roots : Sets) (buckets : List PartialBucket) (levels : List Level) (before after : FacetJob) → length segments ≡ n → length before.domain.items < units_each n
    → ((s : Schema) → StandsAtFacet s segments request ask (length buckets) levels before → IsFacetStep s segments request ask (length buckets) levels before after)
    → (r : Result Gone WantMemory) → IfOk r (FollowsFacet request ask n roots buckets levels after)
    → IfOk r (λ g. (s : Schema) → StandsAtFacet s segments request ask (length buckets) levels before → AreFirst (map (base_of (request_view request) []) (pieces_in segments)) roots → AreFront (request_view request) (pieces_in segments) ask buckets
    → IsUnderWay request ask buckets levels before segments
    → UnitDone s segments request ask (openings (linked (map bucket_view buckets)) ++ ended_before request ask (length buckets) levels before segments) (length before.domain.items) g)
facet_unit_done segments request ask n roots buckets levels before after count within steps (Ok g) follows = λ s st based front under.
    let o = top_scope (request_view request) ask (length buckets) in
    let V = pieces_in segments in
    let step = steps s st in
    let row = same_row o V levels before after step.same in
    subst (λ ps. UnitDone s segments request ask (openings (linked (map bucket_view buckets)) ++ zeroed (ended_in o V levels ps)) (length before.domain.items) g) row
    (follows s segments (length before.domain.items) count (subst (λ m. length before.domain.items < units_each m) (sym count) within) step.further (record { can = st.can; is_job = step.job }) based front (subst (IsUnder request V ask (length buckets) levels) (sym row) under))
facet_unit_done segments request ask n roots buckets levels before after count within steps (Err x) follows = follows

-- ---- an answer that is partly built

no_bucket : (k : Key) (stats : Stats) (rows : Rows) (rest : Partials) → no_partials ≡ partial k stats rows rest → ⊥
no_bucket k stats rows rest e = cc

-- a bucket that there is has a number below their count
is_within : (r : definition.Request) (V : Pieces) (ask : Ask) (i : ℕ) (n : Nested) (k : Key) → IsTop r V ask i n k → i < asked_count ask
is_within r V ask i n k top = not_past (λ h. no_bucket k _ _ _ (sym (past_last r V ask i h) ∙ top))
  where
    not_past : (asked_count ask ≤ i → ⊥) → i < asked_count ask
    not_past past = grind (arith, past)

module _ (s : Schema) (segments : List Segmented) (request : Request) (ask : Ask) (b : Building) (built : IsBuilt s segments request ask b) where
  pub stands_top : (job : TopJob) → b.job ≡ Top job → StandsAtTop s segments request ask (length b.buckets.items) b.roots.items job
  stands_top job is = record { can = built.can; based = built.roots; is_job = (subst (IsJob s request (pieces_in segments) ask (length b.buckets.items) b.roots.items b.levels.items) is built.job).0 }

  pub top_number : (job : TopJob) → b.job ≡ Top job → length b.buckets.items < asked_count ask
  top_number job is = is_within (request_view request) (pieces_in segments) ask (length b.buckets.items) (nested_view job.node.now) (key_view job.key) (stands_top job is).is_job.top

  pub facet_number : (job : FacetJob) → b.job ≡ Facet job → length b.buckets.items < asked_count ask
  facet_number job is =
      let under = (subst (IsJob s request (pieces_in segments) ask (length b.buckets.items) b.roots.items b.levels.items) is built.job).1 in
      is_within (request_view request) (pieces_in segments) ask (length b.buckets.items) under.facet under.key under.top

  pub stands_facet : (job : FacetJob) → b.job ≡ Facet job → StandsAtFacet s segments request ask (length b.buckets.items) b.levels.items job
  stands_facet job is = record { can = built.can; is_job = (subst (IsJob s request (pieces_in segments) ask (length b.buckets.items) b.roots.items b.levels.items) is built.job).0 }

  pub under_facet : (job : FacetJob) → b.job ≡ Facet job → IsUnderWay request ask b.buckets.items b.levels.items job segments
  under_facet job is = (subst (IsJob s request (pieces_in segments) ask (length b.buckets.items) b.roots.items b.levels.items) is built.job).1

pub built_top : (segments : List Segmented) (request : Request) (ask : Ask) (b : Building) (job : TopJob) → b.job ≡ Top job → (r : Result Gone WantMemory)
    → IfOk r (λ g. (s : Schema) → StandsAtTop s segments request ask (length b.buckets.items) b.roots.items job → AreFront (request_view request) (pieces_in segments) ask b.buckets.items
    → UnitDone s segments request ask (openings (linked (map bucket_view b.buckets.items))) job.at g)
    → IfOk r (λ g. (s : Schema) → IsBuilt s segments request ask b → UnitDone s segments request ask (ended_by (request_view request) (pieces_in segments) ask b) (done_in b.job) g)
built_top segments request ask b job is (Ok g) done = λ s built.
    subst (λ j. UnitDone s segments request ask (ended (top_scope (request_view request) ask (length b.buckets.items)) (pieces_in segments) b.buckets.items b.levels.items j) (done_in j) g) (sym is) (done s (stands_top s segments request ask b built job is) built.front)
built_top segments request ask b job is (Err x) done = done

pub built_facet : (segments : List Segmented) (request : Request) (ask : Ask) (b : Building) (job : FacetJob) → b.job ≡ Facet job → (r : Result Gone WantMemory)
    → IfOk r (λ g. (s : Schema) → StandsAtFacet s segments request ask (length b.buckets.items) b.levels.items job → AreFirst (map (base_of (request_view request) []) (pieces_in segments)) b.roots.items
    → AreFront (request_view request) (pieces_in segments) ask b.buckets.items → IsUnderWay request ask b.buckets.items b.levels.items job segments
    → UnitDone s segments request ask (openings (linked (map bucket_view b.buckets.items)) ++ ended_before request ask (length b.buckets.items) b.levels.items job segments) (length job.domain.items) g)
    → IfOk r (λ g. (s : Schema) → IsBuilt s segments request ask b → UnitDone s segments request ask (ended_by (request_view request) (pieces_in segments) ask b) (done_in b.job) g)
built_facet segments request ask b job is (Ok g) done = λ s built.
    subst (λ j. UnitDone s segments request ask (ended (top_scope (request_view request) ask (length b.buckets.items)) (pieces_in segments) b.buckets.items b.levels.items j) (done_in j) g) (sym is)
    (done s (stands_facet s segments request ask b built job is) built.roots built.front (under_facet s segments request ask b built job is))
built_facet segments request ask b job is (Err x) done = done
