-- What a unit makes of an answer that is partly built.
use Rattle.std.specs.Prelude.{◌≡◌, ◌⊎◌, ℕ, ◌+◌, ◌<◌, List, [], ◌∷◌, ◌++◌, length, map, All}
use Rattle.fc_spec.specs.documents.Schema.{Schema}
use Rattle.fc_spec.specs.messages.Message as message
use Rattle.fc_spec.specs.requests.Buckets.{Key}
use Rattle.fc_spec.specs.requests.Request as definition
use Rattle.fc_partial.specs.BucketView.{bucket_view, linked, message_view, node_view}
use Rattle.fc_partial.specs.declared.bucket.PartialBucket.{PartialBucket}
use Rattle.fc_request.specs.RequestView.{request_view}
use Rattle.fc_request.specs.declared.request.Request.{Request}
use Rattle.fc_segment.specs.Segmented.{Segmented}
use Rattle.fc_answers.specs.SetAnswer.{Pieces, set_answer}
use Rattle.fc_levels.specs.Facets.{Nested, nested_view}
use Rattle.fc_levels.specs.Jobs.{openings, units_each}
use Rattle.fc_levels.specs.Levels.{ended_in, open_in, put, row_in, scope_in}
use Rattle.fc_levels.specs.Steps.{IsLevel, IsValidNode}
use Rattle.fc_levels.specs.declared.level.Level.{Level}
use Rattle.fc_levels.specs.declared.level.Next.{Next}
use Rattle.fc_levels.specs.declared.level.Next.TheVariants.{Job, Whole}
use Rattle.fc_jobs.specs.Pieces.{pieces_in}
use Rattle.fc_units.specs.Asked.{IsAskedFacet, IsTop, answer_from, top_bucket, top_domain, top_scope}
use Rattle.fc_units.specs.Built.{IsBuilt, IsUnder, done_in, ended, zeroed}
use Rattle.fc_units.specs.declared.building.Building.{Building}
use Rattle.fc_units.specs.declared.going.Gone.{Gone}
use Rattle.fc_units.specs.declared.going.Gone.TheVariants as gone

-- for each job that has ended, how many jobs are known from its end on
abbrev pub ended_by : definition.Request → Pieces → message.Ask → Building → List ℕ
ended_by r V ask b = ended (top_scope r ask (length b.buckets.items)) V b.buckets.items b.levels.items b.job

-- whole buckets are the first of the answer
abbrev pub AreFront : definition.Request → Pieces → message.Ask → List PartialBucket → Type 0
AreFront r V ask buckets = put (map bucket_view buckets) (answer_from r V ask (length buckets)) ≡ set_answer r V ask

-- the next top bucket's job begins, or there is none
abbrev pub Begins : Schema → List Segmented → Request → message.Ask → List PartialBucket → Gone → Type 0
Begins s segments request ask buckets (gone.On after opened) =
    IsBuilt s segments request ask after × (done_in after.job ≡ 0) × (opened ≡ 0) × (ended_by (request_view request) (pieces_in segments) ask after ≡ openings (linked (map bucket_view buckets)))
Begins s segments request ask buckets (gone.Whole m) =
    (message_view m ≡ set_answer (request_view request) (pieces_in segments) ask)
    × (openings (set_answer (request_view request) (pieces_in segments) ask) ≡ openings (linked (map bucket_view buckets)))

-- what the end of a job in the top bucket with this number came to: a facet's job, with what has ended before it; or the bucket is whole
abbrev pub Ends : Schema → List Segmented → Request → message.Ask → ℕ → List ℕ → List Level → Next → Type 0
Ends s segments request ask number before levels (Job n k) =
    IsValidNode s n.now × All (IsLevel s (pieces_in segments)) levels × (0 < length levels)
    × IsUnder request (pieces_in segments) ask number levels (row_in (scope_in (top_scope (request_view request) ask number) levels) (pieces_in segments) (nested_view n.now) (open_in (pieces_in segments) [] levels))
    × (zeroed (ended_in (top_scope (request_view request) ask number) (pieces_in segments) levels (row_in (scope_in (top_scope (request_view request) ask number) levels) (pieces_in segments) (nested_view n.now) (open_in (pieces_in segments) [] levels))) ≡ before ++ k ∷ [])
Ends s segments request ask number before levels (Whole p domain) =
    (n : Nested) × (k : Key) × IsAskedFacet (nested_view request.root) (request_view request) ask number n
    × IsTop (request_view request) (pieces_in segments) ask number n k
    × (node_view p ≡ top_bucket (top_scope (request_view request) ask number) (pieces_in segments) n k (top_domain (request_view request) (pieces_in segments) ask number n.0))
    × (domain.items ≡ top_domain (request_view request) (pieces_in segments) ask number n.0)
    × (openings (node_view p) ≡ before ++ 0 ∷ [])

-- the answer goes on from there; E are the jobs that had ended before
abbrev pub GoesOn : Schema → List Segmented → Request → message.Ask → List ℕ → ℕ → Gone → Type 0
GoesOn s segments request ask E k (gone.On after opened) =
    IsBuilt s segments request ask after × (done_in after.job ≡ 0) × (opened ≡ k) × (ended_by (request_view request) (pieces_in segments) ask after ≡ E ++ k ∷ [])
GoesOn s segments request ask E k (gone.Whole m) =
    (message_view m ≡ set_answer (request_view request) (pieces_in segments) ask)
    × (openings (set_answer (request_view request) (pieces_in segments) ask) ≡ E ++ 0 ∷ [])

-- how many jobs are known from the end of a job on
abbrev pub opened_by : Next → ℕ
opened_by (Job n k) = k
opened_by (Whole p domain) = 0

-- one unit more is done; E are the jobs that had ended before, and of the job under way k segments were done: a segment more of the same job; or it has ended and the next one begins; or the answer is whole
pub record IsFurther (segments : ℕ) (r : definition.Request) (V : Pieces) (ask : message.Ask) (E : List ℕ) (k : ℕ) (after : Building) (opened : ℕ) : Type 0 where
  pub ended : ended_by r V ask after ≡ E
  pub done : done_in after.job ≡ k + 1
  pub within : done_in after.job < units_each segments
  pub opens : opened ≡ 0

pub record IsPast (segments : ℕ) (r : definition.Request) (V : Pieces) (ask : message.Ask) (E : List ℕ) (k : ℕ) (after : Building) (opened : ℕ) : Type 0 where
  pub last : k + 1 ≡ units_each segments
  pub begins : done_in after.job ≡ 0
  pub ended : ended_by r V ask after ≡ E ++ opened ∷ []

abbrev pub UnitDone : Schema → List Segmented → Request → message.Ask → List ℕ → ℕ → Gone → Type 0
UnitDone s segments request ask E k (gone.On after opened) =
    IsBuilt s segments request ask after
    × (IsFurther (length segments) (request_view request) (pieces_in segments) ask E k after opened ⊎ IsPast (length segments) (request_view request) (pieces_in segments) ask E k after opened)
UnitDone s segments request ask E k (gone.Whole m) =
    (message_view m ≡ set_answer (request_view request) (pieces_in segments) ask) × (k + 1 ≡ units_each (length segments))
    × (openings (set_answer (request_view request) (pieces_in segments) ask) ≡ E ++ 0 ∷ [])

-- the same, with no job that is known from then on
abbrev pub known_already : Next → Next
known_already (Job n k) = Job n 0
known_already (Whole p domain) = Whole p domain
