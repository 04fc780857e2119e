-- One segment more of a job.
use Rattle.std.specs.Prelude.{◌≡◌, ℕ, ◌+◌, ◌<◌, ◌≤◌, List, [], length, map}
use Rattle.fc_spec.specs.documents.Schema.{Schema}
use Rattle.fc_spec.specs.messages.Message as message
use Rattle.fc_request.specs.RequestView.{request_view}
use Rattle.fc_request.specs.declared.request.Request.{Request}
use Rattle.fc_segment.specs.Segmented.{Segmented}
use Rattle.fc_answers.specs.SetAnswer.{Sets, base_of}
use Rattle.fc_jobs.specs.Gathered.{AreFirst}
use Rattle.fc_levels.specs.declared.level.Level.{Level}
use Rattle.fc_jobs.specs.Pieces.{pieces_in}
use Rattle.fc_units.specs.Asked.{top_scope}
use Rattle.fc_units.specs.Built.{CanAnswer, IsFacetJob, IsTopJob}
use Rattle.fc_units.specs.declared.jobs.FacetJob.{FacetJob}
use Rattle.fc_units.specs.declared.jobs.TopJob.{TopJob}

-- a segment more, where there is one left
pub record IsOneFurther (segments before after : ℕ) : Type 0 where
  pub more : before < segments → after ≡ before + 1
  pub none : segments ≤ before → after ≡ before

-- the job of the top bucket with this number
pub record StandsAtTop (s : Schema) (segments : List Segmented) (request : Request) (ask : message.Ask) (number : ℕ) (roots : Sets) (job : TopJob) : Type 0 where
  pub can : CanAnswer s segments request
  pub based : AreFirst (map (base_of (request_view request) []) (pieces_in segments)) roots
  pub is_job : IsTopJob s request (pieces_in segments) ask number roots job

pub record IsTopStep (s : Schema) (segments : List Segmented) (request : Request) (ask : message.Ask) (number : ℕ) (roots : Sets) (before after : TopJob) : Type 0 where
  pub stands : StandsAtTop s segments request ask number roots after
  pub further : IsOneFurther (length segments) before.at after.at

-- a facet's job in the bucket that is open
pub record StandsAtFacet (s : Schema) (segments : List Segmented) (request : Request) (ask : message.Ask) (number : ℕ) (levels : List Level) (job : FacetJob) : Type 0 where
  pub can : CanAnswer s segments request
  pub is_job : IsFacetJob s (top_scope (request_view request) ask number) (pieces_in segments) levels job

pub record IsFacetStep (s : Schema) (segments : List Segmented) (request : Request) (ask : message.Ask) (number : ℕ) (levels : List Level) (before after : FacetJob) : Type 0 where
  pub same : after.node.now ≡ before.node.now
  pub job : IsFacetJob s (top_scope (request_view request) ask number) (pieces_in segments) levels after
  pub further : IsOneFurther (length segments) (length before.domain.items) (length after.domain.items)
