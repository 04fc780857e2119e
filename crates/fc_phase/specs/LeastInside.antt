-- What the fields of the progress of an answer from counts on stand for, and what is known of them.
use Rattle.std.specs.Prelude.{◌≡◌, ◌+◌, ◌*◌, ◌^◌, ◌<◌, ◌≤◌, List, length, map, Option, None, Some, is_none}
use Rattle.std.specs.Arc.{arc_value}
use Rattle.fc_spec.specs.documents.Schema.{Schema}
use Rattle.fc_spec.specs.words.Lists.{joined}
use Rattle.fc_request.specs.RequestView.{request_view}
use Rattle.fc_refine.specs.declared.ask.Ask.TheVariants.{First}
use Rattle.fc_segment.specs.Segmented.{Segmented}
use Rattle.fc_answers.specs.SetAnswer.{AreWhole, live_world}
use Rattle.fc_jobs.specs.BasesKept.{AreBases}
use Rattle.fc_jobs.specs.Pieces.{pieces_in}
use Rattle.fc_levels.specs.Jobs.{units_each}
use Rattle.fc_units.specs.LeastLists.{NestNothing}
use Rattle.fc_units.specs.Leasts.{IsLeastBuilt, jobs_ended, least_done}
use Rattle.fc_units.specs.declared.leasts.LeastBuilding.{LeastBuilding}
use Rattle.fc_phase.specs.Phases.{Phase, units_of}
use Rattle.fc_phase.specs.declared.least_progress.LeastProgress.TheInside.{Inside}

abbrev pub segments_in : Inside → List Segmented
segments_in p = map arc_value p.segments.items

abbrev pub phase_in : Inside → Phase
phase_in p = record { request = p.request.now; ask = First; least = Some p.least.items; blocks = joined (live_world (pieces_in (segments_in p))); segments = length p.segments.items; done = p.done; spent = is_none p.building }

-- the answer is partly built, and its units that are done are counted
pub record IsUnderWay (p : Inside) (b : LeastBuilding) : Type 0 where
  pub schema : Schema
  pub built : IsLeastBuilt schema (segments_in p) p.request.now p.least.items b
  pub within : least_done b < units_each (length (segments_in p))
  pub count : p.done ≡ units_each (length (segments_in p)) * jobs_ended b + least_done b

abbrev pub IsUnderWayIn : Inside → Option LeastBuilding → Type 0
IsUnderWayIn p None = Unit {0}
IsUnderWayIn p (Some b) = IsUnderWay p b

pub record IsSound (p : Inside) : Type 0 where
  pub under_way : IsUnderWayIn p p.building
  pub whole : AreWhole (pieces_in (segments_in p))
  pub bare : NestNothing (request_view p.request.now).nodes
  pub units : p.units ≡ units_of (phase_in p)
  pub fit : p.units < 2 ^ 64
  pub within : p.done ≤ p.units
  pub bases : AreBases (request_view p.request.now) (pieces_in (segments_in p)) p.bases
