-- What the fields of a future's progress stand for, and what is known of them.
use Rattle.std.specs.Prelude.{◌≡◌, List, length, map, Option, None, Some, is_none}
use Rattle.std.specs.Arc.{arc_value}
use Rattle.fc_spec.specs.documents.Schema.{Schema}
use Rattle.fc_spec.specs.words.Lists.{joined}
use Rattle.fc_request.specs.RequestView.{request_view}
use Rattle.fc_refine.specs.AskView.{ask_view}
use Rattle.fc_segment.specs.Segmented.{Segmented}
use Rattle.fc_answers.specs.SetAnswer.{live_world}
use Rattle.fc_jobs.specs.BasesKept.{AreBases}
use Rattle.fc_refine.specs.Named.{NamesKeys}
use Rattle.fc_jobs.specs.Pieces.{pieces_in}
use Rattle.fc_units.specs.Built.{IsBuilt, IsCountedUp}
use Rattle.fc_phase.specs.Phases.{Phase, left_of}
use Rattle.fc_units.specs.declared.building.Building.{Building}
use Rattle.fc_phase.specs.declared.progress.Progress.TheInside.{Inside}

abbrev pub segments_in : Inside → List Segmented
segments_in p = map arc_value p.segments.items

abbrev pub phase_in : Inside → Phase
phase_in p = record { request = p.request.now; ask = p.ask; least = None; blocks = joined (live_world (pieces_in (segments_in p))); segments = length p.segments.items; done = p.done; spent = is_none p.building }

-- the answer is partly built, and its units that are done are counted
pub record IsUnderWay (p : Inside) (b : Building) : Type 0 where
  pub schema : Schema
  pub built : IsBuilt schema (segments_in p) p.request.now (ask_view p.ask) b
  pub counted : IsCountedUp (segments_in p) p.request.now (ask_view p.ask) b p.done
  pub names : NamesKeys (request_view p.request.now).nodes (ask_view p.ask)

abbrev pub IsUnderWayIn : Inside → Option Building → Type 0
IsUnderWayIn p None = Unit {0}
IsUnderWayIn p (Some b) = IsUnderWay p b

pub record IsSound (p : Inside) : Type 0 where
  pub under_way : IsUnderWayIn p p.building
  pub left : p.left ≡ left_of (phase_in p)
  pub bases : AreBases (request_view p.request.now) (pieces_in (segments_in p)) p.bases
