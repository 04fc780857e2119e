-- The course of a shard's future.
use Rattle.fc_phase.specs.Phases.{Phase}
use Rattle.fc_phase.specs.declared.course.Course.{Course}
use Rattle.fc_phase.specs.declared.course.Course.TheVariants.{Asked, Least}

abbrev pub course_phase : Course → Phase
course_phase (Asked p) = p
course_phase (Least p) = p
