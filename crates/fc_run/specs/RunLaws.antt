-- The laws that the promises of a run stand on.
use Rattle.fc_spec.specs.laws.FoldedNumbers.{FoldsIntoNumbers, FoldsSingleIndex}
use Rattle.fc_spec.specs.laws.NumberedPaths.{AreNumberedPathsExact, AreNumberedTopsExact}
use Rattle.fc_spec.specs.laws.PhaseLaws.{BookedAreOutputs, PhasesAddUp}
use Rattle.fc_spec.specs.laws.ScriptLaws.{AddedAreWithin, SearchesAreFew, IsOnlyOutput, StandByPhase}

pub record AreRunLaws : Type 0 where
  pub phases : PhasesAddUp
  pub outputs : BookedAreOutputs
  pub by_phase : StandByPhase
  pub few : SearchesAreFew
  pub only : IsOnlyOutput
  pub added : AddedAreWithin
  pub single : FoldsSingleIndex
  pub numbers : FoldsIntoNumbers
  pub refined : AreNumberedPathsExact
  pub tops : AreNumberedTopsExact
