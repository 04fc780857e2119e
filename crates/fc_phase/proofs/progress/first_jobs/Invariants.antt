use Rattle.fc_request.specs.RequestView.{IsRoot}
use Rattle.fc_refine.specs.AskView.{ask_view}
use Rattle.fc_answers.specs.SetAnswer.{AreWhole, Pieces}
use Rattle.fc_phase.proofs.CountedTops.{IsCountedTo}
use Rattle.fc_phase.proofs.progress.first_jobs.Given as goal

abbrev pub invariant-loop-number : goal.invariant-loop-number
invariant-loop-number l = (V : Pieces) → AreWhole V → IsRoot l.request.root → IsCountedTo l.request V (ask_view l.ask) l.number l.jobs
