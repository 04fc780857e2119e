-- A shard's future.
use Rattle.std.specs.Prelude.{◌≡◌, ℕ, List, false, None, Some}
use Rattle.fc_spec.specs.documents.Document.{Block}
use Rattle.fc_spec.specs.messages.Message.{Ask}
use Rattle.fc_request.specs.declared.request.Request.{Request}
use Rattle.fc_refine.specs.AskView.{ask_view}
use Rattle.fc_phase.specs.Courses.{course_phase}
use Rattle.fc_phase.specs.Phases.{Phase}
use Rattle.fc_phase.specs.declared.future.PhaseFuture.{PhaseFuture}

abbrev pub phase_of : {B : Type 0} {Q : B → Type 0} → PhaseFuture B Q → Phase
phase_of f = course_phase f.course

-- nothing is done of the answer to this ask
pub record IsBegun (request : Request) (blocks : List Block) (ask : Ask) (p : Phase) : Type 0 where
  pub request_is : p.request ≡ request
  pub ask_is : ask_view p.ask ≡ ask
  pub least_is : p.least ≡ None
  pub blocks_are : p.blocks ≡ blocks
  pub done : p.done ≡ 0
  pub fresh : p.spent ≡ false

-- nothing is done of the answer from these counts on
pub record IsLeastBegun (request : Request) (blocks : List Block) (ns : List ℕ) (p : Phase) : Type 0 where
  pub request_is : p.request ≡ request
  pub least_is : p.least ≡ Some ns
  pub blocks_are : p.blocks ≡ blocks
  pub done : p.done ≡ 0
  pub fresh : p.spent ≡ false
