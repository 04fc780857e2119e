-- A shard's future for what it is asked.
use Rattle.std.specs.Prelude.{◌≡◌, List, [], ◌∷◌, false}
use Rattle.fc_spec.specs.documents.Document.{Block}
use Rattle.fc_spec.specs.messages.TopRounds.{ExactAsk, exact_answer}
use Rattle.fc_request.specs.RequestView.{request_view}
use Rattle.fc_request.specs.declared.request.Request.{Request}
use Rattle.fc_phase.specs.Phases.{Phase, answer_of}

-- it has not begun, and will give the answer of a shard with these blocks
pub record IsBegunFor (request : Request) (blocks : List Block) (ask : ExactAsk) (p : Phase) : Type 0 where
  pub answer : answer_of p ≡ exact_answer (request_view request) (blocks ∷ []) 0 ask
  pub fresh : p.spent ≡ false
