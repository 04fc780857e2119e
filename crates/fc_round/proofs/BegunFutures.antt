-- Futures that have not begun.
use Rattle.std.proofs.Common.{◌≡◌, ℕ, List, [], ◌∷◌, Some, sym, ◌∙◌}
use Rattle.std.specs.Prelude.{slice_get}
use Rattle.fc_spec.specs.documents.Document.{Block}
use Rattle.fc_spec.specs.documents.World.{World}
use Rattle.fc_spec.specs.laws.ShardAlone.{ExactFromItsBlocks}
use Rattle.fc_spec.specs.messages.TopRounds.{ExactAsk, exact_answer}
use Rattle.fc_request.specs.RequestView.{request_view}
use Rattle.fc_request.specs.declared.request.Request.{Request}
use Rattle.fc_phase.specs.Phases.{Phase, answer_of}
use Rattle.fc_round.specs.Begun.{IsBegunFor}

-- what comes is the answer of the shard that has these blocks
pub begun_answer : (request : Request) (blocks : List Block) (p : Phase) (W : World) (i : ℕ) (ask : ExactAsk) → ExactFromItsBlocks → IsBegunFor request blocks ask p → slice_get W i ≡ Some blocks → answer_of p ≡ exact_answer (request_view request) W i ask
begun_answer request blocks p W i ask alone begun there = begun.answer ∙ alone (request_view request) (blocks ∷ []) W 0 i (sym there) ask
