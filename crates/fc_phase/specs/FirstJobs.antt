-- The jobs that are known from the start.
use Rattle.std.specs.Prelude.{◌≡◌, ℕ, ◌+◌}
use Rattle.fc_spec.specs.messages.Message.{Ask}
use Rattle.fc_request.specs.RequestView.{IsRoot, request_view}
use Rattle.fc_request.specs.declared.request.Request.{Request}
use Rattle.fc_answers.specs.SetAnswer.{AreWhole, Pieces, set_answer}
use Rattle.fc_levels.specs.Jobs.{opened, top_buckets}

-- those of the top buckets, and of the lists directly in them, over whatever segments in which each block is live whole or not at all
abbrev pub FirstJobs : Request → Ask → ℕ → Type 0
FirstJobs request ask jobs =
    (V : Pieces) → AreWhole V → IsRoot request.root → jobs ≡ top_buckets (set_answer (request_view request) V ask) + opened (set_answer (request_view request) V ask)
