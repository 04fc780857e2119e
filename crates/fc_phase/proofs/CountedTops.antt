-- The jobs that are known from the start, of the first top buckets.
use Rattle.std.proofs.Common.{◌≡◌, ℕ, ◌+◌, ◌<◌, ◌≤◌, ap, arith}
use Rattle.fc_spec.specs.messages.Message.{Ask}
use Rattle.fc_request.specs.RequestView.{IsRoot, request_view}
use Rattle.fc_request.specs.declared.request.Request.{Request}
use Rattle.fc_answers.specs.SetAnswer.{AreWhole, Pieces, set_answer}
use Rattle.fc_jobs.proofs.WalkedSets.{by_segment}
use Rattle.fc_levels.specs.Facets.{Nested, facet_count, nested_view}
use Rattle.fc_levels.specs.Jobs.{opened, top_buckets}
use Rattle.fc_units.specs.Asked.{IsAskedFacet, answer_from, asked_count, asked_key}
use Rattle.fc_units.proofs.Begun.{asked_top}
use Rattle.fc_units.proofs.FirstCounts.{from_first, one_bucket, past_last}

-- so many are those of the buckets before the one with this number
abbrev pub IsCountedTo : Request → Pieces → Ask → ℕ → ℕ → Type 0
IsCountedTo request V ask i jobs =
    jobs + (top_buckets (answer_from (request_view request) V ask i) + opened (answer_from (request_view request) V ask i)) ≡ top_buckets (set_answer (request_view request) V ask) + opened (set_answer (request_view request) V ask)

pub count_none : (request : Request) (V : Pieces) (ask : Ask) → IsCountedTo request V ask 0 0
count_none request V ask = omega (arith, ap top_buckets (from_first (request_view request) V ask), ap opened (from_first (request_view request) V ask))

pub count_more : (request : Request) (V : Pieces) (ask : Ask) (i jobs more facets : ℕ) (n : Nested) → AreWhole V → IsRoot request.root → i < asked_count ask → IsAskedFacet (nested_view request.root) (request_view request) ask i n → facets ≡ facet_count n.1 → more ≡ jobs + (facets + 1)
    → IsCountedTo request V ask i jobs → IsCountedTo request V ask (i + 1) more
count_more request V ask i jobs more facets n whole root h is count up so_far =
    omega (arith, count, up, so_far, one_bucket (request_view request) V ask i n (asked_key ask i) (asked_top by_segment request V ask i n whole root h is))

pub count_all : (request : Request) (V : Pieces) (ask : Ask) (i jobs : ℕ) → asked_count ask ≤ i → IsCountedTo request V ask i jobs → jobs ≡ top_buckets (set_answer (request_view request) V ask) + opened (set_answer (request_view request) V ask)
count_all request V ask i jobs h so_far =
    let past = past_last (request_view request) V ask i h in
    omega (arith, so_far, ap top_buckets past, ap opened past)
