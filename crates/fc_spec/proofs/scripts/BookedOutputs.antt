-- What is booked is an output.
use Rattle.std.proofs.Common.{ℕ, suc, List, [], ◌∷◌, Result, Ok, Err}
use Rattle.fc_spec.specs.documents.Val.{Text}
use Rattle.fc_spec.specs.requests.Request.{Request}
use Rattle.fc_spec.specs.requests.RequestFault.{RequestFault}
use Rattle.fc_spec.specs.messages.Trace.{Sent}
use Rattle.fc_spec.specs.scripts.Script.{Script}
use Rattle.fc_spec.specs.scripts.Phases.{Search}
use Rattle.fc_spec.specs.scripts.Outputs.{Replies, Seen, IsLineThen, AreLinesOf}
use Rattle.fc_spec.specs.scripts.Booked.{Books, IsBookedLineThen, AreBooked, book}

line_of : (reply : Replies) (S : Script (Result Request RequestFault)) (seen : List Seen) (phase : ℕ) (session : Text) (request : Result Request RequestFault) (Rest : List Seen → List Sent → Text → Type 0) (Without Lines : List Seen → Text → Type 0) (t : Text)
    → ((now : List Seen) (es : List Sent) (rest : Text) → Rest now es rest → Lines now rest) → ((now : List Seen) (rest : Text) → Without now rest → Lines now rest) → IsBookedLineThen reply S seen phase session request Rest Without t → IsLineThen reply S seen phase session request Lines t
line_of reply S seen phase session (Ok r) Rest Without Lines t with_trace without (g, rest, is_legal, is, more) = (g, rest, is_legal, is, with_trace _ _ rest more)
line_of reply S seen phase session (Err f) Rest Without Lines t with_trace without (rest, is, more) = (rest, is, without seen rest more)

pub booked_lines : (reply : Replies) (S : Script (Result Request RequestFault)) (seen : List Seen) (k : ℕ) (qs : List (Search (Result Request RequestFault))) (t : Text) (before after : Books) → AreBooked reply S seen k qs t before after → AreLinesOf reply S seen qs t
booked_lines reply S seen k [] t before after (is, same) = is
booked_lines reply S seen k (q ∷ qs) t before after booked =
    line_of reply S seen q.phase q.session q.request (λ now es rest. AreBooked reply S now (suc k) qs rest (book k es before) after) (λ now rest. AreBooked reply S now (suc k) qs rest before after) (λ now rest. AreLinesOf reply S now qs rest) t
    (λ now es rest b. booked_lines reply S now (suc k) qs rest (book k es before) after b) (λ now rest b. booked_lines reply S now (suc k) qs rest before after b) booked
