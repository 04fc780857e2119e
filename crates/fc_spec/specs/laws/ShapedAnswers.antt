-- A shard's answer has the shape of its ask.
use Rattle.std.specs.Prelude.{◌≡◌, ℕ, List, None, true}
use Rattle.fc_spec.specs.documents.World.{World}
use Rattle.fc_spec.specs.requests.Request.{Terms, Request}
use Rattle.fc_spec.specs.messages.Message.{Ask, first}
use Rattle.fc_spec.specs.messages.Answer.{answer}
use Rattle.fc_spec.specs.messages.MessageShape.{is_shaped, is_shaped_within}
use Rattle.fc_spec.specs.messages.TopRounds.{exact_least, exact_answer}

-- whatever is asked, of a valid request or another
abbrev pub AnswersAreShaped : Type 0
AnswersAreShaped = (r : Request) (W : World) (i : ℕ) (ask : Ask) → is_shaped r ask (answer r W i ask) ≡ true

-- of values from a count on there may be any number: then it has the shape of a first ask but for that
abbrev pub LeastsAreShaped : Type 0
LeastsAreShaped = (r : Request) (W : World) (i : ℕ) (ns : List ℕ) → is_shaped_within (λ (t : Terms). None) r first (exact_answer r W i (exact_least ns)) ≡ true
