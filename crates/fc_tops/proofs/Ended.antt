-- What was found, in the end.
use Rattle.std.proofs.Common.{◌≡◌, ℕ, ◌≤◌, List, [], map, length, true, refl, sym, ◌∙◌, ap, subst}
use Rattle.fc_spec.specs.documents.World.{World}
use Rattle.fc_spec.specs.requests.Request.{Request}
use Rattle.fc_spec.specs.messages.Trace.{Sent}
use Rattle.fc_spec.specs.messages.WholeTrace.{exact_entry_of, exact_round_count, exact_trace}
use Rattle.fc_spec.specs.laws.TopRoundsLaw.{AreTopNodes}
use Rattle.fc_spec.specs.replies.Tops.{tops_of}
use Rattle.fc_exact.specs.State.{State, at_start, tops}
use Rattle.fc_tops.specs.FindingLaws.{AreFindingLaws}
use Rattle.fc_tops.specs.Hearing.{HasHeard, IsHearing}

-- at the start nothing was heard
pub heard_at_start : (laws : AreFindingLaws) (x : Request) (W : World) (n : ℕ) (s : State) → n ≡ length W → 1 ≤ n → s ≡ at_start x n → HasHeard x W s []
heard_at_start laws x W n s shards some is =
    subst (λ t. HasHeard x W t []) (sym (is ∙ ap (at_start x) shards)) ([], laws.start x W (subst (λ k. 1 ≤ k) shards some), refl)

-- in the end the values are the top values
pub found_tops : (laws : AreFindingLaws) (x : Request) (W : World) (s : State) → AreTopNodes x.nodes → IsHearing x W s → s.ready ≡ true → tops s ≡ tops_of x W
found_tops laws x W s top (sent, told) ready = laws.tops x W s sent top told ready

-- in as many rounds as there are
pub found_in : (x : Request) (W : World) (s : State) → IsHearing x W s → s.ready ≡ true → s.round ≡ exact_round_count x W
found_in x W s (sent, told) ready = (told.ended ready).1

-- and what was told is the trace
pub traced : (x : Request) (W : World) (s : State) (es : List Sent) → HasHeard x W s es → s.ready ≡ true → es ≡ exact_trace x W
traced x W s es (sent, told, entries) ready = sym entries ∙ ap (map exact_entry_of) (told.ended ready).0
