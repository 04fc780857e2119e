-- What the cores of a search ask.
use Rattle.std.proofs.Common.{◌≡◌, ℕ, ◌<◌, refl}
use Rattle.fc_spec.specs.documents.World.{World}
use Rattle.fc_spec.specs.requests.Request.{Nodes, no_nodes, statistic, facet, Request}
use Rattle.fc_spec.specs.messages.Answer.{answer}
use Rattle.fc_spec.specs.messages.Message.{Ask, first, more}
use Rattle.fc_spec.specs.messages.TopRounds.{ExactAsk, exact_first, exact_least, exact_more, exact_answer}
use Rattle.fc_spec.specs.laws.TopRoundsLaw.{AreTopNodes}
use Rattle.fc_refine.specs.Named.{NamesKeys}
use Rattle.fc_units.specs.Asked.{asked_count}
use Rattle.fc_units.specs.LeastLists.{NestNothing}
use Rattle.fc_exact.specs.Rounds.{IsAskable}
use Rattle.fc_round.specs.Questions.{CanAsk, exact_of}

-- ---- the coordinator

pub answer_of_ask : (r : Request) (W : World) (i : ℕ) (ask : Ask) → exact_answer r W i (exact_of ask) ≡ answer r W i ask
answer_of_ask r W i first = refl
answer_of_ask r W i (more wants) = refl

pub can_ask : (r : Request) (ask : Ask) → 0 < asked_count ask → NamesKeys r.nodes ask → CanAsk r (exact_of ask)
can_ask r first some names = tt
can_ask r (more wants) some names = (some, names)

-- ---- the core of exact facets

pub nest_nothing : (nodes : Nodes) → AreTopNodes nodes → NestNothing nodes
nest_nothing no_nodes top = tt
nest_nothing (statistic name s rest) top = absurd top
nest_nothing (facet f inner rest) top = (top.1, nest_nothing rest top.2)

pub can_ask_exact : (x : Request) (ask : ExactAsk) → AreTopNodes x.nodes → IsAskable x ask → CanAsk x ask
can_ask_exact x exact_first top askable = tt
can_ask_exact x (exact_least counts) top askable = nest_nothing x.nodes top
can_ask_exact x (exact_more wants) top askable = askable
