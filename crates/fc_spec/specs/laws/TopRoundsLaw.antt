-- What is told in the rounds of exact facets gives the values that they print.
use Rattle.std.specs.Prelude.{◌≡◌, ℕ, ◌<◌, ◌≤◌, List, ◌++◌, length, Bool, true, not, ◌==◌, IsTrue}
use Rattle.std.specs.List.{AllByRecursion, list_any}
use Rattle.fc_spec.specs.words.Lists.{is_empty}
use Rattle.fc_spec.specs.documents.World.{World}
use Rattle.fc_spec.specs.requests.Request.{Kind, terms, Nodes, no_nodes, statistic, facet, Request}
use Rattle.fc_spec.specs.requests.Shape.{is_exact}
use Rattle.fc_spec.specs.requests.Least.{count_first}
use Rattle.fc_spec.specs.replies.Tops.{tops_of, only_exact}
use Rattle.fc_spec.specs.messages.TopRounds.{ToldCount, ExactAsk, exact_first, exact_least, exact_more, exact_answer, leasts, wants_from, tops_told, ExactSent, exact_told_in, exact_rounds}

-- an exact facet sorted by count, the greatest first
abbrev pub IsTopKind : Kind → Type 0
IsTopKind (terms t) = IsTrue (is_exact (terms t)) × (t.sort ≡ count_first)
IsTopKind _ = ⊥

-- such facets alone, with nothing nested in them
abbrev pub AreTopNodes : Nodes → Type 0
AreTopNodes no_nodes = Unit {0}
AreTopNodes (statistic name s rest) = ⊥
AreTopNodes (facet f inner rest) = IsTopKind f.kind × (inner ≡ no_nodes) × AreTopNodes rest

-- the exact ones among these facets are sorted so
abbrev pub SortExactByCount : Nodes → Type 0
SortExactByCount no_nodes = Unit {0}
SortExactByCount (statistic name s rest) = SortExactByCount rest
SortExactByCount (facet f inner rest) = (IsTrue (is_exact f.kind) → IsTopKind f.kind) × SortExactByCount rest

-- the messages are answers of shards, each to its ask, and each shard that is asked has sent one; in any order
pub record IsExactRound (x : Request) (W : World) (ask : ℕ → ExactAsk) (is_asked : ℕ → Bool) (sent : List ExactSent) : Type 0 where
  pub answers : AllByRecursion (λ s. (s.message ≡ exact_answer x W s.shard s.ask) × (s.ask ≡ ask s.shard) × (s.shard < length W)) sent
  pub whole : (i : ℕ) → i < length W → IsTrue (is_asked i) → IsTrue (list_any (λ s. s.shard == i) sent)

-- what shards lack, after two rounds
abbrev pub asks_for_more : Request → List ExactSent → ℕ → ExactAsk
asks_for_more x sent i = exact_more (wants_from (exact_told_in sent) i x.nodes 0)

abbrev pub is_asked_more : Request → List ExactSent → ℕ → Bool
is_asked_more x sent i = not (is_empty (wants_from (exact_told_in sent) i x.nodes 0))

-- three such rounds, of which each asks by what was told before, tell the top values
abbrev pub TopsAreTold : Type 0
TopsAreTold = (x : Request) (W : World) (one two three : List ExactSent) → AreTopNodes x.nodes
    → IsExactRound x W (λ i. exact_first) (λ i. true) one
    → IsExactRound x W (λ i. exact_least (leasts x (length W) (exact_told_in one))) (λ i. true) two
    → IsExactRound x W (asks_for_more x (one ++ two)) (is_asked_more x (one ++ two)) three
    → tops_told x (length W) (exact_told_in ((one ++ two) ++ three)) ≡ tops_of x W

-- so do the rounds of a search
abbrev pub RoundsTellTops : Type 0
RoundsTellTops = (x : Request) (W : World) → AreTopNodes x.nodes → tops_told x (length W) (exact_told_in (exact_rounds x W)) ≡ tops_of x W

-- the exact facets alone have the same top values as in the whole request
abbrev pub OnlyExactHasTops : Type 0
OnlyExactHasTops = (r : Request) (W : World) → SortExactByCount r.nodes → AreTopNodes (only_exact r).nodes × (tops_of (only_exact r) W ≡ tops_of r W)

-- what is told, where shards of which there are n tell no count of 0
abbrev pub AreCounts : ℕ → List ToldCount → Type 0
AreCounts n A = AllByRecursion (λ a. (1 ≤ a.count) × (a.shard < n)) A

-- then no facet asks for the values from 0 on
abbrev pub LeastsAreSome : Type 0
LeastsAreSome = (x : Request) (n : ℕ) (A : List ToldCount) → 1 ≤ n → AreTopNodes x.nodes → AreCounts n A → AllByRecursion (λ c. 1 ≤ c) (leasts x n A)
