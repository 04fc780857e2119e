-- What the core of exact facets stands for, and what a message changes.
use Rattle.std.specs.Prelude.{ℕ, zero, suc, List, [], ◌∷◌, ◌++◌, map, length, Bool, true, false, is_some, Option, None, Some, option_and_then, slice_get, slice_set, if◌then◌else◌}
use Rattle.std.specs.List.{list_any}
use Rattle.fc_spec.specs.documents.Val.{Val}
use Rattle.fc_spec.specs.words.Lists.{numbers_below}
use Rattle.fc_spec.specs.requests.Request.{Terms, Request}
use Rattle.fc_spec.specs.messages.Message.{Partials, Want, first, more}
use Rattle.fc_spec.specs.messages.MessageShape.{is_shaped, is_shaped_within}
use Rattle.fc_spec.specs.messages.TopRounds.{ExactAsk, exact_first, exact_least, exact_more, ToldCount, exact_told, leasts, wants_from, tops_told}

-- the request of exact facets alone, what was told, for each shard what it is asked while its message is awaited, the round, whether the values can be given, and whether memory ran out
pub record State : Type 0 where
  pub request : Request
  pub told : List ToldCount
  pub asks : List (Option ExactAsk)
  pub round : ℕ
  pub ready : Bool
  pub spent : Bool

-- what an awaited shard is asked
abbrev pub ask_at : List (Option ExactAsk) → ℕ → Option ExactAsk
ask_at asks i = option_and_then (λ ask. ask) (slice_get asks i)

abbrev pub is_awaited : State → ℕ → Bool
is_awaited s i = is_some (ask_at s.asks i)

-- at the start nothing was told, and every shard is asked what it offers
abbrev pub at_start : Request → ℕ → State
at_start r n = record { request = r; told = []; asks = map (λ _. Some exact_first) (numbers_below n); round = 1; ready = false; spent = false }

-- the shape that an ask demands: for counts that of a first ask, whatever the number of values
abbrev pub is_shaped_for : Request → Option ExactAsk → Partials → Bool
is_shaped_for r None m = false
is_shaped_for r (Some exact_first) m = is_shaped r first m
is_shaped_for r (Some (exact_least ns)) m = is_shaped_within (λ (t : Terms). None) r first m
is_shaped_for r (Some (exact_more wants)) m = is_shaped r (more wants) m

-- what a message tells, of a shard that is asked something
abbrev pub told_for : ℕ → Option ExactAsk → Partials → List ToldCount
told_for i None m = []
told_for i (Some ask) m = exact_told i ask m

abbrev pub told_of : State → ℕ → Partials → List ToldCount
told_of s i m = told_for i (ask_at s.asks i) m

-- its counts are told, and the shard is awaited no longer
abbrev pub heard : State → ℕ → Partials → State
heard s i m = record s { told = s.told ++ told_of s i m; asks = slice_set s.asks i None }

-- an ask for wants, where there are any
abbrev pub ask_for : List Want → Option ExactAsk
ask_for [] = None
ask_for (w ∷ ws) = Some (exact_more (w ∷ ws))

-- every shard is asked for the values from the counts on
abbrev pub asks_least : State → List (Option ExactAsk)
asks_least s = map (λ _. Some (exact_least (leasts s.request (length s.asks) s.told))) (numbers_below (length s.asks))

-- each shard is asked for the values of which it has not told; one that lacks none is not awaited
abbrev pub asks_lacking : State → List (Option ExactAsk)
asks_lacking s = map (λ i. ask_for (wants_from s.told i s.request.nodes 0)) (numbers_below (length s.asks))

-- what shards are asked behind the round of this number; none behind the third
abbrev pub asks_behind : State → ℕ → List (Option ExactAsk)
asks_behind s (suc zero) = asks_least s
asks_behind s (suc (suc zero)) = asks_lacking s
asks_behind s _ = []

-- the next round, where some shard is asked something; else the values can be given
abbrev pub asked_on : State → List (Option ExactAsk) → State
asked_on s asks = if list_any is_some asks then record s { asks = asks; round = suc s.round } else record s { ready = true }

abbrev pub begun : State → State
begun s = asked_on s (asks_behind s s.round)

-- nothing more while a shard is awaited
abbrev pub goes_on : State → State
goes_on s = if list_any is_some s.asks then s else begun s

-- the state after a message
abbrev pub taken : State → ℕ → Partials → State
taken s i m = goes_on (heard s i m)

-- the values of each facet, once they can be given
abbrev pub tops : State → List (List Val)
tops s = tops_told s.request (length s.asks) s.told
