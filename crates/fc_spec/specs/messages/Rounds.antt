-- The rounds of a search: who is asked for what, and what is answered.
use Rattle.std.specs.Prelude.{ℕ, zero, suc, List, [], ◌++◌, map, length, not, ◌==◌, if◌then◌else◌}
use Rattle.std.specs.List.{filter, flat_map}
use Rattle.fc_spec.specs.words.Lists.{is_empty, numbers_below}
use Rattle.fc_spec.specs.documents.World.{World}
use Rattle.fc_spec.specs.requests.Request.{Nodes, Request}
use Rattle.fc_spec.specs.messages.Message.{Partials, Want, Ask, first, more}
use Rattle.fc_spec.specs.messages.Answer.{answer}
use Rattle.fc_spec.specs.messages.Held.{Told, told_by}
use Rattle.fc_spec.specs.messages.Lacks.{Lack, lacks, terms_depth}

-- a message: its round, its shard, what was asked and what was answered
pub record SentMessage : Type 0 where
  pub round : ℕ
  pub shard : ℕ
  pub ask : Ask
  pub message : Partials

-- the buckets that messages tell of
abbrev pub told_in : Nodes → List SentMessage → List Told
told_in nodes sent = flat_map (λ s. told_by nodes s.shard s.ask s.message) sent

-- what lacks at the least depth from e on where something does, of so many depths
abbrev pub next_lacks : Request → ℕ → List Told → (depths e : ℕ) → List Lack
next_lacks r n A zero e = []
next_lacks r n A (suc d) e = let here = lacks r n A e in if is_empty here then next_lacks r n A d (suc e) else here

-- what a shard is asked for of these
abbrev pub wants_of : ℕ → List Lack → List Want
wants_of i all = map (λ l. l.want) (filter (λ l. l.shard == i) all)

-- the answer of a shard to an ask, in a round
abbrev pub sent_by : Request → World → ℕ → ℕ → Ask → SentMessage
sent_by r W round i ask = record { round = round; shard = i; ask = ask; message = answer r W i ask }

-- the first round: every shard is asked first
abbrev pub first_round : Request → World → List SentMessage
first_round r W = map (λ i. sent_by r W 1 i first) (numbers_below (length W))

-- a later round: exactly the shards that lack something are asked, each for all of it
abbrev pub later_round : Request → World → ℕ → List Lack → List SentMessage
later_round r W round all = map (λ i. sent_by r W round i (more (wants_of i all))) (filter (λ i. not (is_empty (wants_of i all))) (numbers_below (length W)))

-- the messages so far and those of the rounds after, of which the next has this number and there are at most so many: while something lacks
abbrev pub rounds_from : Request → World → (left round : ℕ) → List SentMessage → List SentMessage
rounds_from r W zero round sent = sent
rounds_from r W (suc left) round sent =
    let all = next_lacks r (length W) (told_in r.nodes sent) (terms_depth r.nodes) 0 in
    if is_empty all then sent else rounds_from r W left (suc round) (sent ++ later_round r W round all)

-- the messages of a search, round after round: at most one round for each depth of terms facets behind the first
abbrev pub search_rounds : Request → World → List SentMessage
search_rounds r W = rounds_from r W (terms_depth r.nodes) 2 (first_round r W)
