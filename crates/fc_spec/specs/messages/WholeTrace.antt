-- How many bytes each shard sends in each round of a search, with the rounds that find what exact facets print.
use Rattle.std.specs.Prelude.{ℕ, ◌+◌, List, ◌++◌, map, length, if◌then◌else◌}
use Rattle.fc_spec.specs.words.Lists.{is_empty}
use Rattle.fc_spec.specs.documents.World.{World}
use Rattle.fc_spec.specs.requests.Request.{Request}
use Rattle.fc_spec.specs.requests.Shape.{no_exact}
use Rattle.fc_spec.specs.replies.Tops.{tops_of, only_exact, replaced}
use Rattle.fc_spec.specs.messages.MessageBytes.{message_bytes}
use Rattle.fc_spec.specs.messages.TopRounds.{ExactSent, exact_told_in, offering_round, least_round, lacking_round, exact_rounds}
use Rattle.fc_spec.specs.messages.Trace.{Sent, trace}

-- of a message in the rounds that find the values of exact facets
abbrev pub exact_entry_of : ExactSent → Sent
exact_entry_of s = record { round = s.round; shard = s.shard; length = length (message_bytes s.message) }

abbrev pub exact_trace : Request → World → List Sent
exact_trace x W = map exact_entry_of (exact_rounds x W)

-- there are three such rounds where some shard lacks a value after two
abbrev pub exact_round_count : Request → World → ℕ
exact_round_count x W =
    let one = offering_round x W in
    if is_empty (lacking_round x W (exact_told_in (one ++ least_round x W (exact_told_in one)))) then 2 else 3

-- an entry behind so many other rounds
abbrev pub behind_rounds : ℕ → Sent → Sent
behind_rounds n e = record e { round = n + e.round }

-- the entries of a search: with exact facets, those that find their values, then those of the request with query facets in their place
abbrev pub whole_trace : Request → World → List Sent
whole_trace r W =
    if no_exact r.nodes
    then trace r W
    else exact_trace (only_exact r) W ++ map (behind_rounds (exact_round_count (only_exact r) W)) (trace (replaced r (tops_of r W)) W)
