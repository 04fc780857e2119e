-- What each number below a bound holds.
use Rattle.std.specs.Prelude.{ℕ, List, map, Bool}
use Rattle.std.specs.List.{range_with_len}
use Rattle.fc_spec.specs.documents.Document.{Block}
use Rattle.fc_spec.specs.requests.Request.{Stat}
use Rattle.fc_spec.specs.requests.Statistics.{Stats, stats_over}
use Rattle.fc_count.specs.Counted.{held_places}

-- the statistics of the places that each number holds, number after number
abbrev pub held_stats : List Block → (holds : ℕ → ℕ → Bool) → ℕ → List Stat → List ℕ → List Stats
held_stats blocks holds bound ss ks = map (λ i. stats_over ss (held_places blocks holds ks i)) (range_with_len 0 bound)
