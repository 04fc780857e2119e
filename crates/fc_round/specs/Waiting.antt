-- The seats of a round whose messages are not there yet, and a turn of one of them.
use Rattle.std.specs.Prelude.{◌≡◌, ℕ, suc, ◌<◌, List, [], ◌∷◌, map, length, Bool, true, false, is_some, slice_index, slice_index_or, slice_set}
use Rattle.fc_round.specs.Seats.{IsTurned}
use Rattle.fc_round.specs.declared.seat.Seat.{Seat}

-- for each seat whether its message is there
abbrev pub told_at : {B : Type 0} {Q : B → Type 0} → List (Seat B Q) → List Bool
told_at seats = map (λ seat. is_some seat.bytes) seats

-- the places where it is not there, ascending, the first of all having place i
abbrev pub untold_from : ℕ → List Bool → List ℕ
untold_from i [] = []
untold_from i (true ∷ told) = untold_from (suc i) told
untold_from i (false ∷ told) = i ∷ untold_from (suc i) told

-- the places of the seats that wait, ascending
abbrev pub waiting_places : {B : Type 0} {Q : B → Type 0} → List (Seat B Q) → List ℕ
waiting_places seats = untold_from 0 (told_at seats)

-- the number of the shard whose seat is at this place
abbrev pub shard_at : {B : Type 0} {Q : B → Type 0} → List (Seat B Q) → ℕ → ℕ
shard_at seats place = slice_index (map (λ seat. seat.shard) seats) place

-- the shards that are not done, in the order of their seats
abbrev pub waiting_shards : {B : Type 0} {Q : B → Type 0} → List (Seat B Q) → List ℕ
waiting_shards seats = map (shard_at seats) (waiting_places seats)

-- the seat at this place does a turn, and no other does
pub record IsTurnAt {B : Type 0} {Q : B → Type 0} (place : ℕ) (before after : List (Seat B Q)) : Type 0 where
  pub seat : Seat B Q
  pub is : after ≡ slice_set before place seat
  pub turned : IsTurned (slice_index_or before place seat) seat

-- one of the seats that wait does a turn, and no other does
pub record IsTurnOfOne {B : Type 0} {Q : B → Type 0} (before after : List (Seat B Q)) : Type 0 where
  pub picked : ℕ
  pub waits : picked < length (waiting_places before)
  pub turn : IsTurnAt (slice_index (waiting_places before) picked) before after
