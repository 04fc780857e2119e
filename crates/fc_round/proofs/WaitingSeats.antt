-- The seats that wait.
use Rattle.std.proofs.Common.{◌≡◌, ℕ, zero, suc, ◌+◌, ◌<◌, List, [], ◌∷◌, ◌++◌, append_assoc, map, length, drop, get_or, All, true, false, is_some, sum_by, refl, sym, ◌∙◌, ap, subst, arith}
use Rattle.std.specs.Prelude.{slice_index, slice_set}
use Rattle.std.specs.List.{remove}
use Rattle.std.proofs.Math.Seq.{map-set_same}
use Rattle.std.proofs.lemmas.List.{get_or-map, get_or_default, length-map, map-set}
use Rattle.std.proofs.lemmas.List.Elements.{All-set}
use Rattle.std.proofs.lemmas.List.Sums.{sum_by-set}
use Rattle.fc_round.specs.Questions.{ShardAnswer}
use Rattle.fc_round.specs.Seats.{IsSat, IsTurned, Waits, seat_answer, units_left}
use Rattle.fc_round.specs.Waiting.{IsTurnAt, IsTurnOfOne, shard_at, told_at, untold_from, waiting_places, waiting_shards}
use Rattle.fc_round.specs.declared.seat.Seat.{Seat}
use Rattle.fc_round.proofs.Untold.{none_untold, removed_at, told_step, untold_at, untold_step}

-- whether the message of the seat at a place is there
told_of : {B : Type 0} {Q : B → Type 0} (seats : List (Seat B Q)) (k : ℕ) (seat : Seat B Q) → k < length seats → get_or (told_at seats) k (is_some seat.bytes) ≡ is_some (get_or seats k seat).bytes
told_of seats k seat there = get_or-map (λ s. is_some s.bytes) seats k seat (is_some seat.bytes) there

told_there : {B : Type 0} {Q : B → Type 0} (seats : List (Seat B Q)) (k : ℕ) → k < length seats → k < length (told_at seats)
told_there seats k there = let long = length-map seats (λ s. is_some s.bytes) in omega (arith, there, long)

-- ---- the places are gathered

-- the seat at this place has its message
pub place_passed : {B : Type 0} {Q : B → Type 0} (seats : List (Seat B Q)) (k : ℕ) (seat : Seat B Q) (places all : List ℕ) → k < length seats → seat ≡ get_or seats k seat → is_some seat.bytes ≡ true
    → places ++ untold_from k (drop k (told_at seats)) ≡ all → places ++ untold_from (k + 1) (drop (k + 1) (told_at seats)) ≡ all
place_passed seats k seat places all there is told was =
    let own = told_of seats k seat there ∙ ap (λ s. is_some s.bytes) (sym is) ∙ told in
    let next = told_step (told_at seats) k k (is_some seat.bytes) (told_there seats k there) own in
    let same : k + 1 ≡ suc k = omega arith in
    ap (λ n. places ++ untold_from n (drop n (told_at seats))) same ∙ ap (λ rest. places ++ rest) (sym next) ∙ was

-- it waits
pub place_found : {B : Type 0} {Q : B → Type 0} (seats : List (Seat B Q)) (k : ℕ) (seat : Seat B Q) (places all : List ℕ) → k < length seats → seat ≡ get_or seats k seat → is_some seat.bytes ≡ false
    → places ++ untold_from k (drop k (told_at seats)) ≡ all → (places ++ k ∷ []) ++ untold_from (k + 1) (drop (k + 1) (told_at seats)) ≡ all
place_found seats k seat places all there is waits was =
    let own = told_of seats k seat there ∙ ap (λ s. is_some s.bytes) (sym is) ∙ waits in
    let next = untold_step (told_at seats) k k (is_some seat.bytes) (told_there seats k there) own in
    let same : k + 1 ≡ suc k = omega arith in
    ap (λ n. (places ++ k ∷ []) ++ untold_from n (drop n (told_at seats))) same ∙ append_assoc places (k ∷ []) (untold_from (suc k) (drop (suc k) (told_at seats))) ∙ ap (λ rest. places ++ rest) (sym next) ∙ was

-- ---- one of them is picked

-- it is there, and waits
pub record IsWaiting {B : Type 0} {Q : B → Type 0} (seats : List (Seat B Q)) (place : ℕ) : Type 0 where
  pub there : place < length seats
  pub waits : (seat : Seat B Q) → Waits (get_or seats place seat)

pub place_waits : {B : Type 0} {Q : B → Type 0} (seats : List (Seat B Q)) (k d : ℕ) → k < length (waiting_places seats) → IsWaiting seats (get_or (waiting_places seats) k d)
place_waits seats k d picked =
    let own = untold_at (told_at seats) 0 k d picked in
    let place : get_or (waiting_places seats) k d ≡ own.at = (let is = own.place_is in omega (arith, is)) in
    let there : own.at < length seats = (let below = own.there in let long = length-map seats (λ s. is_some s.bytes) in omega (arith, below, long)) in
    subst (IsWaiting seats) (sym place) (record { there = there; waits = λ seat. sym (told_of seats own.at seat there) ∙ own.waits (is_some seat.bytes) })

pub each_there : {B : Type 0} {Q : B → Type 0} (seats : List (Seat B Q)) (places : List ℕ) → places ≡ waiting_places seats → All (λ place. place < length seats) places
each_there seats places are = subst (All (λ place. place < length seats)) (sym are) (λ k d below. (place_waits seats k d below).there)

-- as many shards as places
pub shards_long : {B : Type 0} {Q : B → Type 0} (seats : List (Seat B Q)) (places shards : List ℕ) → places ≡ waiting_places seats → shards ≡ waiting_shards seats → length shards ≡ length places
shards_long seats places shards places_are shards_are = ap length shards_are ∙ length-map (waiting_places seats) (shard_at seats) ∙ ap length (sym places_are)

pub picked_there : {B : Type 0} {Q : B → Type 0} (seats : List (Seat B Q)) (places shards : List ℕ) (k : ℕ) → places ≡ waiting_places seats → shards ≡ waiting_shards seats → k < length shards → k < length places
picked_there seats places shards k places_are shards_are picked = let long = shards_long seats places shards places_are shards_are in omega (arith, long, picked)

-- the place that is picked, as it was read
pub picked_waits : {B : Type 0} {Q : B → Type 0} (seats : List (Seat B Q)) (places : List ℕ) (k place : ℕ) → places ≡ waiting_places seats → k < length places → place ≡ get_or places k place → IsWaiting seats place
picked_waits seats places k place are picked is = subst (IsWaiting seats) (sym (is ∙ ap (λ ps. get_or ps k place) are)) (place_waits seats k place (subst (λ ps. k < length ps) are picked))

-- ---- its turn

map_remove : (f : ℕ → ℕ) (xs : List ℕ) (k : ℕ) → map f (remove xs k) ≡ remove (map f xs) k
map_remove f [] zero = refl
map_remove f [] (suc k) = refl
map_remove f (x ∷ xs) zero = refl
map_remove f (x ∷ xs) (suc k) = ap (λ rest. f x ∷ rest) (map_remove f xs k)

module _ {B : Type 0} {Q : B → Type 0} (seats : List (Seat B Q)) (places shards : List ℕ) (k place : ℕ) (d after : Seat B Q) (places_are : places ≡ waiting_places seats) (shards_are : shards ≡ waiting_shards seats) (picked : k < length places) (is : place ≡ get_or places k place) (turned : IsTurned (get_or seats place d) after) where
  own : IsWaiting seats place
  own = picked_waits seats places k place places_are picked is

  pub is_turn : IsTurnAt (slice_index places k) seats (slice_set seats place after)
  is_turn = subst (λ p. IsTurnAt p seats (slice_set seats place after)) (is ∙ get_or_default places k place 0 picked) (record {
    seat = after;
    is = refl;
    turned = subst (λ s. IsTurned s after) (get_or_default seats place d after own.there) turned;
  })

  -- the shards' numbers stay
  numbers : map (λ s. s.shard) (slice_set seats place after) ≡ map (λ s. s.shard) seats
  numbers = map-set_same (λ s. s.shard) seats place after d (ap (λ (a : ShardAnswer). a.shard) turned.answer)

  -- where it goes on waiting nothing changes
  pub places_same : is_some after.bytes ≡ false → places ≡ waiting_places (slice_set seats place after)
  places_same waits = places_are ∙ ap (untold_from 0) (sym (map-set_same (λ s. is_some s.bytes) seats place after d (waits ∙ sym (own.waits d))))

  pub shards_same : is_some after.bytes ≡ false → shards ≡ waiting_shards (slice_set seats place after)
  shards_same waits = shards_are ∙ (λ j. map (slice_index (sym numbers j)) ((sym places_are ∙ places_same waits) j))

  -- where its message is there it is taken out
  pub places_without : is_some after.bytes ≡ true → remove places k ≡ waiting_places (slice_set seats place after)
  places_without there =
      let told : told_at (slice_set seats place after) ≡ slice_set (told_at seats) place true = map-set (λ s. is_some s.bytes) seats place after ∙ ap (slice_set (told_at seats) place) there in
      let at : get_or (waiting_places seats) k place ≡ place = sym (is ∙ ap (λ ps. get_or ps k place) places_are) in
      ap (λ ps. remove ps k) places_are ∙ sym (removed_at (told_at seats) k place (subst (λ ps. k < length ps) places_are picked)) ∙ ap (λ p. untold_from 0 (slice_set (told_at seats) p true)) at ∙ ap (untold_from 0) (sym told)

  pub shards_without : is_some after.bytes ≡ true → remove shards k ≡ waiting_shards (slice_set seats place after)
  shards_without there =
      ap (λ ns. remove ns k) shards_are ∙ sym (map_remove (shard_at seats) (waiting_places seats) k) ∙ ap (λ ps. map (shard_at seats) (remove ps k)) (sym places_are)
      ∙ (λ j. map (slice_index (sym numbers j)) (places_without there j))

-- ---- what a turn of one of them leaves

pub of_one : {B : Type 0} {Q : B → Type 0} (before after : List (Seat B Q)) (places : List ℕ) (k : ℕ) → places ≡ waiting_places before → k < length places → IsTurnAt (slice_index places k) before after → IsTurnOfOne before after
of_one before after places k are picked turn = record { picked = k; waits = subst (λ ps. k < length ps) are picked; turn = subst (λ ps. IsTurnAt (slice_index ps k) before after) are turn }

module _ {B : Type 0} {Q : B → Type 0} (before after : List (Seat B Q)) (one : IsTurnOfOne before after) where
  abbrev place : ℕ
  place = slice_index (waiting_places before) one.picked

  there : place < length before
  there = (place_waits before one.picked 0 one.waits).there

  pub sat_still : All IsSat before → All IsSat after
  sat_still sat = subst (All IsSat) (sym one.turn.is) (All-set IsSat before place one.turn.seat one.turn.turned.sat sat)

  pub answers_still : (first : List (Seat B Q)) → map seat_answer before ≡ map seat_answer first → map seat_answer after ≡ map seat_answer first
  answers_still first was = ap (map seat_answer) one.turn.is ∙ map-set_same seat_answer before place one.turn.seat one.turn.seat one.turn.turned.answer ∙ was

  pub units_fewer : sum_by units_left after < sum_by units_left before
  units_fewer =
      let whole = sum_by-set units_left before place one.turn.seat one.turn.seat there in
      let same = ap (sum_by units_left) one.turn.is in
      let less = one.turn.turned.one in
      omega (arith, whole, same, less)

-- where no seat waits each has its message
pub none_waits : {B : Type 0} {Q : B → Type 0} (seats : List (Seat B Q)) → length (waiting_places seats) ≡ 0 → All (λ seat. is_some seat.bytes ≡ true) seats
none_waits seats none = λ k d below. sym (told_of seats k d below) ∙ none_untold (told_at seats) 0 k (is_some d.bytes) none (told_there seats k below)
