-- Seats in a list.
use Rattle.std.proofs.Common.{◌≡◌, ℕ, List, ◌++◌, append-nil, map, length, drop, take, All, true, is_some, sym, ◌∙◌, ap, arith}
use Rattle.std.proofs.lemmas.List.{drop_all, length-map}
use Rattle.std.proofs.Math.Seq.{take-length}
use Rattle.fc_round.specs.Seats.{HasTold, IsSat, seat_answer}
use Rattle.fc_round.specs.declared.seat.Seat.{Seat}

-- where no seat waits each has its message
pub all_told : {B : Type 0} {Q : B → Type 0} (seats : List (Seat B Q)) → All IsSat seats → All (λ seat. is_some seat.bytes ≡ true) seats → All HasTold seats
all_told seats sat there = λ k d below. (sat k d below).told (there k d below)

-- what a list of the same length leaves behind
pub written_back : {X : Type 0} (n : ℕ) (new old : List X) → length new ≡ n → length old ≡ n → take n (new ++ drop (length new) old) ≡ new
written_back n new old same long =
    ap (λ rest. take n (new ++ rest)) (drop_all (length new) old (omega (arith, same, long))) ∙ ap (take n) (append-nil new) ∙ ap (λ k. take k new) (sym same) ∙ take-length new

-- as long as before
pub same_length : {B : Type 0} {Q : B → Type 0} (new old : List (Seat B Q)) → map seat_answer new ≡ map seat_answer old → length new ≡ length old
same_length new old same = sym (length-map new seat_answer) ∙ ap length same ∙ length-map old seat_answer
