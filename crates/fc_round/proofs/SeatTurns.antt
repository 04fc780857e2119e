-- What a turn of its future makes of a seat.
use Rattle.std.proofs.Common.{◌≡◌, ℕ, ◌+◌, ◌-◌, ◌<◌, ◌≤◌, false, None, Some, is_some, sym, ◌∙◌, ap, subst, arith, Vec, Global}
use Rattle.std.specs.Prelude.{Err, Ok, OnErr, Result}
use Rattle.std.proofs.lemmas.Bool.{false≢true}
use Rattle.fc_spec.specs.messages.Nesting.{nesting, Spells}
use Rattle.fc_partial.specs.BucketView.{message_view}
use Rattle.fc_partial.specs.declared.bucket.Message.{Message}
use Rattle.fc_phase.specs.Phases.{Phase, TurnsTo, answer_of, units_of}
use Rattle.fc_phase.specs.declared.turn.Turn.{Turn}
use Rattle.fc_phase.specs.declared.turn.Turn.TheVariants.{Done, Pending}
use Rattle.fc_round.specs.Finished.{IsFinished}
use Rattle.fc_round.specs.Seats.{IsSat, IsTurned, Waits, phase_in, seat_answer}
use Rattle.fc_round.specs.Spelled.{AreBytesOf}
use Rattle.fc_round.specs.declared.seat.Seat.{Seat}

-- of the same shard, with the same answer
same_answer : {B : Type 0} {Q : B → Type 0} (before after : Seat B Q) → after.shard ≡ before.shard → answer_of (phase_in after) ≡ answer_of (phase_in before) → seat_answer after ≡ seat_answer before
same_answer before after shard answer = λ j. record { shard = shard j; message = answer j }

-- one unit more is done of the same units
one_less : (before after : Phase) → units_of after ≡ units_of before → after.done ≡ before.done + 1 → before.done < units_of before → units_of after - after.done + 1 ≡ units_of before - before.done
one_less before after units done less = omega (arith, units, done, less)

-- more is to do
turned_pending : {B : Type 0} {Q : B → Type 0} (before after : Seat B Q) → after.shard ≡ before.shard → after.bytes ≡ before.bytes → Waits before → (phase_in before).spent ≡ false → nesting (answer_of (phase_in before)) ≤ 9 → TurnsTo (phase_in before) (phase_in after) Pending → IsTurned before after
turned_pending before after shard bytes waits fresh nests (room, is, left) = record {
  answer = same_answer before after shard (ap answer_of is);
  one = one_less (phase_in before) (phase_in after) (ap units_of is) (ap (λ (p : Phase). p.done) is) (omega (arith, room));
  sat = record {
    waits = λ w. ap (λ (p : Phase). p.spent) is ∙ fresh;
    told = λ there. absurd (false≢true (sym waits ∙ ap is_some (sym bytes) ∙ there));
    nests = subst (λ m. nesting m ≤ 9) (sym (ap answer_of is)) nests;
  };
}

-- the answer is there
turned_done : {B : Type 0} {Q : B → Type 0} (before after : Seat B Q) (m : Message) (v : Vec ℕ Global) → after.shard ≡ before.shard → after.bytes ≡ Some v → Spells v.items (message_view m) → nesting (answer_of (phase_in before)) ≤ 9 → TurnsTo (phase_in before) (phase_in after) (Done m) → IsTurned before after
turned_done before after m v shard bytes spelled nests (answer, last, is, left) = record {
  answer = same_answer before after shard (ap answer_of is);
  one = one_less (phase_in before) (phase_in after) (ap units_of is) (ap (λ (p : Phase). p.done) is) (omega (arith, last));
  sat = record {
    waits = λ w. absurd (false≢true (sym w ∙ ap is_some bytes));
    told = λ there. subst (λ b. AreBytesOf b (answer_of (phase_in after))) (sym bytes) (subst (Spells v.items) (answer ∙ sym (ap answer_of is)) spelled);
    nests = subst (λ m. nesting m ≤ 9) (sym (ap answer_of is)) nests;
  };
}

-- a seat whose future has not begun
pub sat_at_first : {B : Type 0} {Q : B → Type 0} (seat : Seat B Q) → seat.bytes ≡ None → (phase_in seat).spent ≡ false → nesting (answer_of (phase_in seat)) ≤ 9 → IsSat seat
sat_at_first seat none fresh nests = record {
  waits = λ w. fresh;
  told = λ there. absurd (false≢true (sym (ap is_some none) ∙ there));
  nests = nests;
}

-- by what the turn comes to
pub turned_on : {B : Type 0} {Q : B → Type 0} (before after : Seat B Q) (t : Turn) → t ≡ Pending → after.shard ≡ before.shard → after.bytes ≡ before.bytes → Waits before → (phase_in before).spent ≡ false → nesting (answer_of (phase_in before)) ≤ 9 → TurnsTo (phase_in before) (phase_in after) t → IsTurned before after
turned_on before after t is shard bytes waits fresh nests turns = turned_pending before after shard bytes waits fresh nests (subst (TurnsTo (phase_in before) (phase_in after)) is turns)

pub turned_over : {B : Type 0} {Q : B → Type 0} (before after : Seat B Q) (t : Turn) (m : Message) (v : Vec ℕ Global) → t ≡ Done m → after.shard ≡ before.shard → after.bytes ≡ Some v → Spells v.items (message_view m) → nesting (answer_of (phase_in before)) ≤ 9 → TurnsTo (phase_in before) (phase_in after) t → IsTurned before after
turned_over before after t m v is shard bytes spelled nests turns = turned_done before after m v shard bytes spelled nests (subst (TurnsTo (phase_in before) (phase_in after)) is turns)

-- a message that comes nests no deeper than the answer
pub done_nests : (before after : Phase) (t : Turn) (m : Message) → t ≡ Done m → TurnsTo before after t → nesting (answer_of before) ≤ 9 → nesting (message_view m) ≤ 9
done_nests before after t m is turns nests = go (subst (TurnsTo before after) is turns)
  where
    go : TurnsTo before after (Done m) → nesting (message_view m) ≤ 9
    go (answer, last, same, left) = subst (λ x. nesting x ≤ 9) (sym answer) nests

-- the answer is there, and its bytes are not
pub finished_over : {B : Type 0} {Q : B → Type 0} (before after : Seat B Q) (t : Turn) (m : Message) → t ≡ Done m → after.shard ≡ before.shard → after.bytes ≡ before.bytes → Waits before → TurnsTo (phase_in before) (phase_in after) t → IsFinished before after
finished_over before after t m is shard bytes waits turns = go (subst (TurnsTo (phase_in before) (phase_in after)) is turns)
  where
    go : TurnsTo (phase_in before) (phase_in after) (Done m) → IsFinished before after
    go (answer, last, same, left) = record {
      answer = same_answer before after shard (ap answer_of same);
      told = λ there. absurd (false≢true (sym waits ∙ ap is_some (sym bytes) ∙ there));
    }

-- what holds in any case holds on an error
pub on_err : {A E P : Type 0} (r : Result A E) → P → OnErr r P
on_err (Ok a) p = tt
on_err (Err e) p = p
