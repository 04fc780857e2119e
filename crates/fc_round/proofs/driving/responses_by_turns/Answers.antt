use Rattle.std.proofs.Common.{◌≡◌, All, map, refl, sym, ◌∙◌, ap, subst}
use Rattle.std.specs.Arc.{arc_value}
use Rattle.std.proofs.lemmas.List.{nil_from_length}
use Rattle.std.proofs.lemmas.List.Elements.{All-head, All-rest}
use Rattle.fc_request.specs.RequestView.{request_view}
use Rattle.fc_round.specs.Askable.{world_of}
use Rattle.fc_round.specs.Seats.{HasTold, seat_answer}
use Rattle.fc_round.proofs.QuestionLists.{answers_to}
use Rattle.fc_round.proofs.ResponseLists.{SpellSoFar, all_so_far, none_so_far, one_so_far}
use Rattle.fc_round.proofs.SeatLists.{same_length, written_back}
use Rattle.fc_round.proofs.driving.responses_by_turns.Goals as goal

pub loop-seat-init : goal.loop-seat-init
loop-seat-init g c =
    let all = answers_to (request_view c.args.request.now) (world_of (map arc_value c.args.generations.now)) c.args.questions.now in
    let seats = c.in_ok-seats.seats in
    let new = c.drive.new.seats in
    let same : map seat_answer new ≡ map seat_answer seats.items = c.in_ok-drive.ensures.answers ∙ ap (map seat_answer) c.deref_mut.ensures.value in
    let long = sym seats.ok.0 in
    let rest : c.into_iter-seat-iterator.result.rest.items ≡ new = c.into_iter-seat-iterator.ensures.into_iter_gives.0 ∙ written_back seats.len new seats.items (same_length new seats.items same ∙ long) long in
    record {
      told = subst (All HasTold) (sym rest) c.in_ok-drive.ensures.told;
      so_far = rw c.in_ok-responses.ensures.items (none_so_far (map seat_answer c.into_iter-seat-iterator.result.rest.items) all (ap (map seat_answer) rest ∙ same ∙ c.in_ok-seats.ensures.answers));
    }

pub into_bytes-bytes-requires : goal.into_bytes-bytes-requires
into_bytes-bytes-requires g c = All-head HasTold c.in-Some.seat c.next.new.self.rest.items (subst (All HasTold) c.in-Some.ensures.steps.0 c.loop-seat.invariant.told)

pub loop-seat-preserved : goal.loop-seat-preserved
loop-seat-preserved g c =
    let all = answers_to (request_view c.args.request.now) (world_of (map arc_value c.args.generations.now)) c.args.questions.now in
    let seat = c.in-Some.seat in
    let rest = c.next.new.self.rest.items in
    let first = c.in-Some.ensures.steps.0 in
    let was = subst (λ seats. SpellSoFar c.loop-seat.responses.items (map seat_answer seats) all) first c.loop-seat.invariant.so_far in
    record {
      told = All-rest HasTold seat rest c.loop-seat.seat-iterator.rest.items first c.loop-seat.invariant.told;
      so_far = rw c.in_ok-push.ensures.items (one_so_far c.loop-seat.responses.items _ (seat_answer seat) (map seat_answer rest) all refl c.into_bytes-bytes.ensures was);
    }

pub returns : goal.returns
returns g c =
    let all = answers_to (request_view c.args.request.now) (world_of (map arc_value c.args.generations.now)) c.args.questions.now in
    let seats = c.loop-seat.seat-iterator.rest in
    let none = nil_from_length seats.items (sym seats.ok.0 ∙ c.in-None.ensures.steps.0) in
    all_so_far c.loop-seat.responses.items (map seat_answer seats.items) all (ap (map seat_answer) none) c.loop-seat.invariant.so_far
