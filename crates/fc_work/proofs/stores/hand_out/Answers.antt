use Rattle.std.proofs.Common.{◌≡◌, ◌∷◌, ◌++◌, [], length, Some, Vec, Global, ap, sym, ◌∙◌, arith}
use Rattle.std.proofs.lemmas.List.{length-append, length-set}
use Rattle.std.proofs.lemmas.List.Elements.{All-pop}
use Rattle.fc_store.specs.Ends.{Pinning}
use Rattle.fc_work.proofs.Added.{given_next, others_next}
use Rattle.fc_work.proofs.stores.hand_out.Goals as goal

pub loop-seat-preserved : goal.loop-seat-preserved
loop-seat-preserved c =
    let seats = c.loop-seat.seats in
    let i = c.loop-seat.seat-index in
    let left = c.loop-seat.left.items in
    let rest = c.pop.new.self.items in
    let items = c.in-Some.ensures.items in
    record {
      count = (let long = ap length items in let cut = length-append rest (c.in-Some.reader ∷ []) in let same = length-set seats i c.push.new.self in let count = c.loop-seat.invariant.count in omega (arith, long, cut, same, count));
      left = λ x all. (All-pop (λ reader. reader ≡ x) left rest (Some c.in-Some.reader) items (c.loop-seat.invariant.left x all)).0;
      given = λ x own k d all free below.
          given_next seats c.args.seats.now i c.seat-item.result c.push.new.self c.in-Some.reader x own (omega (arith, c.loop-seat-test.true)) (omega (arith, c.loop-seat-test.true, c.loop-seat.auto.seats)) c.seat-item.is
          (c.loop-seat.invariant.others i c.seat-item.result (omega arith)) free (c.in_ok-push-in-Some.ensures.items ∙ ap (λ (s : Vec Pinning Global). s.items ++ c.in-Some.reader ∷ []) (sym c.seat-item.is))
          (All-pop (λ reader. reader ≡ x) left rest (Some c.in-Some.reader) items (c.loop-seat.invariant.left x all)).1
          (λ j e less. c.loop-seat.invariant.given x own j e all free less) k d below;
      others = λ k d above. others_next seats i c.push.new.self k d above ∙ c.loop-seat.invariant.others k d (omega (arith, above));
    }
