use Rattle.std.proofs.Common.{pos, get_or, of_z, w64, ap}
use Rattle.std.specs.Ordering.{int_eq}
use Rattle.std.proofs.lemmas.Bool.{false_from_ne_true}
use Rattle.std.proofs.lemmas.Bool.Decides.{Decides-int_eq}
use Rattle.fc_count.specs.declared.countings.Entry.{Entry}
use Rattle.fc_count.proofs.SortedRuns.{other_behind}
use Rattle.fc_count.proofs.runs.run_length.Goals as goal

pub returns-else-others-end-clause-behind : goal.returns-else-others-end-clause-behind
returns-else-others-end-clause-behind c =
    let none : Entry = record { number = pos 0; row = 0 } in
    let number = (get_or c.args.others.now c.loop-end.end none).number in
    let first = c.args.first.now.number in
    let other = false_from_ne_true (int_eq number first) (λ h. c.if-others-end.false (ap (of_z w64) ((Decides-int_eq number first).0 h))) in
    other_behind c.args.first.now c.args.others.now c.loop-end.end none c.requires.rising c.loop-end-test.true other
