use Rattle.std.proofs.Common.{◌≡◌, ◌-◌, length, get_or, arith, rules}
use Rattle.std.proofs.lemmas.List.{get_or_default}
use Rattle.fc_lists.proofs.Marks.{rises}
use Rattle.fc_lists.proofs.bits.words_of.Goals as goal
use Rattle.fc_lists.proofs.bits.words_of.Goals.{in-Some, in-None}

pub mark-requires : goal.mark-requires
mark-requires c = λ k d inside.
    let positions = c.args.positions.now in
    let long : length c.deref_mut.result.now ≡ c.match-last.count = search rules in
    elim c.match-last.branch [
      | in-Some w ↦
          let last : w.in-Some.last.now ≡ get_or positions (length positions - 1) 0 = search rules in
          let below = rises positions k (length positions - 1) 0 c.requires (omega arith) (omega arith) in
          omega (arith, long, last, below, w.count-is, get_or_default positions k d 0 inside)
      | in-None w ↦
          let none : length positions ≡ 0 = search rules in
          absurd (omega arith)
    ]
