use Rattle.std.proofs.Common.{subst, arith}
use Rattle.std.proofs.lemmas.List.{take_all}
use Rattle.fc_range.proofs.Selected.{HasPicked}
use Rattle.fc_date_range.proofs.selecting.pick.Goals as goal

pub returns-clause-set : goal.returns-clause-set
returns-clause-set c = λ at.
    let docs = c.args.docs.now in
    let positions = c.args.positions.now in
    let all : HasPicked docs positions c.loop-at.into = subst (λ l. HasPicked docs l c.loop-at.into) (take_all c.loop-at.at-index positions (omega arith)) c.loop-at.invariant in
    all.each at
