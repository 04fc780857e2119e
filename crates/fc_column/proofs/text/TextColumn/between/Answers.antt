use Rattle.std.proofs.Common.{refl, ◌∙◌, arith}
use Rattle.fc_column.specs.Terms.{ordinals_in, has_from_to}
use Rattle.fc_column.proofs.TermPositions.{tested_at}
use Rattle.fc_column.proofs.text.TextColumn.between.Goals as goal

pub mark-requires : goal.mark-requires
mark-requires c = λ k d inside.
    let below = c.positions_between.ensures.within k d inside in
    omega (arith, below, c.requires)

pub returns : goal.returns
returns c = λ at.
    let column = c.args.self.now in
    c.mark.ensures at ∙ c.positions_between.ensures.positions at
    ∙ tested_at (λ texts. has_from_to c.args.lo c.args.hi (ordinals_in column texts)) column at refl
