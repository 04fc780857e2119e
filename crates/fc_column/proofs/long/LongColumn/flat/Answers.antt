use Rattle.std.proofs.Common.{◌≡◌, true, All, subst, sym}
use Rattle.fc_spec.specs.documents.IntegerTexts.{is_long}
use Rattle.fc_lists.proofs.Flat.{All-flat}
use Rattle.fc_column.proofs.long.LongColumn.flat.Goals as goal

pub returns-clause-long : goal.returns-clause-long
returns-clause-long c =
    let rows = c.self.inside.rows in
    subst (All (λ value. is_long value ≡ true)) (sym c.flat.ensures) (All-flat (λ value. is_long value ≡ true) rows c.self.invariant.long)
