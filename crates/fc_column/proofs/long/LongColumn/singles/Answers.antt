use Rattle.std.proofs.Common.{◌≡◌, ◌∷◌, [], ℤ, true, All, map, Some, None, Option, List, Bor}
use Rattle.std.specs.Option.{IfSome}
use Rattle.fc_spec.specs.documents.IntegerTexts.{is_long}
use Rattle.fc_lists.proofs.Flat.{All-singles}
use Rattle.fc_column.proofs.long.LongColumn.singles.Goals as goal

-- each integer is one of a position
long_singles : (rows : List (List ℤ)) (found : Option (Bor (List ℤ))) → All (All (λ value. is_long value ≡ true)) rows
    → IfSome found (λ values. rows ≡ map (λ value. value ∷ []) values.now) → IfSome found (λ values. All (λ value. is_long value ≡ true) values.now)
long_singles rows None long is = tt
long_singles rows (Some values) long is = All-singles (λ value. is_long value ≡ true) rows values.now is long

pub returns-clause-long : goal.returns-clause-long
returns-clause-long c = long_singles c.self.inside.rows c.singles.result c.self.invariant.long c.singles.ensures
