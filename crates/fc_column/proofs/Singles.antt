-- Rows of one integer each.
use Rattle.std.proofs.Common.{◌≡◌, ◌∷◌, [], ℤ, Bool, true, false, ◌||◌, List, map, refl, ap₂}
use Rattle.fc_lane.specs.Between.{is_between}
use Rattle.fc_column.specs.Longs.{has_between}

either : (b : Bool) → (b || false) ≡ b
either true = refl
either false = refl

pub has_between-singles : (lo hi : ℤ) (values : List ℤ) → map (has_between lo hi) (map (λ value. value ∷ []) values) ≡ map (is_between lo hi) values
has_between-singles lo hi [] = refl
has_between-singles lo hi (value ∷ values) = ap₂ (λ b l. b ∷ l) (either (is_between lo hi value)) (has_between-singles lo hi values)
