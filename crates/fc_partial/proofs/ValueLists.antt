-- The integers among values of one kind.
use Rattle.std.proofs.Common.{◌≡◌, ℤ, List, [], ◌∷◌, map, refl, ap}
use Rattle.fc_spec.specs.documents.Columns.{longs_in}
use Rattle.fc_spec.specs.documents.Val.{Text, text, long}

pub longs_in-longs : (xs : List ℤ) → longs_in (map long xs) ≡ xs
longs_in-longs [] = refl
longs_in-longs (x ∷ xs) = ap (λ l. x ∷ l) (longs_in-longs xs)

pub longs_in-texts : (ts : List Text) → longs_in (map text ts) ≡ []
longs_in-texts [] = refl
longs_in-texts (t ∷ ts) = longs_in-texts ts
