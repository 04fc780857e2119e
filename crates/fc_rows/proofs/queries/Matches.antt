-- Which documents queries match. Fields: id, n.
use Rattle.std.specs.Prelude.{◌≡◌, pos, [], ◌∷◌, false, refl}
use Rattle.fc_spec.specs.documents.Val.{long}
use Rattle.fc_spec.specs.documents.Document.{Document}
use Rattle.fc_spec.specs.queries.Query.{including, between}
use Rattle.fc_spec.specs.queries.Matching.{matches}
use Rattle.fc_rows.proofs.Words.{said}

abbrev one_and_nine : Document
one_and_nine = said "1" ∷ (long (pos 1) ∷ long (pos 9) ∷ []) ∷ []

-- 9 meets the lower bound, 1 the upper one, and no value both
pub no_value_between : matches (between 1 (including (long (pos 3))) (including (long (pos 5)))) one_and_nine ≡ false
no_value_between = refl
