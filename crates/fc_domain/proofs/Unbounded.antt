-- Values without a bound.
use Rattle.std.proofs.Common.{◌≡◌, not, List, [], ◌∷◌, map, refl, sym, ap, ap₂}
use Rattle.fc_spec.specs.words.Lists.{is_empty}
use Rattle.fc_spec.specs.queries.Query.{unbounded}
use Rattle.fc_spec.specs.documents.Val.{Val}
use Rattle.fc_domain.proofs.GroupAnswers.{some_member}
use Rattle.fc_domain.specs.Within.{has_meeting}

some_value : (vs : List Val) → has_meeting unbounded unbounded vs ≡ not (is_empty vs)
some_value [] = refl
some_value (v ∷ vs) = sym (ap not (some_member v vs))

pub rows_with_any : (rows : List (List Val)) → map (has_meeting unbounded unbounded) rows ≡ map (λ vs. not (is_empty vs)) rows
rows_with_any [] = refl
rows_with_any (vs ∷ rows) = ap₂ (λ a l. a ∷ l) (some_value vs) (rows_with_any rows)
