-- The first token of a row.
use Rattle.std.proofs.Common.{◌≡◌, ◌∙◌, ap, sym, refl, ◌∷◌, List, drop, Bool, false, Some}
use Rattle.std.specs.Prelude.{slice_get}
use Rattle.fc_spec.specs.queries.QueryCharacters.{Character, code}
use Rattle.fc_spec.specs.queries.QueryRow.{begins_word, marked_at, token_at}
use Rattle.fc_query.proofs.Fronts.{first_and_rest}

at_first : (behind_colon : Bool) (c : Character) (cs : List Character) → begins_word behind_colon c ≡ false → token_at behind_colon (c ∷ cs) ≡ marked_at (code c) cs
unfolding token_at
at_first behind_colon c cs h = rw h refl

pub marked_first : (behind_colon : Bool) (c : Character) (cs : List Character) → slice_get cs 0 ≡ Some c → begins_word behind_colon c ≡ false
    → marked_at (code c) (drop 1 cs) ≡ token_at behind_colon cs
marked_first behind_colon c cs e h = sym (ap (token_at behind_colon) (first_and_rest c cs e) ∙ at_first behind_colon c (drop 1 cs) h)
