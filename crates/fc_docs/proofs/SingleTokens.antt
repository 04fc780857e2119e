-- A token that is a value by itself.
use Rattle.std.proofs.Common.{◌≡◌, ℕ, List, ◌∷◌, Option, Some, None, option_map, option_and_then, Bool, true, false, is_some, IfSome, ℤ, refl, ap, ◌∙◌}
use Rattle.std.specs.Bool.{OnTrue}
use Rattle.json.specs.Token.{Token}
use Rattle.json.specs.Json.{value}
use Rattle.serde_json.specs.Data as tree
use Rattle.serde_json.specs.Data.{Data}
use Rattle.serde_json.specs.Find.{as_i64}
use Rattle.serde_json.specs.Read.{converted, of_json, number_of}
use Rattle.fc_docs.specs.Direct.{data_of, Spells}
use Rattle.fc_docs.proofs.JsonTokens.{token_alone}

-- a number of which an integer was found is one
pub number_single : (s : List ℕ) (found : Option ℤ) → IfSome found (λ z. option_and_then as_i64 (number_of s) ≡ Some z) → (b : Bool) → b ≡ is_some found → OnTrue b ((d : Data) × (data_of (Token.number s) ≡ Some d))
number_single s found is true some = go (number_of s) found is some
  where
    go : (o : Option tree.Num) (z : Option ℤ) → IfSome z (λ y. option_and_then as_i64 o ≡ Some y) → true ≡ is_some z → (d : Data) × (option_map tree.number o ≡ Some d)
    go o None never some = absurd (cc)
    go None (Some y) never some = absurd (cc)
    go (Some n) (Some y) is some = (tree.number n, refl)
number_single s found is false none = tt

pub single_spelled : (b : Bool) (t : Token) (old new : List Token) → OnTrue b ((d : Data) × (data_of t ≡ Some d)) → old ≡ t ∷ new → OnTrue b ((d : Data) × Spells 1 old new d)
single_spelled true t old new is first = (is.0, λ depth some. ap (λ ts. converted of_json (value depth ts)) first ∙ token_alone depth t new is.0 is.1)
single_spelled false t old new is first = tt
