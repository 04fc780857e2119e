-- What is written, as tokens.
use Rattle.std.specs.Prelude.{◌≡◌, List, [], ◌∷◌, ◌++◌, Option, None, Some}
use Rattle.json.specs.Token.{Token, key}
use Rattle.json.specs.Tree.{json_tokens}
use Rattle.json.specs.Written.{Written}
use Rattle.serde_json.specs.Data.{Data}
use Rattle.serde_json.specs.Written.{outline}
use Rattle.fc_spec.specs.documents.Val.{Text}

abbrev pub tokens_of : Data → List Token
tokens_of d = json_tokens (outline d)

-- the tokens of a member, where it is there
abbrev pub member_tokens : Text → Option Data → List Token
member_tokens name None = []
member_tokens name (Some d) = key name ∷ tokens_of d

-- these tokens stand behind those before
abbrev pub WritesTokens : Written → Written → List Token → Type 0
WritesTokens old new ts = (new.before ≡ old.before) × (new.tokens ≡ old.tokens ++ ts)

abbrev pub WritesData : Written → Written → Data → Type 0
WritesData old new d = WritesTokens old new (tokens_of d)

-- the member is written, where it is there
abbrev pub WritesMember : Written → Written → Text → Option Data → Type 0
WritesMember old new name d = WritesTokens old new (member_tokens name d)
