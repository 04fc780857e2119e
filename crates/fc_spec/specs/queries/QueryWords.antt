-- Words and quoted values in query texts. Guide: Standard Query Parser, "Specifying Terms for the Standard Query Parser", "Boolean Operators Supported by the Standard Query Parser".
use Rattle.std.specs.Prelude.{List, codes, ◌||◌, Option, None, Some, if◌then◌else◌}
use Rattle.std.specs.List.{list_all, take_while}
use Rattle.fc_spec.specs.words.Options.{◌>>=◌}
use Rattle.fc_spec.specs.documents.Val.{Text, same_text}
use Rattle.fc_spec.specs.queries.QueryTokens.{word, negation, and, or, Token, value, sign, operator}
use Rattle.fc_spec.specs.queries.QueryCharacters.{Character, text_of, is_bare, goes_on, is_quotable, begins, behind, is_char, past}

-- a word without escapes; some have a meaning of their own
unfoldable pub plain_word : Text → Token
plain_word t =
    if same_text t (codes "AND") || same_text t (codes "&&") then operator and
    else if same_text t (codes "OR") || same_text t (codes "||") then operator or
    else if same_text t (codes "NOT") then sign negation
    else value (word t)

abbrev pub word_token : List Character → Token
word_token cs = if list_all is_bare cs then plain_word (text_of cs) else value (word (text_of cs))

-- the word in front, as long as it goes on, and what is left behind it; no star touches it
unfoldable pub word_at : List Character → Option (Token × List Character)
word_at cs = if begins (is_char 42) (behind goes_on cs) then None else Some (word_token (take_while goes_on cs), behind goes_on cs)

-- behind `"`: the text up to the next `"`, and what is left behind that
unfoldable pub quoted_at : List Character → Option (Text × List Character)
quoted_at cs = do
  left ← past 34 (behind is_quotable cs)
  Some (text_of (take_while is_quotable cs), left)
