-- Which row of tokens a query text is: white space separates tokens and has no other meaning. Guide: Standard Query Parser.
use Rattle.std.specs.Prelude.{ℕ, zero, suc, List, [], ◌∷◌, length, Bool, true, false, ◌&&◌, ◌||◌, ◌==◌, Option, None, Some, option_map, if◌then◌else◌}
use Rattle.std.specs.Str.{chars}
use Rattle.fc_spec.specs.words.Options.{◌>>=◌}
use Rattle.fc_spec.specs.documents.Val.{Text}
use Rattle.fc_spec.specs.queries.QueryTokens.{quoted, star, plus, minus, exclamation, Token, value, sign, opening, closing, colon}
use Rattle.fc_spec.specs.queries.QueryCharacters.{Character, characters, code, is_ordinary, is_char, begins, is_blank}
use Rattle.fc_spec.specs.queries.QueryWords.{word_at, quoted_at}
use Rattle.fc_spec.specs.queries.QueryRanges.{range_at}

-- a character that is a token by itself
unfoldable pub single : ℕ → Option Token
single c =
    if c == 43 then Some (sign plus)
    else if c == 45 then Some (sign minus)
    else if c == 33 then Some (sign exclamation)
    else if c == 40 then Some opening
    else if c == 41 then Some closing
    else if c == 58 then Some colon
    else None

-- the token of a character that begins no word, and what is left behind it
unfoldable pub marked_at : ℕ → List Character → Option (Token × List Character)
marked_at c cs =
    if c == 34 then option_map (λ q. (value (quoted q.0), q.1)) (quoted_at cs)
    else if c == 91 then range_at true cs
    else if c == 123 then range_at false cs
    else if c == 42 then (if begins is_ordinary cs then None else Some (value star, cs))
    else option_map (λ t. (t, cs)) (single c)

-- directly behind a colon `-` begins a word too
abbrev pub begins_word : (behind_colon : Bool) → Character → Bool
begins_word behind_colon c = is_ordinary c || (behind_colon && is_char 45 c)

-- the first token, and what is left behind it
unfoldable pub token_at : (behind_colon : Bool) → List Character → Option (Token × List Character)
token_at behind_colon [] = None
token_at behind_colon (c ∷ cs) = if begins_word behind_colon c then word_at (c ∷ cs) else marked_at (code c) cs

abbrev pub is_colon : Token → Bool
is_colon colon = true
is_colon _ = false

-- the tokens of a row of at most n characters
unfoldable pub tokens_within : (n : ℕ) → (behind_colon : Bool) → List Character → Option (List Token)
tokens_within zero behind_colon cs = Some []
tokens_within (suc n) behind_colon [] = Some []
tokens_within (suc n) behind_colon (c ∷ cs) = elim (is_blank c) [
  | true ↦ tokens_within n false cs
  | false ↦ do
    first ← token_at behind_colon (c ∷ cs)
    others ← tokens_within n (is_colon first.0) first.1
    Some (first.0 ∷ others)
]

-- the row of tokens of a text, where it has one
abbrev pub tokens_of : Text → Option (List Token)
tokens_of t = let cs = characters (chars t) in tokens_within (length cs) false cs
