-- Words for query texts in rows.
use Rattle.std.specs.Prelude.{List, [], ◌∷◌, codes, ⊤}
use Rattle.std.specs.Str.{chars}
use Prim.Native.String.{String}
use Rattle.fc_spec.specs.queries.QueryTokens.{word, quoted, Token, value, colon}
use Rattle.fc_spec.specs.queries.QueryWords.{plain_word, word_at, quoted_at}
use Rattle.fc_spec.specs.queries.QueryRanges.{written_end_at, end_at, past_to, bracket_at, range_at}
use Rattle.fc_spec.specs.queries.QueryRow.{single, marked_at, token_at, tokens_within}
use Rattle.fc_rows.proofs.Words.{written}

-- what an answer unfolds to compute the tokens of a literal
unfoldable pub cut : ⊤
unfolding written chars plain_word word_at quoted_at written_end_at end_at past_to bracket_at range_at single marked_at token_at tokens_within
cut = tt

abbrev pub a_word : String → Token
a_word s = value (word (codes s))

abbrev pub in_quotes : String → Token
in_quotes s = value (quoted (codes s))

-- a name, its colon and a word
abbrev pub pair : String → String → List Token
pair name w = a_word name ∷ colon ∷ a_word w ∷ []
