-- Ranges in query texts. Guide: Standard Query Parser, "Range Searches".
use Rattle.std.specs.Prelude.{List, [], ◌∷◌, codes, Bool, true, false, ◌&&◌, ◌||◌, Option, None, Some, option_map, if◌then◌else◌}
use Rattle.std.specs.List.{list_all, take_while}
use Rattle.fc_spec.specs.words.Options.{◌>>=◌}
use Rattle.fc_spec.specs.documents.Val.{Text, same_text}
use Rattle.fc_spec.specs.words.Lists.{is_empty}
use Rattle.fc_spec.specs.queries.QueryTokens.{range, Token, value}
use Rattle.fc_spec.specs.queries.QueryCharacters.{Character, text_of, is_bare, stands_in_end, behind, is_char, is_blank, past, past_white}
use Rattle.fc_spec.specs.queries.QueryWords.{quoted_at}

-- an end that is neither quoted nor a star: not empty, and not the word TO without escapes
unfoldable pub written_end_at : List Character → Option (Text × List Character)
written_end_at cs =
    let row = take_while stands_in_end cs in
    let end = text_of row in
    if is_empty end || (list_all is_bare row && same_text end (codes "TO")) then None else Some (end, behind stands_in_end cs)

-- an end of a range, and what is left behind it
unfoldable pub end_at : List Character → Option (Option Text × List Character)
end_at [] = None
end_at (c ∷ cs) =
    if is_char 34 c then option_map (λ q. (Some q.0, q.1)) (quoted_at cs)
    else if is_char 42 c then Some (None, cs)
    else option_map (λ e. (Some e.0, e.1)) (written_end_at (c ∷ cs))

-- behind the low end: white space, TO, white space
unfoldable pub past_to : List Character → Option (List Character)
past_to cs = do
  at_word ← past_white cs
  at_o ← past 84 at_word
  left ← past 79 at_o
  past_white left

-- `]` or `}`: whether the end is in the range, and what is left behind it
unfoldable pub bracket_at : List Character → Option (Bool × List Character)
bracket_at [] = None
bracket_at (c ∷ cs) = if is_char 93 c then Some (true, cs) else if is_char 125 c then Some (false, cs) else None

-- behind `[` or `{`: the range, and what is left behind it
unfoldable pub range_at : (has_low : Bool) → List Character → Option (Token × List Character)
range_at has_low cs = do
  low ← end_at (behind is_blank cs)
  at_high ← past_to low.1
  high ← end_at at_high
  bracket ← bracket_at (behind is_blank high.1)
  Some (value (range (record { low = low.0; high = high.0; has_low = has_low; has_high = bracket.0 })), bracket.1)
