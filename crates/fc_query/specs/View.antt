-- What the types of this crate stand for in the definitions.
use Rattle.std.specs.Prelude.{Bool, List, map, option_map, string_bytes}
use Rattle.std.specs.declared.vec.Vec.{Vec}
use Rattle.std.specs.declared.alloc.Global.{Global}
use Rattle.fc_spec.specs.queries.QueryCharacters as definition
use Rattle.fc_spec.specs.queries.QueryTokens as token
use Rattle.fc_query.specs.declared.characters.Character.{Character}
use Rattle.fc_query.specs.declared.characters.Character.TheVariants.{Bare, Escaped}
use Rattle.fc_query.specs.declared.classes.Part.{Part}
use Rattle.fc_query.specs.declared.classes.Part.TheVariants.{Word, Quoted, End}
use Rattle.fc_query.specs.declared.tokens.WrittenRange.{WrittenRange}
use Rattle.fc_query.specs.declared.tokens.Value.{Value}
use Rattle.fc_query.specs.declared.tokens.Value.TheVariants as v
use Rattle.fc_query.specs.declared.tokens.Sign.{Sign}
use Rattle.fc_query.specs.declared.tokens.Sign.TheVariants as s
use Rattle.fc_query.specs.declared.tokens.Operator.{Operator}
use Rattle.fc_query.specs.declared.tokens.Operator.TheVariants as o
use Rattle.fc_query.specs.declared.tokens.Token.{Token}
use Rattle.fc_query.specs.declared.tokens.Token.TheVariants as t

abbrev pub character_view : Character → definition.Character
character_view (Bare c) = definition.bare c
character_view (Escaped c) = definition.escaped c

-- what goes on each part
abbrev pub part_test : Part → definition.Character → Bool
part_test Word c = definition.goes_on c
part_test Quoted c = definition.is_quotable c
part_test End c = definition.stands_in_end c

abbrev pub range_view : WrittenRange → token.WrittenRange
range_view r = record { low = option_map string_bytes r.low; high = option_map string_bytes r.high; has_low = r.has_low; has_high = r.has_high }

abbrev pub value_view : Value → token.Value
value_view (v.Word text) = token.word (string_bytes text)
value_view (v.Quoted text) = token.quoted (string_bytes text)
value_view (v.Range r) = token.range (range_view r)
value_view v.Star = token.star

abbrev pub sign_view : Sign → token.Sign
sign_view s.Plus = token.plus
sign_view s.Minus = token.minus
sign_view s.Exclamation = token.exclamation
sign_view s.Negation = token.negation

abbrev pub operator_view : Operator → token.Operator
operator_view o.And = token.and
operator_view o.Or = token.or

abbrev pub token_view : Token → token.Token
token_view (t.Value v) = token.value (value_view v)
token_view (t.Sign s) = token.sign (sign_view s)
token_view (t.Operator o) = token.operator (operator_view o)
token_view t.Opening = token.opening
token_view t.Closing = token.closing
token_view t.Colon = token.colon

abbrev pub tokens_view : Vec Token Global → List token.Token
tokens_view ts = map token_view ts.items
