-- Tokens of query texts.
use Rattle.std.specs.Prelude.{◌≡◌, List, [], ◌∷◌, ◌++◌, true, false, Option, None, Some, refl, codes}
use Prim.Native.String.{String}
use Rattle.fc_spec.specs.documents.Val.{Text}
use Rattle.fc_spec.specs.queries.QueryTokens.{word, range, star, Token, value, sign, operator, opening, closing, colon, plus, minus, exclamation, negation, and, or}
use Rattle.fc_spec.specs.queries.QueryRow.{tokens_of}
use Rattle.fc_rows.proofs.queries.QueryWords.{cut, a_word, in_quotes, pair}

abbrev any : Token
any = value star

abbrev pub Cuts : String → List Token → Type 0
Cuts s ts = tokens_of (codes s) ≡ Some ts

abbrev pub HasNone : String → Type 0
HasNone s = tokens_of (codes s) ≡ None

pub white_space : Cuts "" [] × Cuts " \t\r\n" [] × Cuts " cat:a " (pair "cat" "a") × Cuts "cat\n:\ta" (pair "cat" "a")
unfolding cut
white_space = (refl, refl, refl, refl)

pub words_go_on : Cuts "a-b:c+d-" (pair "a-b" "c+d-") × Cuts "cat:a!b" (pair "cat" "a" ++ sign exclamation ∷ a_word "b" ∷ [])
unfolding cut
words_go_on = (refl, refl)

-- the letter with two bytes, as it stands and behind a backslash
pub other_letters : tokens_of (195 ∷ 169 ∷ 32 ∷ 92 ∷ 195 ∷ 169 ∷ []) ≡ (let letter = value (word (195 ∷ 169 ∷ [])) in Some (letter ∷ letter ∷ []))
unfolding cut
other_letters = refl

pub minus_behind_a_colon :
    Cuts "n:-5" (pair "n" "-5")
    × Cuts "n:-" (pair "n" "-")
    × Cuts "n:-(cat:a)" (pair "n" "-" ++ opening ∷ (pair "cat" "a" ++ closing ∷ []))
    × Cuts "n: -5" (a_word "n" ∷ colon ∷ sign minus ∷ a_word "5" ∷ [])
    × Cuts "n\\:-5" (a_word "n:-5" ∷ [])
    × Cuts "n:+5" (a_word "n" ∷ colon ∷ sign plus ∷ a_word "5" ∷ [])
unfolding cut
minus_behind_a_colon = (refl, refl, refl, refl, refl, refl)

pub words_of_their_own :
    Cuts "AND && OR || NOT" (operator and ∷ operator and ∷ operator or ∷ operator or ∷ sign negation ∷ [])
    × Cuts "and &&& ORx \\NOT A\\ND" (a_word "and" ∷ a_word "&&&" ∷ a_word "ORx" ∷ a_word "NOT" ∷ a_word "AND" ∷ [])
    × Cuts "\"AND\"" (in_quotes "AND" ∷ [])
unfolding cut
words_of_their_own = (refl, refl, refl)

pub escapes :
    Cuts "\\\"\\(\\ \\\\" (a_word "\"( \\" ∷ [])
    × Cuts "\"a \\\"b\\\\\"" (in_quotes "a \"b\\" ∷ [])
    × Cuts "\"\"" (in_quotes "" ∷ [])
    × HasNone "\\u0041" × HasNone "a\\" × HasNone "\"\\u\"" × HasNone "\"a" × HasNone "\"a\\\""
unfolding cut
escapes = (refl, refl, refl, refl, refl, refl, refl, refl)

pub stars :
    Cuts "*:**:*" (any ∷ colon ∷ any ∷ any ∷ colon ∷ any ∷ [])
    × Cuts "*:*-cat:a" (any ∷ colon ∷ any ∷ sign minus ∷ pair "cat" "a")
    × Cuts "cat:\"a\"*:*" (a_word "cat" ∷ colon ∷ in_quotes "a" ∷ any ∷ colon ∷ any ∷ [])
    × Cuts "*:-5" (any ∷ colon ∷ a_word "-5" ∷ [])
    × HasNone "a*" × HasNone "*a" × HasNone "cat:-*" × HasNone "a-*" × HasNone "\\**" × HasNone "*\\*"
unfolding cut
stars = (refl, refl, refl, refl, refl, refl, refl, refl, refl, refl)

abbrev from_to : Option Text → Option Text → List Token
from_to low high = value (range (record { low = low; high = high; has_low = true; has_high = true })) ∷ []

pub ranges :
    Cuts "[a TO b]" (from_to (Some (codes "a")) (Some (codes "b")))
    × Cuts "[ -1  TO\t* ]" (from_to (Some (codes "-1")) None)
    × Cuts "[\"a b\" TO \"*\"]" (from_to (Some (codes "a b")) (Some (codes "*")))
    × Cuts "[T\\O TO a:+!/]" (from_to (Some (codes "TO")) (Some (codes "a:+!/")))
    × Cuts "{* TO a]b" (value (range (record { low = None; high = Some (codes "a"); has_low = false; has_high = true })) ∷ a_word "b" ∷ [])
    × HasNone "[TO TO b]" × HasNone "[a TO ]" × HasNone "[a to b]" × HasNone "[\"a\"TO b]" × HasNone "[a* TO b]" × HasNone "[* TO *b]" × HasNone "[a T\\O b]" × HasNone "[a TO b" × HasNone "[a TO b\\]"
    × HasNone "[a TO\"b\"]" × HasNone "[(a TO b]" × HasNone "[a TO b)]" × HasNone "[a\"b TO c]" × HasNone "[a TO {b]" × HasNone "[a[b TO c]" × HasNone "[a TO \\u]"
unfolding cut
ranges = (refl, refl, refl, refl, refl, refl, refl, refl, refl, refl, refl, refl, refl, refl, refl, refl, refl, refl, refl, refl, refl)

-- a word ends where a quoted value, a range or a parenthesis begins
pub word_ends :
    Cuts "a\"b\"c" (a_word "a" ∷ in_quotes "b" ∷ a_word "c" ∷ [])
    × Cuts "a[b TO c]" (a_word "a" ∷ from_to (Some (codes "b")) (Some (codes "c")))
    × Cuts "a{b TO c}" (a_word "a" ∷ value (range (record { low = Some (codes "b"); high = Some (codes "c"); has_low = false; has_high = false })) ∷ [])
    × Cuts "a(b)c" (a_word "a" ∷ opening ∷ a_word "b" ∷ closing ∷ a_word "c" ∷ [])
unfolding cut
word_ends = (refl, refl, refl, refl)

pub other_characters : HasNone "a]" × HasNone "a}" × HasNone "a^2" × HasNone "a~" × HasNone "a?" × HasNone "/a/"
unfolding cut
other_characters = (refl, refl, refl, refl, refl, refl)

-- a form feed and a no-break space are no white space
pub white_elsewhere : (tokens_of (97 ∷ 12 ∷ 98 ∷ []) ≡ Some (value (word (97 ∷ 12 ∷ 98 ∷ [])) ∷ [])) × (tokens_of (97 ∷ 194 ∷ 160 ∷ 98 ∷ []) ≡ Some (value (word (97 ∷ 194 ∷ 160 ∷ 98 ∷ [])) ∷ []))
unfolding cut
white_elsewhere = (refl, refl)
