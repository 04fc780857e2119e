-- The characters of query texts. Guide: Standard Query Parser, "Escaping Special Characters".
use Rattle.std.specs.Prelude.{ℕ, List, [], ◌∷◌, map, drop, codes, Bool, true, false, not, ◌&&◌, ◌||◌, ◌==◌, Option, None, Some, if◌then◌else◌}
use Rattle.std.specs.List.{list_any, prefix_len}
use Rattle.std.specs.Str.{encode_utf8_all}
use Rattle.fc_spec.specs.documents.Val.{Text}

-- a character, as it stands or behind a backslash
pub data Character : Type 0 where
  bare : ℕ → Character
  escaped : ℕ → Character

-- a backslash makes the next character an ordinary one; before `u` and at the end it stays, and no token has it
abbrev pub characters : List ℕ → List Character
characters [] = []
characters (c ∷ []) = bare c ∷ []
characters (c ∷ d ∷ cs) = elim (c == 92 && not (d == 117)) [ true ↦ escaped d ∷ characters cs | false ↦ bare c ∷ characters (d ∷ cs) ]

abbrev pub code : Character → ℕ
code (bare c) = c
code (escaped c) = c

-- the text that a row of characters writes
abbrev pub text_of : List Character → Text
text_of cs = encode_utf8_all (map code cs)

abbrev pub is_bare : Character → Bool
is_bare (bare c) = true
is_bare (escaped c) = false

-- space, tab, LF, CR
abbrev pub is_white : ℕ → Bool
is_white c = c == 32 || c == 9 || c == 10 || c == 13

-- the character is one of these
abbrev pub is_among : List ℕ → ℕ → Bool
is_among ds c = list_any (λ d. d == c) ds

abbrev pub is_special : ℕ → Bool
is_special c = is_among (codes "+-!():^[]\"{}~*?\\/") c

-- begins a word, and goes on one
abbrev pub is_ordinary : Character → Bool
is_ordinary (bare c) = not (is_white c || is_special c)
is_ordinary (escaped c) = true

-- goes on a word that has begun
abbrev pub goes_on : Character → Bool
goes_on (bare c) = not (is_white c || is_special c) || c == 43 || c == 45
goes_on (escaped c) = true

-- stands in a quoted value
abbrev pub is_quotable : Character → Bool
is_quotable (bare c) = not (is_among (codes "\"\\") c)
is_quotable (escaped c) = true

-- stands in an end of a range
abbrev pub stands_in_end : Character → Bool
stands_in_end (bare c) = not (is_white c || is_among (codes "[]{}()\"\\*") c)
stands_in_end (escaped c) = true

-- a first character passes the test
abbrev pub begins : (Character → Bool) → List Character → Bool
begins p [] = false
begins p (c ∷ cs) = p c

-- what is left behind the front whose characters pass
abbrev pub behind : (Character → Bool) → List Character → List Character
behind p cs = drop (prefix_len p cs) cs

-- it is this character, as it stands
abbrev pub is_char : ℕ → Character → Bool
is_char c (bare d) = d == c
is_char c (escaped d) = false

abbrev pub is_blank : Character → Bool
is_blank (bare c) = is_white c
is_blank (escaped c) = false

-- what is left behind this character, where it stands in front
abbrev pub past : ℕ → List Character → Option (List Character)
past c [] = None
past c (d ∷ cs) = if is_char c d then Some cs else None

-- what is left behind white space, where some stands in front
abbrev pub past_white : List Character → Option (List Character)
past_white cs = if begins is_blank cs then Some (behind is_blank cs) else None
