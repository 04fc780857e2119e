-- Reading line by line gives the script that the bytes spell.
use Rattle.std.proofs.Common.{◌≡◌, ℕ, List, [], ◌∷◌, ◌++◌, map, length, Bool, true, false, nat_le, Result, Ok, Err, refl, sym, ◌∙◌, ap}
use Rattle.std.proofs.lemmas.List.{map-append}
use Rattle.serde_json.specs.Data.{Data}
use Rattle.fc_spec.specs.documents.Schema.{Schema}
use Rattle.fc_spec.specs.requests.RequestReading.{request_of}
use Rattle.fc_spec.specs.scripts.AskedScripts.{AskedLine, AskedScript, line_asking, asked, asked_script_of}
use Rattle.fc_spec.specs.scripts.Script.{Line}
use Rattle.fc_spec.specs.scripts.ScriptFault.{LineFault, ScriptFault, too_long}
use Rattle.fc_spec.specs.scripts.ScriptReading.{Numbered, at_line, check_last, numbered_lines, schema_on, script_limit, script_of_lines, value_on, with_lines}
use Rattle.fc_spec.specs.scripts.ScriptTotals.{Limits}
use Rattle.fc_spec.specs.scripts.LineReading.{line_said}
use Rattle.fc_spec.specs.words.Walks.{◌>>=◌, unless}
use Rattle.fc_lines.specs.AskedLines.{asked_line}
use Rattle.fc_script.specs.ReadSoFar.{ReadSoFar, with_asked, with_rest, read_from, read_in}
use Rattle.fc_script.proofs.AskedCounts.{check_last-asked}

-- ---- the lines behind the schema

module _ (limits : Limits) (s : Schema) where
  -- what a search asks
  abbrev see : Line Data → AskedLine
  see l = line_asking (request_of s) l

  abbrev so_far : List AskedLine → ReadSoFar
  so_far ls = record { limits = limits; schema = s; lines = ls }

  -- the lines with their requests read
  abbrev as_asked : Result (List (Line Data)) ScriptFault → Result AskedScript ScriptFault
  as_asked (Ok ls) = Ok (record { schema = s; lines = map see ls })
  as_asked (Err f) = Err f

  module _ (n : ℕ) (ls : List Numbered) (earlier : List (Line Data)) (later : (now : List (Line Data)) → with_rest (so_far (map see now)) ls ≡ as_asked (with_lines limits s now ls)) where
    -- behind a line whose count is within its limit, or not
    counted : (now : Line Data) (count : Result (Unit {0}) LineFault)
        → (at_line n (count >>= λ u. Ok (so_far (map see earlier ++ see now ∷ []))) >>= λ r. with_rest r ls)
        ≡ as_asked (at_line n (count >>= λ u. Ok (earlier ++ now ∷ [])) >>= λ more. with_lines limits s more ls)
    counted now (Ok u) = ap (λ more. with_rest (so_far more) ls) (sym (map-append see earlier (now ∷ []))) ∙ later (earlier ++ now ∷ [])
    counted now (Err e) = refl

    same_count : (now : Line Data) → check_last limits s (map see earlier ++ see now ∷ []) (see now) ≡ check_last limits s (earlier ++ now ∷ []) now
    same_count now = ap (λ more. check_last limits s more (see now)) (sym (map-append see earlier (now ∷ []))) ∙ check_last-asked (request_of s) limits s (earlier ++ now ∷ []) now

    -- with what a line says, or its fault
    line_here : (said : Result (Line Data) LineFault)
        → (at_line n (asked_line s said >>= λ l. with_asked (so_far (map see earlier)) l) >>= λ r. with_rest r ls)
        ≡ as_asked (at_line n (said >>= λ now. check_last limits s (earlier ++ now ∷ []) now >>= λ u. Ok (earlier ++ now ∷ [])) >>= λ more. with_lines limits s more ls)
    line_here (Ok now) =
        ap (λ count. at_line n (count >>= λ u. Ok (so_far (map see earlier ++ see now ∷ []))) >>= λ r. with_rest r ls) (same_count now)
        ∙ counted now (check_last limits s (earlier ++ now ∷ []) now)
    line_here (Err e) = refl

    -- with its value, or its fault
    value_here : (v : Result Data LineFault)
        → (at_line n ((v >>= λ d. asked_line s (line_said s d)) >>= λ l. with_asked (so_far (map see earlier)) l) >>= λ r. with_rest r ls)
        ≡ as_asked (at_line n (v >>= λ d. line_said s d >>= λ now. check_last limits s (earlier ++ now ∷ []) now >>= λ u. Ok (earlier ++ now ∷ [])) >>= λ more. with_lines limits s more ls)
    value_here (Ok d) = line_here (line_said s d)
    value_here (Err e) = refl

  -- all of them
  lines_read : (ls : List Numbered) (earlier : List (Line Data)) → with_rest (so_far (map see earlier)) ls ≡ as_asked (with_lines limits s earlier ls)
  lines_read [] earlier = refl
  lines_read (l ∷ ls) earlier = value_here l.0 ls earlier (lines_read ls) (value_on l.1)

  -- the lines behind a schema, and the script
  as_script : (r : Result (List (Line Data)) ScriptFault) → as_asked r ≡ ((r >>= λ lines. Ok (record { schema = s; lines = lines })) >>= λ S. Ok (asked S))
  as_script (Ok ls) = refl
  as_script (Err f) = refl

-- ---- all lines

-- with the schema of the first line, or its fault
first_line : (limits : Limits) (n : ℕ) (ls : List Numbered) (r : Result Schema LineFault)
    → (at_line n r >>= λ s. with_rest (so_far limits s []) ls) ≡ ((at_line n r >>= λ s. with_lines limits s [] ls >>= λ lines. Ok (record { schema = s; lines = lines })) >>= λ S. Ok (asked S))
first_line limits n ls (Ok s) = lines_read limits s ls [] ∙ as_script limits s (with_lines limits s [] ls)
first_line limits n ls (Err e) = refl

from_lines : (limits : Limits) (ls : List Numbered) → read_from limits ls ≡ (script_of_lines limits ls >>= λ S. Ok (asked S))
from_lines limits [] = refl
from_lines limits (l ∷ ls) = first_line limits l.0 ls (schema_on l.1)

-- of bytes
pub script_read : (limits : Limits) (bytes : List ℕ) → read_in limits bytes ≡ asked_script_of limits bytes
script_read limits bytes = by_length (nat_le (length bytes) script_limit)
  where
    ls : List Numbered
    ls = numbered_lines bytes

    by_length : (few : Bool) → (unless few (record { line = 0; fault = too_long }) >>= λ u. read_from limits ls) ≡ ((unless few (record { line = 0; fault = too_long }) >>= λ u. script_of_lines limits ls) >>= λ S. Ok (asked S))
    by_length true = from_lines limits ls
    by_length false = refl
