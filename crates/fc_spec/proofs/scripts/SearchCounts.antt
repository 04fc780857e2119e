-- A script that was read has no more searches than it may have bytes.
use Rattle.std.proofs.Common.{◌≡◌, ℕ, suc, ◌+◌, ◌≤◌, List, [], ◌∷◌, ◌++◌, length, Bool, true, false, cond, ◌==◌, nat_le, Option, None, Some, IfOk, arith, length-append}
use Rattle.std.specs.Prelude.{not}
use Rattle.std.specs.List.{filter_map, cons_option, enumerate_from}
use Rattle.std.proofs.lemmas.Bool.{leb-true}
use Rattle.std.proofs.lemmas.List.{length-map}
use Rattle.std.proofs.lemmas.List.FromFn.{length-enumerate_from}
use Rattle.std.proofs.lemmas.List.Sums.{length-filter, count_by-le-length}
use Rattle.std.proofs.lemmas.Result.{IfOk-at_ok}
use Rattle.serde_json.specs.Data.{Data}
use Rattle.fc_spec.specs.documents.Val.{Text}
use Rattle.fc_spec.specs.documents.Schema.{Schema}
use Rattle.fc_spec.specs.laws.ScriptLaws.{SearchesAreFew}
use Rattle.fc_spec.specs.requests.RequestReading.{request_of}
use Rattle.fc_spec.specs.scripts.AskedScripts.{AskedScript, asked, asked_script_of, line_asking}
use Rattle.fc_spec.specs.scripts.LineReading.{line_said}
use Rattle.fc_spec.specs.scripts.Phases.{search_at, searches}
use Rattle.fc_spec.specs.scripts.Script.{Line, Script, phase_of}
use Rattle.fc_spec.specs.scripts.ScriptFault.{too_long}
use Rattle.fc_spec.specs.scripts.ScriptLines.{before_first_line, lines_of}
use Rattle.fc_spec.specs.scripts.ScriptReading.{at_line, check_last, is_silent, Numbered, numbered_lines, schema_on, script_limit, script_of, script_of_lines, value_on, with_line, with_lines}
use Rattle.fc_spec.specs.scripts.ScriptTotals.{Limits}
use Rattle.fc_spec.specs.words.Walks.{unless}
use Rattle.fc_spec.proofs.words.ReadingWords.{going_on, passed, seen, whatever}

-- ---- lines of bytes

before_adds : (b : ℕ) (ls : List Text) → length (before_first_line b ls) ≤ 1 + length ls
before_adds b [] = omega arith
before_adds b (l ∷ ls) = omega arith

lines_are_few : (bytes : List ℕ) → length (lines_of bytes) ≤ length bytes
lines_are_few [] = omega arith
lines_are_few (b ∷ bs) = go (b == 10) (lines_are_few bs)
  where
    go : (test : Bool) → length (lines_of bs) ≤ length bs → length (cond test ([] ∷ lines_of bs) (before_first_line b (lines_of bs))) ≤ length (b ∷ bs)
    go true few = omega (arith, few)
    go false few = omega (arith, few, before_adds b (lines_of bs))

numbered_are_few : (bytes : List ℕ) → length (numbered_lines bytes) ≤ length bytes
numbered_are_few bytes =
    let all = enumerate_from 1 (lines_of bytes) in
    let told : Numbered → Bool = λ l. not (is_silent l.1) in
    omega (arith, length-filter told all, count_by-le-length told all, length-enumerate_from 1 (lines_of bytes), lines_are_few bytes)

-- ---- lines of a script

-- no more than so many
abbrev AreUpTo : ℕ → List (Line Data) → Type 0
AreUpTo n lines = length lines ≤ n

one_more : (limits : Limits) (s : Schema) (earlier : List (Line Data)) (l : Text) → IfOk (with_line limits s earlier l) (AreUpTo (length earlier + 1))
one_more limits s earlier l =
    whatever (AreUpTo (length earlier + 1)) (value_on l) _ (λ d. whatever (AreUpTo (length earlier + 1)) (line_said s d) _
    (λ now. whatever (AreUpTo (length earlier + 1)) (check_last limits s (earlier ++ now ∷ []) now) _ (λ u. omega (arith, length-append earlier (now ∷ [])))))

lines_go_on : (limits : Limits) (s : Schema) (n : ℕ) (earlier : List (Line Data)) (ls : List Numbered) → length earlier + length ls ≤ n → IfOk (with_lines limits s earlier ls) (AreUpTo n)
lines_go_on limits s n earlier [] few = omega (arith, few)
lines_go_on limits s n earlier (l ∷ ls) few =
    going_on (AreUpTo n) (AreUpTo (length earlier + 1)) (at_line l.0 (with_line limits s earlier l.1)) _
    (seen (AreUpTo (length earlier + 1)) _ (with_line limits s earlier l.1) (one_more limits s earlier l.1))
    (λ now short. lines_go_on limits s n now ls (omega (arith, few, short)))

-- a script of no more lines than so many
abbrev HasUpTo : ℕ → Script Data → Type 0
HasUpTo n S = AreUpTo n S.lines

script_lines : (limits : Limits) (n : ℕ) (ls : List Numbered) → length ls ≤ n → IfOk (script_of_lines limits ls) (HasUpTo n)
script_lines limits n [] few = tt
script_lines limits n (l ∷ ls) few =
    whatever (HasUpTo n) (at_line l.0 (schema_on l.1)) _
    (λ s. going_on (HasUpTo n) (AreUpTo n) (with_lines limits s [] ls) _ (lines_go_on limits s n [] ls (omega (arith, few))) (λ lines fit. fit))

-- of bytes that are not too many
bytes_lines : (limits : Limits) (bytes : List ℕ) → IfOk (script_of limits bytes) (HasUpTo script_limit)
bytes_lines limits bytes =
    going_on (HasUpTo script_limit) (λ u. nat_le (length bytes) script_limit ≡ true) (unless (nat_le (length bytes) script_limit) (record { line = 0; fault = too_long })) _
    (passed (nat_le (length bytes) script_limit) (record { line = 0; fault = too_long }))
    (λ u fits. script_lines limits script_limit (numbered_lines bytes) (omega (arith, numbered_are_few bytes, leb-true (length bytes) script_limit fits)))

-- ---- searches

-- what a line gives makes one more at most
one_found : {Y : Type 0} (o : Option Y) (ys : List Y) (n : ℕ) → length ys ≤ n → length (cons_option o ys) ≤ suc n
one_found None ys n few = omega (arith, few)
one_found (Some y) ys n few = omega (arith, few)

found_are_few : {X Y : Type 0} (h : X → Option Y) (xs : List X) → length (filter_map h xs) ≤ length xs
found_are_few h [] = omega arith
found_are_few h (x ∷ xs) = one_found (h x) (filter_map h xs) (length xs) (found_are_few h xs)

searches_among_lines : {A : Type 0} (lines : List (Line A)) → length (searches lines) ≤ length lines
searches_among_lines lines = omega (arith, found_are_few (λ n. search_at (phase_of lines n.0) n.1) (enumerate_from 0 lines), length-enumerate_from 0 lines)

-- a script of no more searches than it may have bytes
abbrev HasFew : AskedScript → Type 0
HasFew S = length (searches S.lines) ≤ script_limit

asked_lines : (limits : Limits) (bytes : List ℕ) → IfOk (asked_script_of limits bytes) HasFew
asked_lines limits bytes =
    going_on HasFew (HasUpTo script_limit) (script_of limits bytes) _ (bytes_lines limits bytes)
    (λ S few. omega (arith, few, searches_among_lines (asked S).lines, length-map S.lines (line_asking (request_of S.schema))))

pub searches_are_few : SearchesAreFew
searches_are_few limits bytes S e = IfOk-at_ok HasFew e (asked_lines limits bytes)
