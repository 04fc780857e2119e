-- Lines cut at the first LF, and the JSON of a line.
use Rattle.std.proofs.Common.{◌≡◌, ℕ, suc, ◌+◌, ◌<◌, ◌≤◌, List, [], ◌∷◌, length, take, drop, Bool, true, false, cond, ◌==◌, nat_lt, Some, None, refl, ◌∙◌, ap, arith, IsUtf8}
use Rattle.std.proofs.lemmas.Bool.{ltb-true, ltb-false}
use Rattle.std.specs.List.{position, position_or_len, before_first, after_first}
use Rattle.std.specs.Str.{is_utf8}
use Rattle.std.proofs.lemmas.Str.{IsUtf8-from_is_utf8, is_utf8-from_IsUtf8}
use Rattle.serde_json.specs.Data.{Data}
use Rattle.serde_json.specs.Read.{read}
use Rattle.fc_spec.specs.scripts.ScriptLines.{lines_of, before_first_line, json_of}

abbrev is_lf : ℕ → Bool
is_lf b = b == 10

cut : (b : ℕ) (bs : List ℕ) (test : Bool) → b == 10 ≡ test → (position_or_len is_lf bs < length bs → lines_of bs ≡ before_first is_lf bs ∷ lines_of (after_first is_lf bs)) → position_or_len is_lf (b ∷ bs) < length (b ∷ bs) → lines_of (b ∷ bs) ≡ before_first is_lf (b ∷ bs) ∷ lines_of (after_first is_lf (b ∷ bs))
cut b bs true is later found = rw is
cut b bs false is later found =
    let one : 1 + position_or_len is_lf bs ≡ suc (position_or_len is_lf bs) = omega arith in
    let two : suc (position_or_len is_lf bs) + 1 ≡ suc (position_or_len is_lf bs + 1) = omega arith in
    let inside : position_or_len is_lf (b ∷ bs) < suc (length bs) = found in
    rw (is, one, two) (ap (before_first_line b) (later (omega (arith, rw (is, one) at inside))))

-- where there is an LF, the bytes before it are the first line
cut_at_first : (bs : List ℕ) → position_or_len is_lf bs < length bs → lines_of bs ≡ before_first is_lf bs ∷ lines_of (after_first is_lf bs)
cut_at_first [] found = absurd (omega arith)
cut_at_first (b ∷ bs) found = cut b bs _ refl (cut_at_first bs) found

at_place : (bs : List ℕ) (i : ℕ) (test : Bool) → nat_lt (position_or_len is_lf bs) (length bs) ≡ test → cond test (Some (position_or_len is_lf bs)) None ≡ Some i → lines_of bs ≡ take i bs ∷ lines_of (drop (i + 1) bs)
at_place bs i true is found =
    let same : position_or_len is_lf bs ≡ i = cc in
    rw (← same) (cut_at_first bs (ltb-true (position_or_len is_lf bs) (length bs) is))
at_place bs i false is found = cc

-- an LF at place i ends the first line
pub lines_of-at : (bs : List ℕ) (i : ℕ) → position is_lf bs ≡ Some i → lines_of bs ≡ take i bs ∷ lines_of (drop (i + 1) bs)
lines_of-at bs i found = at_place bs i _ refl found

no_place : (n m : ℕ) (test : Bool) → nat_lt n m ≡ test → cond test (Some n) None ≡ None → m ≤ n
no_place n m true is none = cc
no_place n m false is none = ltb-false n m is

longer : (b : ℕ) (bs : List ℕ) (test : Bool) → b == 10 ≡ test → length (b ∷ bs) ≤ position_or_len is_lf (b ∷ bs) → (length bs ≤ position_or_len is_lf bs) × (test ≡ false)
longer b bs true is none = absurd (omega (arith, rw is at none))
longer b bs false is none = (omega (arith, rw is at none), refl)

-- where there is no LF behind a byte, it begins the only line
no_line_behind : (b : ℕ) (bs : List ℕ) → length bs ≤ position_or_len is_lf bs → before_first_line b (lines_of bs) ≡ (b ∷ bs) ∷ []
no_line_behind b [] none = refl
no_line_behind b (c ∷ cs) none =
    let e = longer c cs _ refl none in
    rw (e.1, no_line_behind c cs e.0) refl

uncut_from : (bs : List ℕ) → length bs ≤ position_or_len is_lf bs → 0 < length bs → lines_of bs ≡ bs ∷ []
uncut_from [] none some = absurd (omega arith)
uncut_from (b ∷ bs) none some =
    let e = longer b bs _ refl none in
    rw (e.1) (no_line_behind b bs e.0)

-- where there is no LF, all the bytes are one line
pub lines_of-uncut : (bs : List ℕ) → position is_lf bs ≡ None → 0 < length bs → lines_of bs ≡ bs ∷ []
lines_of-uncut bs none some = uncut_from bs (no_place (position_or_len is_lf bs) (length bs) _ refl none) some

json_by : (l : List ℕ) (test : Bool) → is_utf8 l ≡ test → (IsUtf8 l → read l ≡ None) → cond test (read l) None ≡ None
json_by l true is none = none (IsUtf8-from_is_utf8 l is)
json_by l false is none = refl

-- a line that cannot be read says nothing
pub json_of_unread : (l : List ℕ) → (IsUtf8 l → read l ≡ None) → json_of l ≡ None
json_of_unread l none = json_by l _ refl none

-- a line that is read says what was read
pub json_of_read : (l : List ℕ) (d : Data) → IsUtf8 l → read l ≡ Some d → json_of l ≡ Some d
json_of_read l d utf8 is = ap (λ b. cond b (read l) None) (is_utf8-from_IsUtf8 l utf8) ∙ is
