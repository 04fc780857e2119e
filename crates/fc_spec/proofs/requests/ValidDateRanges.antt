-- The range facets over dates that are read are valid for the schema.
use Rattle.std.proofs.Common.{◌≡◌, refl, sym, ap, ◌∙◌, ℕ, zero, suc, ◌+◌, ◌*◌, ◌<◌, ◌≤◌, List, [], ◌∷◌, length, Bool, true, false, ◌&&◌, not, Option, None, Some, IfSome, All, IfOk, Ok, take, drop, option_map, if◌then◌else◌, arith}
use Rattle.std.specs.Prelude.{codes, nat_le, ◌==◌, slice_index}
use Rattle.std.specs.Option.{option_and_then}
use Rattle.std.specs.Char.{is_ascii_digit, digit_value}
use Rattle.std.specs.Str.{all_ascii_digits}
use Rattle.std.specs.Str.Parse.{digits_value_after, digits_value}
use Rattle.std.specs.Cmp.Lexicographic.{nat_list_cmp_total}
use Rattle.std.specs.List.Sorted.{IsStrictlySortedBy}
use Rattle.std.specs.List.{AllByRecursion, prefix_len}
use Rattle.std.specs.declared.cmp.Ordering.TheVariants.{Less}
use Rattle.std.proofs.lemmas.Bool.Decides.{nat_tests}
use Rattle.std.proofs.lemmas.List.Elements.{All-nil, All-cons}
use Rattle.std.proofs.lemmas.Result.{IfOk-weaker}
use Rattle.serde_json.specs.Data.{Data, Members}
use Rattle.fc_spec.specs.documents.Val.{Text, text_cmp}
use Rattle.fc_spec.specs.documents.Schema.{Schema, holds_dates}
use Rattle.fc_spec.specs.documents.IntegerTexts.{natural_of}
use Rattle.fc_spec.specs.documents.SchemaReading.{is_digit}
use Rattle.fc_spec.specs.dates.Calendar.{Moment, is_moment}
use Rattle.fc_spec.specs.dates.DateTexts.{canonical_text, moment_of, canonical_of, IsCanonical}
use Rattle.fc_spec.specs.dates.GapTexts.{Gap, is_unit, gap_named, is_gap_number, gap_of_parts, gap_behind, gap_of}
use Rattle.fc_spec.specs.dates.Adding.{later, added}
use Rattle.fc_spec.specs.requests.Request.{range, date_range}
use Rattle.fc_spec.specs.requests.RequestFault.{bad_parameter}
use Rattle.fc_spec.specs.requests.RequestWalk.{required, optional, truth_in, text_in}
use Rattle.fc_spec.specs.requests.StatisticReading.{has_type}
use Rattle.fc_spec.specs.requests.FacetReading.{field_in, words_in, other_words, include_words, range_parts}
use Rattle.fc_spec.specs.requests.DateGaps.{is_before}
use Rattle.fc_spec.specs.requests.DateRangeReading.{date_in, gap_in, edges_behind, edges_from, edges_of, edges_in, date_range_parts, range_part}
use Rattle.fc_spec.specs.requests.ValidRequests.{IsValidDateRange, IsValidRange}
use Rattle.fc_spec.specs.scripts.JsonValues.{MembersHaveNumbers}
use Rattle.fc_spec.specs.words.Walks.{◌>>=◌, unless}
use Rattle.fc_spec.proofs.words.Orderings.{Less-from_is_lt}
use Rattle.fc_spec.proofs.words.ReadingWords.{going_on, whatever, there, needed}
use Rattle.fc_spec.proofs.requests.ValidKinds.{field_in_valid, range_valid, IsKindAnywhere}
use Rattle.fc_spec.proofs.dates.ReadDates.{text_is_canonical, read_is}
use Rattle.fc_spec.proofs.dates.DateOrder.{in_order}
use Rattle.fc_spec.proofs.dates.LaterDates.{goes_on}

-- ---- canonical texts

-- what is canonical says a moment, and is its text
record Says (t : Text) (m : Moment) : Type 0 where
  read : moment_of t ≡ Some m
  valid : is_moment m ≡ true
  text : canonical_text m ≡ t

some_is : {X : Type 0} (x y : X) → Some x ≡ Some y → x ≡ y
some_is x y e = cc

says : (t : Text) → IsCanonical t → (m : Moment) × Says t m
says t h = at (moment_of t) refl (read_is t) h
  where
    at : (o : Option Moment) → moment_of t ≡ o → IfSome o (λ m. is_moment m ≡ true) → option_map canonical_text o ≡ Some t → (m : Moment) × Says t m
    at None e v k = absurd cc
    at (Some m) e v k = (m, record { read = e; valid = v; text = some_is (canonical_text m) t k })

pub canonical_is : (t : Text) → IfSome (canonical_of t) IsCanonical
canonical_is t = at (moment_of t) (read_is t)
  where
    at : (o : Option Moment) → IfSome o (λ m. is_moment m ≡ true) → IfSome (option_map canonical_text o) IsCanonical
    at None v = tt
    at (Some m) v = text_is_canonical m v

-- a gap later
abbrev pub IsLaterText : Text → Text → Type 0
IsLaterText t s = IsCanonical s × (text_cmp t s ≡ Less)

pub added_is_later : (t : Text) (g : Gap) → IsCanonical t → 1 ≤ g.number → IfSome (added t g) (IsLaterText t)
added_is_later t g h n = let s = says t h in rw s.1.read (at s.0 s.1 (nat_le (later g.unit g.number s.0).year 9999) refl)
  where
    at : (m : Moment) → Says t m → (b : Bool) → nat_le (later g.unit g.number m).year 9999 ≡ b → IfSome (if b then Some (canonical_text (later g.unit g.number m)) else None) (IsLaterText t)
    at m s false e = tt
    at m s true e =
        let sum = later g.unit g.number m in
        let on = goes_on g.unit g.number m s.valid n (let k = e in grind (arith, nat_tests)) in
        (text_is_canonical sum on.0, ap (λ u. text_cmp u (canonical_text sum)) (sym s.text) ∙ in_order m sum s.valid on.0 ∙ on.1)

-- ---- gaps

digits_grow : (n : ℕ) (ds : Text) → n ≤ digits_value_after 10 n ds
digits_grow n [] = omega arith
digits_grow n (c ∷ cs) = omega (arith, digits_grow (n * 10 + digit_value c) cs)

chosen : {X : Type 0} (P : X → Type 0) (b : Bool) (x : X) (o : Option X) → P x → IfSome o P → IfSome (if b then Some x else o) P
chosen P true x o h k = h
chosen P false x o h k = k

abbrev IsSome : ℕ → Type 0
IsSome n = 1 ≤ n

positive : (ds : Text) → is_gap_number ds ≡ true → IfSome (natural_of ds) IsSome
positive [] h = tt
positive (c ∷ cs) h = at (nat_le 1 (length (c ∷ cs)) && (is_ascii_digit c && all_ascii_digits cs)) refl
  where
    at : (b : Bool) → (nat_le 1 (length (c ∷ cs)) && (is_ascii_digit c && all_ascii_digits cs)) ≡ b → IfSome (if b then Some (digits_value 10 (c ∷ cs)) else None) IsSome
    at false e = tt
    at true e =
        let first : is_ascii_digit c ≡ true = grind (arith, nat_tests) in
        let other : (c == 48) ≡ false = grind (arith, nat_tests) in
        let value : 1 ≤ digit_value c = grind (arith, nat_tests) in
        omega (arith, digits_grow (0 * 10 + digit_value c) cs, value)

abbrev pub IsGap : Gap → Type 0
IsGap g = 1 ≤ g.number

named_is : (n : ℕ) (t : Text) → 1 ≤ n → IfSome (gap_named n t) IsGap
named_is n t h =
    chosen IsGap (is_unit (codes "YEAR") t) _ _ (omega arith)
    (chosen IsGap (is_unit (codes "MONTH") t) _ _ h
    (chosen IsGap (is_unit (codes "DAY") t) _ _ h
    (chosen IsGap (is_unit (codes "HOUR") t) _ _ (omega arith)
    (chosen IsGap (is_unit (codes "MINUTE") t) _ _ (omega arith)
    (chosen IsGap (is_unit (codes "SECOND") t) _ None h tt)))))

parts_are : (digits name : Text) → IfSome (gap_of_parts digits name) IsGap
parts_are digits name = at (is_gap_number digits) refl
  where
    of : (o : Option ℕ) → IfSome o IsSome → IfSome (option_and_then (λ n. gap_named n name) o) IsGap
    of None h = tt
    of (Some n) h = named_is n name h

    at : (b : Bool) → is_gap_number digits ≡ b → IfSome (if b then option_and_then (λ n. gap_named n name) (natural_of digits) else None) IsGap
    at false e = tt
    at true e = of (natural_of digits) (positive digits e)

pub gap_is : (t : Text) → IfSome (gap_of t) IsGap
gap_is t = at (slice_index t 0 == 43)
  where
    at : (b : Bool) → IfSome (if b then gap_behind (drop 1 t) else None) IsGap
    at false = tt
    at true = parts_are (take (prefix_len is_digit (drop 1 t)) (drop 1 t)) (drop (prefix_len is_digit (drop 1 t)) (drop 1 t))

-- ---- edges

-- the edges behind a low end
record AreBehind (low : Text) (n : ℕ) (es : List Text) : Type 0 where
  canonical : All IsCanonical es
  sorted : IsStrictlySortedBy text_cmp es
  above : AllByRecursion (λ y. text_cmp low y ≡ Less) es
  behind : (e : Text) → text_cmp e low ≡ Less → AllByRecursion (λ y. text_cmp e y ≡ Less) es
  few : length es ≤ n

-- and from it on
record AreEdges (low : Text) (n : ℕ) (es : List Text) : Type 0 where
  canonical : All IsCanonical es
  sorted : IsStrictlySortedBy text_cmp es
  behind : (e : Text) → text_cmp e low ≡ Less → AllByRecursion (λ y. text_cmp e y ≡ Less) es
  some : 1 ≤ length es
  few : length es ≤ n + 1

one_behind : (low x : Text) (n : ℕ) → IsLaterText low x → AreBehind low (suc n) (x ∷ [])
unfolding IsStrictlySortedBy
one_behind low x n h = record {
  canonical = All-cons IsCanonical x [] h.0 (All-nil IsCanonical);
  sorted = (tt, tt);
  above = (h.1, tt);
  behind = λ e k. (nat_list_cmp_total.trans e low x k h.1, tt);
  few = omega arith;
}

more_behind : (low next : Text) (n : ℕ) (es : List Text) → IsLaterText low next → AreEdges next n es → AreBehind low (suc n) es
more_behind low next n es h k = record {
  canonical = k.canonical;
  sorted = k.sorted;
  above = k.behind low h.1;
  behind = λ e b. k.behind e (nat_list_cmp_total.trans e low next b h.1);
  few = omega (arith, k.few);
}

edges_is : (low : Text) (n : ℕ) (es : List Text) → IsCanonical low → AreBehind low n es → AreEdges low n (low ∷ es)
unfolding IsStrictlySortedBy
edges_is low n es h k = record {
  canonical = All-cons IsCanonical low es h k.canonical;
  sorted = (k.above, k.sorted);
  behind = λ e b. (b, k.behind e b);
  some = omega arith;
  few = omega (arith, k.few);
}

behind_valid : (low end : Text) (hardend : Bool) (left : ℕ) (go_on : Text → _) → IsLaterText low end → ((next : Text) → IsCanonical next → is_before next end ≡ true → IfOk (go_on next) (AreEdges next left))
    → (o : Option Text) → IfSome o (IsLaterText low) → IfOk (edges_behind go_on end hardend o) (AreBehind low (suc left))
behind_valid low end true left go_on last valid None h = one_behind low end left last
behind_valid low end false left go_on last valid None h = tt
behind_valid low end hardend left go_on last valid (Some next) h = at (is_before next end) refl
  where
    ended : (b : Bool) → AreBehind low (suc left) ((if b then end else next) ∷ [])
    ended true = one_behind low end left last
    ended false = one_behind low next left h

    at : (b : Bool) → is_before next end ≡ b → IfOk (if b then go_on next else Ok ((if hardend then end else next) ∷ [])) (AreBehind low (suc left))
    at true e = IfOk-weaker (go_on next) (AreEdges next left) (AreBehind low (suc left)) (λ es k. more_behind low next left es h k) (valid next h.0 e)
    at false e = ended hardend

from_valid : (left : ℕ) (gap : Gap) (end : Text) (hardend : Bool) (low : Text) → IsCanonical end → 1 ≤ gap.number → IsCanonical low → is_before low end ≡ true → IfOk (edges_from left gap end hardend low) (AreEdges low left)
from_valid zero gap end hardend low last forward h b = tt
from_valid (suc left) gap end hardend low last forward h b =
    going_on (AreEdges low (suc left)) (AreBehind low (suc left)) (edges_behind (edges_from left gap end hardend) end hardend (added low gap)) _
    (behind_valid low end hardend left (edges_from left gap end hardend) (last, Less-from_is_lt _ b) (λ next c k. from_valid left gap end hardend next last forward c k) (added low gap) (added_is_later low gap h forward))
    (λ es k. edges_is low (suc left) es h k)

edges_valid : (gap : Gap) (start end : Text) (hardend : Bool) → IsCanonical start → IsCanonical end → 1 ≤ gap.number → IfOk (edges_of gap start end hardend) (AreEdges start 10_000)
unfolding edges_of IsStrictlySortedBy
edges_valid gap start end hardend h last forward = at (is_before start end) refl
  where
    at : (b : Bool) → is_before start end ≡ b → IfOk (if b then edges_from 10_000 gap end hardend start else Ok (start ∷ [])) (AreEdges start 10_000)
    at true e = from_valid 10_000 gap end hardend start last forward h e
    at false e = record {
      canonical = All-cons IsCanonical start [] h (All-nil IsCanonical);
      sorted = (tt, tt);
      behind = λ e b. (b, tt);
      some = omega arith;
      few = omega arith;
    }

-- ---- parameters

date_in_valid : (d : Data) → IfOk (date_in d) IsCanonical
date_in_valid d = whatever IsCanonical (text_in d) _ (λ t. there IsCanonical (canonical_of t) bad_parameter (canonical_is t))

gap_in_valid : (d : Data) → IfOk (gap_in d) IsGap
gap_in_valid d = whatever IsGap (text_in d) _ (λ t. there IsGap (gap_of t) bad_parameter (gap_is t))

-- edges that a range may have
record AreRangeEdges (es : List Text) : Type 0 where
  canonical : All IsCanonical es
  sorted : IsStrictlySortedBy text_cmp es
  some : 1 ≤ length es
  few : length es ≤ 10_001

edges_in_valid : (ms : Members) → IfOk (edges_in ms) AreRangeEdges
edges_in_valid ms =
    let P = AreRangeEdges in
    going_on P IsCanonical (required (codes "start") date_in ms) _ (needed IsCanonical (codes "start") date_in ms date_in_valid)
    (λ start a. going_on P IsCanonical (required (codes "end") date_in ms) _ (needed IsCanonical (codes "end") date_in ms date_in_valid)
    (λ end b. whatever P (unless (not (is_before end start)) bad_parameter) _
    (λ u. going_on P IsGap (required (codes "gap") gap_in ms) _ (needed IsGap (codes "gap") gap_in ms gap_in_valid)
    (λ gap c. whatever P (optional (codes "hardend") truth_in false ms) _
    (λ hardend. IfOk-weaker (edges_of gap start end hardend) (AreEdges start 10_000) P (λ es e. record { canonical = e.canonical; sorted = e.sorted; some = e.some; few = e.few }) (edges_valid gap start end hardend a b c))))))

date_range_valid : (s : Schema) (field : ℕ) (ms : Members) → field < length s.fields → has_type s holds_dates field ≡ true → IfOk (date_range_parts field ms) (IsValidDateRange s)
date_range_valid s field ms h t =
    let P = IsValidDateRange s in
    going_on P AreRangeEdges (edges_in ms) _ (edges_in_valid ms)
    (λ edges e. whatever P (optional (codes "other") (words_in other_words) [] ms) _
    (λ other. whatever P (optional (codes "include") (words_in include_words) [] ms) _
    (λ include. record { field = h; of_dates = t; edges = e.canonical; ascending = e.sorted; some = e.some; few = e.few })))

pub range_part_valid : (s : Schema) (ms : Members) → MembersHaveNumbers ms → IfOk (range_part s ms) (IsKindAnywhere s)
range_part_valid s ms numbers =
    going_on (IsKindAnywhere s) (λ n. n < length s.fields) (required (codes "field") (field_in s) ms) _ (needed (λ n. n < length s.fields) (codes "field") (field_in s) ms (field_in_valid s))
    (λ field h. at field h (has_type s holds_dates field) refl)
  where
    at : (field : ℕ) → field < length s.fields → (b : Bool) → has_type s holds_dates field ≡ b
        → IfOk (if b then (date_range_parts field ms >>= λ g. Ok (date_range g)) else (range_parts s ms >>= λ g. Ok (range g))) (IsKindAnywhere s)
    at field h true e = going_on (IsKindAnywhere s) (IsValidDateRange s) (date_range_parts field ms) _ (date_range_valid s field ms h e) (λ g k. ((λ inner. k), refl, refl))
    at field h false e = going_on (IsKindAnywhere s) (IsValidRange s) (range_parts s ms) _ (range_valid s ms numbers) (λ g k. ((λ inner. k), refl, refl))
