-- The terms and range facets that are read are valid for the schema.
use Rattle.std.proofs.Common.{◌≡◌, refl, ℕ, ◌<◌, ◌≤◌, ◌^◌, ℤ, pos, negsuc, [], length, Bool, true, false, cond, ◌&&◌, not, Option, None, Some, IfSome, IfOk, ok_or, arith}
use Rattle.std.specs.Prelude.{codes, ◌≤ℤ◌, ◌<ℤ◌, int_lt, nat_lt, nat_le, unsigned_abs}
use Rattle.std.proofs.lemmas.Bool.{leb-true, ltb-false}
use Rattle.std.proofs.lemmas.Bool.Decides.{nat_tests}
use Rattle.std.proofs.lemmas.Int.{ints}
use Rattle.fc_spec.specs.requests.DomainReading.{text_query}
use Rattle.serde_json.specs.Data.{Num, unsigned, negative, float, Data, null, boolean, number, string, array, object, Members}
use Rattle.serde_json.specs.Find.{get_member, as_i64}
use Rattle.fc_spec.specs.documents.Val.{Text}
use Rattle.fc_spec.specs.documents.Schema.{Schema, field_named, holds_texts}
use Rattle.fc_spec.specs.documents.IntegerTexts.{is_long}
use Rattle.fc_spec.specs.requests.Request.{its_buckets, Terms, Sort, Nodes, no_nodes, Kind}
use Rattle.fc_spec.specs.requests.Spread.{show_of}
use Rattle.fc_spec.specs.requests.RequestFault.{unknown_field, bad_parameter, wrong_field_type, too_large, missing_parameter}
use Rattle.fc_spec.specs.requests.RequestWalk.{required, optional, integer_in, whole_in, truth_in, text_in}
use Rattle.fc_spec.specs.requests.Gaps.{gap_count, last_end}
use Rattle.fc_spec.specs.requests.Least.{count_first}
use Rattle.fc_spec.specs.requests.Shape.{says_exact}
use Rattle.fc_spec.specs.requests.StatisticReading.{has_type}
use Rattle.fc_spec.specs.requests.FacetReading.{Refining, not_refined, by_offers, exactly, refines, is_exactly, refining_in, field_in, up_to_a_million, limit_from, prefix_in, terms_parts, over_number, words_in, other_words, include_words, range_of, range_parts, query_part}
use Rattle.fc_spec.specs.scripts.JsonValues.{is_number, HasNumbers, MembersHaveNumbers}
use Rattle.fc_spec.specs.queries.ValidQueries.{IsValidQuery}
use Rattle.fc_spec.specs.requests.ValidRequests.{IsFew, IsValidTerms, IsValidRange, IsValidKind}
use Rattle.fc_spec.specs.words.Walks.{unless}
use Rattle.fc_spec.proofs.scripts.JsonMembers.{member_numbers}
use Rattle.fc_spec.proofs.words.ReadingWords.{going_on, whatever, there, passed, needed, if_there}
use Rattle.fc_spec.proofs.requests.ValidStatistics.{field_there, NamesItsStatistic}
use Rattle.fc_spec.proofs.requests.ValidChanges.{text_query_valid}

-- ---- fields

pub field_in_valid : (s : Schema) (d : Data) → IfOk (field_in s d) (λ n. n < length s.fields)
field_in_valid s d = whatever (λ n. n < length s.fields) (text_in d) _ (λ name. there (λ n. n < length s.fields) (field_named s name) unknown_field (field_there s name))

-- ---- numbers

-- from one to another
abbrev IsWithin : (low high : ℤ) → ℤ → Type 0
IsWithin low high n = (not (int_lt n low) && not (int_lt high n)) ≡ true

within : (low high : ℤ) (d : Data) → IfOk (whole_in low high d) (IsWithin low high)
within low high d =
    let P = IsWithin low high in
    whatever P (integer_in d) _ (λ n. going_on P (λ u. (not (int_lt n low) && not (int_lt high n)) ≡ true) (unless (not (int_lt n low) && not (int_lt high n)) bad_parameter) _ (passed (not (int_lt n low) && not (int_lt high n)) bad_parameter) (λ u e. e))

-- the number at most a million
most : (n : ℕ) (b : Bool) → (b && not (nat_lt 1_000_000 n)) ≡ true → IsFew n
most n b e = at b (nat_lt 1_000_000 n) refl e
  where
    at : (b over : Bool) → nat_lt 1_000_000 n ≡ over → (b && not over) ≡ true → IsFew n
    at true false h e = ltb-false 1_000_000 n h
    at true true h e = absurd cc
    at false over h e = absurd cc

from_zero : (n : ℤ) → IsWithin (pos 0) (pos 1_000_000) n → IsFew (unsigned_abs n)
from_zero (pos n) h = most n (not (int_lt (pos n) (pos 0))) h
from_zero (negsuc n) h = absurd cc

from_one : (n : ℤ) → IsWithin (pos 1) (pos 1_000_000) n → (1 ≤ unsigned_abs n) × IsFew (unsigned_abs n)
from_one (pos n) h = (at (nat_lt n 1) refl h, most n (not (nat_lt n 1)) h)
  where
    at : (below : Bool) → nat_lt n 1 ≡ below → (not below && not (nat_lt 1_000_000 n)) ≡ true → 1 ≤ n
    at false e h = ltb-false n 1 e
    at true e h = absurd cc
from_one (negsuc n) h = absurd cc

limit_few : (n : ℤ) → IsWithin (negsuc 0) (pos 1_000_000) n → IfSome (limit_from n) IsFew
limit_few (pos n) h = most n true h
limit_few (negsuc n) h = tt

over_few : (limit : Option ℕ) (n : ℤ) → IfSome limit IsFew → IsWithin (negsuc 0) (pos 1_000_000) n → IsFew (over_number limit n)
over_few None n h k = omega arith
over_few (Some limit) (pos n) h k = most n true k
over_few (Some limit) (negsuc n) h k = omega (arith, h)

no_over : (limit : Option ℕ) (n : ℤ) → limit ≡ None → over_number limit n ≡ 0
no_over None n e = refl
no_over (Some limit) n e = absurd cc

-- ---- terms

-- a prefix stands on texts
IsPrefix : Schema → ℕ → Option Text → Type 0
IsPrefix s field prefix = IfSome prefix (λ t. has_type s holds_texts field ≡ true)

prefix_in_valid : (s : Schema) (field : ℕ) (d : Data) → IfOk (prefix_in s field d) (IsPrefix s field)
unfolding IsPrefix
prefix_in_valid s field d = whatever (IsPrefix s field) (text_in d) _ (λ t. going_on (IsPrefix s field) (λ u. has_type s holds_texts field ≡ true) (unless (has_type s holds_texts field) wrong_field_type) _ (passed (has_type s holds_texts field) wrong_field_type) (λ u e. e))

up_to : (low default : ℤ) (name : Text) (ms : Members) → IsWithin low (pos 1_000_000) default → IfOk (optional name (up_to_a_million low) default ms) (IsWithin low (pos 1_000_000))
up_to low default name ms h = if_there (IsWithin low (pos 1_000_000)) (up_to_a_million low) default (get_member name ms) h (within low (pos 1_000_000))

exactly_refined : (refine : Refining) → is_exactly refine ≡ true → refines refine ≡ true
exactly_refined not_refined h = absurd cc
exactly_refined by_offers h = refl
exactly_refined exactly h = refl

-- valid by itself, as its sort stands, and its buckets are printed
pub record IsPlainTerms (s : Schema) (t : Terms) : Type 0 where
  pub valid : IsValidTerms s no_nodes t
  pub shown : t.show ≡ its_buckets

pub parts_valid : (s : Schema) (ms : Members) → IfOk (terms_parts s ms) (IsPlainTerms s)
unfolding IsPrefix
parts_valid s ms =
    let P = IsPlainTerms s in
    going_on P (λ n. n < length s.fields) (required (codes "field") (field_in s) ms) _ (needed (λ n. n < length s.fields) (codes "field") (field_in s) ms (field_in_valid s))
    (λ field h. going_on P (IsWithin (pos 0) (pos 1_000_000)) (optional (codes "offset") (up_to_a_million (pos 0)) (pos 0) ms) _ (up_to (pos 0) (pos 0) (codes "offset") ms refl)
    (λ offset o. going_on P (IsWithin (negsuc 0) (pos 1_000_000)) (optional (codes "limit") (up_to_a_million (negsuc 0)) (pos 10) ms) _ (up_to (negsuc 0) (pos 10) (codes "limit") ms refl)
    (λ limit l. going_on P (IsWithin (pos 1) (pos 1_000_000)) (optional (codes "mincount") (up_to_a_million (pos 1)) (pos 1) ms) _ (up_to (pos 1) (pos 1) (codes "mincount") ms refl)
    (λ mincount m. whatever P (optional (codes "missing") truth_in false ms) _
    (λ missing. going_on P (IsPrefix s field) (optional (codes "prefix") (prefix_in s field) None ms) _ (if_there (IsPrefix s field) (prefix_in s field) None (get_member (codes "prefix") ms) tt (prefix_in_valid s field))
    (λ prefix p. whatever P (optional (codes "refine") refining_in not_refined ms) _
    (λ refine. going_on P (IsWithin (negsuc 0) (pos 1_000_000)) (optional (codes "overrequest") (up_to_a_million (negsuc 0)) (negsuc 0) ms) _ (up_to (negsuc 0) (negsuc 0) (codes "overrequest") ms refl)
    (λ overrequest a. going_on P (IsWithin (negsuc 0) (pos 1_000_000)) (optional (codes "overrefine") (up_to_a_million (negsuc 0)) (negsuc 0) ms) _ (up_to (negsuc 0) (negsuc 0) (codes "overrefine") ms refl)
    (λ overrefine b. whatever P (optional (codes "method") text_in [] ms) _
    (λ method. record {
      shown = refl;
      valid = record {
        field = h;
        offset = from_zero offset o;
        limit = limit_few limit l;
        sort = tt;
        mincount = (from_one mincount m).0;
        few = (from_one mincount m).1;
        prefix = p;
        overrequest = over_few (limit_from limit) overrequest (limit_few limit l) a;
        overrefine = over_few (limit_from limit) overrefine (limit_few limit l) b;
        unlimited = λ e. (no_over (limit_from limit) overrequest e, no_over (limit_from limit) overrefine e);
        exact = λ e. (exactly_refined refine e, refl);
      };
    }))))))))))

-- and with a sort by what stands under it
pub terms_valid : (s : Schema) (inner : Nodes) (t : Terms) (sort : Sort) → IsValidTerms s no_nodes t → NamesItsStatistic inner sort → (t.exact ≡ true → sort ≡ count_first) → IsValidTerms s inner (record t { sort = sort })
terms_valid s inner t sort h k sorted = record {
  field = h.field;
  offset = h.offset;
  limit = h.limit;
  sort = k;
  mincount = h.mincount;
  few = h.few;
  prefix = h.prefix;
  overrequest = h.overrequest;
  overrefine = h.overrefine;
  unlimited = h.unlimited;
  exact = λ e. ((h.exact e).0, sorted e);
}

-- ---- ranges

long_below : (n : ℕ) → nat_lt n (2 ^ 63) ≡ true → is_long (pos n) ≡ true
long_below n h = grind (arith, nat_tests)

integer_long : (n : Num) → is_number n ≡ true → IfSome (as_i64 n) (λ z. is_long z ≡ true)
integer_long (unsigned n) h = at (nat_lt n (2 ^ 63)) refl
  where
    at : (b : Bool) → nat_lt n (2 ^ 63) ≡ b → IfSome (cond b (Some (pos n)) None) (λ z. is_long z ≡ true)
    at true e = long_below n e
    at false e = tt
integer_long (negative z) h = h
integer_long (float x) h = tt

abbrev IsLong : ℤ → Type 0
IsLong z = is_long z ≡ true

integer_in_long : (d : Data) → HasNumbers d → IfOk (integer_in d) IsLong
integer_in_long (number n) h = there IsLong (as_i64 n) bad_parameter (integer_long n h)
integer_in_long null h = tt
integer_in_long (boolean b) h = tt
integer_in_long (string t) h = tt
integer_in_long (array ds) h = tt
integer_in_long (object ms) h = tt

required_long : (k : Text) (ms : Members) → MembersHaveNumbers ms → IfOk (required k integer_in ms) IsLong
required_long k ms h = going_on IsLong HasNumbers (ok_or (get_member k ms) missing_parameter) integer_in (there HasNumbers (get_member k ms) missing_parameter (member_numbers k ms h)) (λ d f. integer_in_long d f)

not_below : (a b : ℤ) → not (int_lt b a) ≡ true → a ≤ℤ b
not_below a b h = grind (arith, ints)

above : (a b : ℤ) → int_lt a b ≡ true → a <ℤ b
above a b h = grind (arith, ints)

pub range_valid : (s : Schema) (ms : Members) → MembersHaveNumbers ms → IfOk (range_parts s ms) (IsValidRange s)
range_valid s ms numbers =
    let P = IsValidRange s in
    going_on P (λ n. n < length s.fields) (required (codes "field") (field_in s) ms) _ (needed (λ n. n < length s.fields) (codes "field") (field_in s) ms (field_in_valid s))
    (λ field h. going_on P (λ u. has_type s (λ k. not (holds_texts k)) field ≡ true) (unless (has_type s (λ k. not (holds_texts k)) field) wrong_field_type) _ (passed (has_type s (λ k. not (holds_texts k)) field) wrong_field_type)
    (λ u t. going_on P IsLong (required (codes "start") integer_in ms) _ (required_long (codes "start") ms numbers)
    (λ start a. going_on P IsLong (required (codes "end") integer_in ms) _ (required_long (codes "end") ms numbers)
    (λ end b. going_on P (λ v. not (int_lt end start) ≡ true) (unless (not (int_lt end start)) bad_parameter) _ (passed (not (int_lt end start)) bad_parameter)
    (λ v o. going_on P IsLong (required (codes "gap") integer_in ms) _ (required_long (codes "gap") ms numbers)
    (λ gap c. going_on P (λ w. int_lt (pos 0) gap ≡ true) (unless (int_lt (pos 0) gap) bad_parameter) _ (passed (int_lt (pos 0) gap) bad_parameter)
    (λ w p. whatever P (optional (codes "hardend") truth_in false ms) _
    (λ hardend. let ends = range_of field start end gap hardend [] [] in
    going_on P (λ x. is_long (last_end ends) ≡ true) (unless (is_long (last_end ends)) bad_parameter) _ (passed (is_long (last_end ends)) bad_parameter)
    (λ x e. going_on P (λ y. nat_le (gap_count ends) 10_000 ≡ true) (unless (nat_le (gap_count ends) 10_000) too_large) _ (passed (nat_le (gap_count ends) 10_000) too_large)
    (λ y n. whatever P (optional (codes "other") (words_in other_words) [] ms) _
    (λ other. whatever P (optional (codes "include") (words_in include_words) [] ms) _
    (λ include. record {
      field = h;
      of_integers = t;
      start = a;
      end = b;
      gap = c;
      ordered = not_below start end o;
      forward = above (pos 0) gap p;
      last = e;
      few = leb-true (gap_count ends) 10_000 n;
    }))))))))))))

-- ---- queries

-- it is valid whatever stands inside it, is not refined exactly, and shows its buckets
abbrev pub IsKindAnywhere : Schema → Kind → Type 0
IsKindAnywhere s kind = ((inner : Nodes) → IsValidKind s inner kind) × (says_exact kind ≡ false) × (show_of kind ≡ its_buckets)

pub query_part_valid : (s : Schema) (ms : Members) → IfOk (query_part s ms) (IsKindAnywhere s)
query_part_valid s ms = going_on (IsKindAnywhere s) (IsValidQuery s) (required (codes "q") (text_query s) ms) _ (needed (IsValidQuery s) (codes "q") (text_query s) ms (text_query_valid s)) (λ q h. ((λ inner. h), refl, refl))
