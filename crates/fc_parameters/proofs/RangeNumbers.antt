-- A range facet whose numbers were read.
use Rattle.std.proofs.Common.{◌≡◌, ◌≤◌, ◌≤ℤ◌, ◌<ℤ◌, ℕ, [], ℤ, pos, arith, Bool, true, false, not, ok_or, Ok, nat_le, refl}
use Rattle.std.specs.Prelude.{codes, int_lt}
use Rattle.std.proofs.lemmas.Bool.Decides.{nat_tests}
use Rattle.std.proofs.lemmas.Int.{ints}
use Rattle.serde_json.specs.Data.{Data, Members}
use Rattle.serde_json.specs.Find.{get_member}
use Rattle.fc_spec.specs.documents.IntegerTexts.{is_long}
use Rattle.fc_spec.specs.documents.Schema.{Schema, holds_texts}
use Rattle.fc_spec.specs.requests.Gaps.{gap_count, last_end}
use Rattle.fc_spec.specs.requests.RequestWalk.{said_or, integer_in, truth_in}
use Rattle.fc_spec.specs.requests.RequestFault.{missing_parameter}
use Rattle.fc_spec.specs.requests.StatisticReading.{has_type}
use Rattle.fc_spec.specs.requests.FacetReading.{field_in, range_of, range_parts}
use Rattle.fc_parameters.specs.RangeParts.{words_behind}

pub numbers_read : (s : Schema) (ms : Members) (named first last step : Data) (field : ℕ) (start end gap : ℤ) (hard : Bool)
    → ok_or (get_member (codes "field") ms) missing_parameter ≡ Ok named → field_in s named ≡ Ok field → has_type s (λ k. not (holds_texts k)) field ≡ true
    → ok_or (get_member (codes "start") ms) missing_parameter ≡ Ok first → integer_in first ≡ Ok start
    → ok_or (get_member (codes "end") ms) missing_parameter ≡ Ok last → integer_in last ≡ Ok end → int_lt end start ≡ false
    → ok_or (get_member (codes "gap") ms) missing_parameter ≡ Ok step → integer_in step ≡ Ok gap → int_lt (pos 0) gap ≡ true
    → said_or truth_in false (get_member (codes "hardend") ms) ≡ Ok hard
    → is_long (last_end (range_of field start end gap hard [] [])) ≡ true
    → nat_le (gap_count (range_of field start end gap hard [] [])) 10_000 ≡ true
    → range_parts s ms ≡ words_behind ms (range_of field start end gap hard [] [])
numbers_read s ms named first last step field start end gap hard h1 h2 h3 h4 h5 h6 h7 h8 h9 h10 h11 h12 h13 h14 =
    rw (h1, h2, h3, h4, h5, h6, h7, h8, h9, h10, h11, h12, h13, h14) refl

pub not_below : (a b : ℤ) → a ≤ℤ b → int_lt b a ≡ false
not_below a b h = grind (arith, ints)

pub below : (a b : ℤ) → a <ℤ b → int_lt a b ≡ true
below a b h = grind (arith, ints)

pub at_most : (n m k : ℕ) → n ≡ m → n ≤ k → nat_le m k ≡ true
at_most n m k same most = grind (arith, nat_tests)
