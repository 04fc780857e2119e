-- Integers as texts. Guide: Field Types Included with Solr.
use Rattle.std.specs.Prelude.{ℕ, ◌^◌, ◌-◌, ℤ, pos, negsuc, neg_ℤ, int_le, length, drop, slice_index, Bool, ◌&&◌, ◌==◌, nat_le, Option, None, Some, option_map, option_and_then, if◌then◌else◌}
use Rattle.std.specs.Fmt.{signed_decimal}
use Rattle.std.specs.Str.{all_ascii_digits}
use Rattle.std.specs.Str.Parse.{digits_value}
use Rattle.fc_spec.specs.documents.Val.{Text}

-- the decimal text of an integer, with `-` in front where it is negative
abbrev pub decimal_text : ℤ → Text
decimal_text z = signed_decimal z

-- the number that one or more digits write
abbrev pub natural_of : Text → Option ℕ
natural_of t = if nat_le 1 (length t) && all_ascii_digits t then Some (digits_value 10 t) else None

-- the integer that a text spells: digits, with `-` or nothing in front
abbrev pub integer_of : Text → Option ℤ
integer_of t = if slice_index t 0 == 45 then option_map (λ n. neg_ℤ (pos n)) (natural_of (drop 1 t)) else option_map (λ n. pos n) (natural_of t)

-- within 64 bits signed
abbrev pub is_long : ℤ → Bool
is_long z = int_le (negsuc (2 ^ 63 - 1)) z && int_le z (pos (2 ^ 63 - 1))

-- the integer of 64 bits signed that a text spells
abbrev pub long_of : Text → Option ℤ
long_of t = option_and_then (λ z. if is_long z then Some z else None) (integer_of t)
