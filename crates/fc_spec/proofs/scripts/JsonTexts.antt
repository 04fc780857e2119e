-- The data of JSON texts has the numbers and the order of keys that it is to have.
use Rattle.std.proofs.Common.{◌≡◌, refl, subst, ap, ◌∙◌, ℕ, zero, suc, ◌^◌, pos, neg_ℤ, List, [], ◌∷◌, drop, Bool, true, false, cond, ◌&&◌, nat_le, Ordering, Less, Equal, Greater, Option, None, Some, IfSome, arith}
use Rattle.std.specs.Prelude.{nat_lt, slice_index, ◌==◌}
use Rattle.std.specs.Option.{option_and_then}
use Rattle.std.specs.List.{AllByRecursion}
use Rattle.std.specs.List.Sorted.{IsStrictlySortedBy}
use Rattle.std.specs.Ordering.{match_ordering, ordering_reverse}
use Rattle.std.specs.Str.{is_utf8}
use Rattle.std.specs.Float.{binary64, float_is_finite}
use Rattle.std.proofs.lemmas.Bool.Decides.{nat_tests}
use Rattle.std.proofs.lemmas.Cmp.{nat_list_cmp_total}
use Rattle.fast_float.specs.Text.{Parts, minus, scan, digits_of, nearest, with_sign}
use Rattle.json.specs.Json as json
use Rattle.json.specs.Lex.{tokens}
use Rattle.serde_json.specs.Data.{Num, unsigned, negative, float, Data, number, array, object, Items, item, Members, no_members, member, put}
use Rattle.serde_json.specs.Read.{is_integer, float_of, number_from, number_of, of_json, of_items, of_members, max_depth, read}
use Rattle.fc_spec.specs.documents.Val.{Text, text_cmp}
use Rattle.fc_spec.specs.documents.IntegerTexts.{is_long}
use Rattle.fc_spec.specs.scripts.ScriptLines.{json_of}
use Rattle.fc_spec.specs.scripts.JsonValues.{is_number, HasNumbers, ItemsHaveNumbers, MembersHaveNumbers, keys_in, HasAscendingKeys, ItemsHaveAscendingKeys, MembersHaveAscendingKeys, TextsAreJson}
use Rattle.fc_spec.proofs.words.Present.{bound, either, mapped, weaker}

-- ---- numbers

long_above : (n : ℕ) → nat_le n (2 ^ 63) ≡ true → is_long (neg_ℤ (pos n)) ≡ true
long_above zero h = refl
long_above (suc n) h = grind (arith, nat_tests)

IsGood : Num → Type 0
IsGood n = is_number n ≡ true

float_good : (sign : Bool) (p : Parts) → IfSome (float_of sign p) IsGood
unfolding IsGood
float_good sign p = either IsGood (float_is_finite (nearest binary64 sign p)) (Some (float (nearest binary64 sign p))) None refl tt

from_good : (sign : Bool) (p : Parts) → IfSome (number_from sign p) IsGood
unfolding IsGood
from_good false p = either IsGood (is_integer p && nat_lt (digits_of p) (2 ^ 64)) (Some (unsigned (digits_of p))) (float_of false p) refl (float_good false p)
from_good true p = at (is_integer p && nat_lt 0 (digits_of p)) (nat_le (digits_of p) (2 ^ 63)) refl
  where
    at : (a b : Bool) → nat_le (digits_of p) (2 ^ 63) ≡ b → IfSome (cond (a && b) (Some (negative (with_sign true (digits_of p)))) (float_of true p)) IsGood
    at true true e = long_above (digits_of p) e
    at true false e = float_good true p
    at false b e = float_good true p

number_good : (s : List ℕ) → IfSome (number_of s) IsGood
unfolding number_of
number_good s = either IsGood (slice_index s 0 == minus) (number_from true (scan (drop 1 s))) (number_from false (scan s)) (from_good true (scan (drop 1 s))) (from_good false (scan s))

-- ---- keys

-- one put in stands above a key that all stand above
above_put : (l k : Text) (d : Data) (ms : Members) → text_cmp l k ≡ Less → AllByRecursion (λ y. text_cmp l y ≡ Less) (keys_in ms) → AllByRecursion (λ y. text_cmp l y ≡ Less) (keys_in (put k d ms))
above_put l k d no_members h all = (h, tt)
above_put l k d (member m e ms) h all = at (text_cmp k m) (above_put l k d ms h all.1)
  where
    at : (o : Ordering) → AllByRecursion (λ y. text_cmp l y ≡ Less) (keys_in (put k d ms)) → AllByRecursion (λ y. text_cmp l y ≡ Less) (keys_in (match_ordering o (member k d (member m e ms)) (member m d ms) (member m e (put k d ms))))
    at Less more = (h, all)
    at Equal more = all
    at Greater more = (all.0, more)

above_all : (k l : Text) (ks : List Text) → text_cmp k l ≡ Less → AllByRecursion (λ y. text_cmp l y ≡ Less) ks → AllByRecursion (λ y. text_cmp k y ≡ Less) ks
above_all k l [] h all = tt
above_all k l (m ∷ ks) h all = (nat_list_cmp_total.trans k l m h all.0, above_all k l ks h all.1)

put_ascends : (k : Text) (d : Data) (ms : Members) → IsStrictlySortedBy text_cmp (keys_in ms) → IsStrictlySortedBy text_cmp (keys_in (put k d ms))
unfolding IsStrictlySortedBy
put_ascends k d no_members h = (tt, tt)
put_ascends k d (member l e ms) h = at (text_cmp k l) refl (put_ascends k d ms h.1)
  where
    at : (o : Ordering) → text_cmp k l ≡ o → IsStrictlySortedBy text_cmp (keys_in (put k d ms)) → IsStrictlySortedBy text_cmp (keys_in (match_ordering o (member k d (member l e ms)) (member l d ms) (member l e (put k d ms))))
    at Less b more = ((b, above_all k l (keys_in ms) b h.0), h)
    at Equal b more = h
    at Greater b more = (above_put l k d ms (nat_list_cmp_total.antisymm l k ∙ ap ordering_reverse b) h.0, more)

-- ---- values

pub record IsJson (d : Data) : Type 0 where
  pub numbers : HasNumbers d
  pub keys : HasAscendingKeys d

record AreJson (ds : Items) : Type 0 where
  numbers : ItemsHaveNumbers ds
  keys : ItemsHaveAscendingKeys ds

record HoldJson (ms : Members) : Type 0 where
  numbers : MembersHaveNumbers ms
  sorted : IsStrictlySortedBy text_cmp (keys_in ms)
  keys : MembersHaveAscendingKeys ms

put_numbers : (k : Text) (d : Data) (ms : Members) → HasNumbers d → MembersHaveNumbers ms → MembersHaveNumbers (put k d ms)
put_numbers k d no_members h all = (h, tt)
put_numbers k d (member l e ms) h all = at (text_cmp k l) (put_numbers k d ms h all.1)
  where
    at : (o : Ordering) → MembersHaveNumbers (put k d ms) → MembersHaveNumbers (match_ordering o (member k d (member l e ms)) (member l d ms) (member l e (put k d ms)))
    at Less more = (h, all)
    at Equal more = (h, all.1)
    at Greater more = (all.0, more)

put_keys : (k : Text) (d : Data) (ms : Members) → HasAscendingKeys d → MembersHaveAscendingKeys ms → MembersHaveAscendingKeys (put k d ms)
put_keys k d no_members h all = (h, tt)
put_keys k d (member l e ms) h all = at (text_cmp k l) (put_keys k d ms h all.1)
  where
    at : (o : Ordering) → MembersHaveAscendingKeys (put k d ms) → MembersHaveAscendingKeys (match_ordering o (member k d (member l e ms)) (member l d ms) (member l e (put k d ms)))
    at Less more = (h, all)
    at Equal more = (h, all.1)
    at Greater more = (all.0, more)

put_holds : (k : Text) (d : Data) (ms : Members) → IsJson d → HoldJson ms → HoldJson (put k d ms)
put_holds k d ms h all = record { numbers = put_numbers k d ms h.numbers all.numbers; sorted = put_ascends k d ms all.sorted; keys = put_keys k d ms h.keys all.keys }

none_hold : HoldJson no_members
unfolding IsStrictlySortedBy
none_hold = record { numbers = tt; sorted = tt; keys = tt }

number_holds : (n : Num) → IsGood n → IsJson (number n)
unfolding IsGood
number_holds n h = record { numbers = h; keys = tt }

mutual
  json_holds : (j : json.Json) → IfSome (of_json j) IsJson
  json_holds json.null = record { numbers = tt; keys = tt }
  json_holds (json.boolean b) = record { numbers = tt; keys = tt }
  json_holds (json.number s) = mapped IsJson (number_of s) number (weaker IsGood (λ n. IsJson (number n)) (number_of s) number_holds (number_good s))
  json_holds (json.string s) = record { numbers = tt; keys = tt }
  json_holds (json.array js) = mapped IsJson (of_items js) array (weaker AreJson (λ ds. IsJson (array ds)) (of_items js) (λ ds h. record { numbers = h.numbers; keys = h.keys }) (items_hold js))
  json_holds (json.object ms) = mapped IsJson (of_members ms no_members) object (weaker HoldJson (λ ns. IsJson (object ns)) (of_members ms no_members) (λ ns h. record { numbers = h.numbers; keys = (h.sorted, h.keys) }) (members_hold ms no_members none_hold))

  items_hold : (js : json.Items) → IfSome (of_items js) AreJson
  items_hold json.no_items = record { numbers = tt; keys = tt }
  items_hold (json.item j js) = bound AreJson (of_json j) _ (weaker IsJson _ (of_json j)
      (λ d h. mapped AreJson (of_items js) (item d) (weaker AreJson (λ ds. AreJson (item d ds)) (of_items js) (λ ds k. record { numbers = (h.numbers, k.numbers); keys = (h.keys, k.keys) }) (items_hold js)))
      (json_holds j))

  members_hold : (ms : json.Members) (found : Members) → HoldJson found → IfSome (of_members ms found) HoldJson
  members_hold json.no_members found h = h
  members_hold (json.member k j ms) found h = bound HoldJson (of_json j) _ (weaker IsJson _ (of_json j) (λ d i. members_hold ms (put k d found) (put_holds k d found i h)) (json_holds j))

pub json_is : (t : Text) → IfSome (json_of t) IsJson
json_is t = either IsJson (is_utf8 t) (read t) None (of_tokens (option_and_then (λ p. json.if_last p.0 p.1) (json.value max_depth (tokens t)))) tt
  where
    of_tokens : (o : Option json.Json) → IfSome (option_and_then of_json o) IsJson
    of_tokens None = tt
    of_tokens (Some j) = json_holds j

pub texts_are_json : TextsAreJson
texts_are_json t d e = let h = at (json_of t) e (json_is t) in (h.numbers, h.keys)
  where
    at : (o : Option Data) → o ≡ Some d → IfSome o IsJson → IsJson d
    at None f h = absurd cc
    at (Some c) f h = let same : c ≡ d = cc in subst IsJson same h
