-- The order of keys is total, and so `==`, `<` and `cmp` have their laws.
use Rattle.std.specs.Prelude.{◌≡◌, ℕ, pos, refl}
use Rattle.std.specs.Cmp.{IsTotalOrder, IsPartialOrder, IsEquivalence, nat_cmp_total, on_total, then_total, po, eq_by_cmp_equiv}
use Rattle.std.specs.Ordering.{nat_cmp, ordering_then, then_cmp, on, as_partial_cmp}
use Rattle.std.proofs.Common.{sym, subst}
use Rattle.std.specs.declared.cmp.Ordering.{Ordering}
use Rattle.std.specs.declared.cmp.Ordering.TheVariants.{Less, Equal, Greater}
use Rattle.fc_spec.specs.documents.Val.{Val, long, val_cmp}
use Rattle.fc_spec.specs.documents.ValOrder.{val_cmp_total}
use Rattle.fc_spec.specs.requests.Buckets.{Key, value, missing, gap, before, between, after, whole}
use Rattle.fc_spec.specs.messages.KeyOrder.{key_cmp, same_key, key_rank}
use Rattle.fc_partial.specs.declared.key.Key as code
use Rattle.fc_partial.specs.View.{key_view}

-- the value of a key, and its number, or the same one where it has none
value_in : Key → Val
value_in (value v) = v
value_in _ = long (pos 0)

number_in : Key → ℕ
number_in (gap i) = i
number_in _ = 0

-- by kind, then by value, then by number
by_parts : Key → Key → Ordering
by_parts = then_cmp (on key_rank nat_cmp) (then_cmp (on value_in val_cmp) (on number_in nat_cmp))

by_parts_total : IsTotalOrder by_parts
unfolding by_parts
by_parts_total = then_total (on_total key_rank nat_cmp_total) (then_total (on_total value_in val_cmp_total) (on_total number_in nat_cmp_total))

then_equal : (o : Ordering) → o ≡ ordering_then o Equal
then_equal Less = refl
then_equal Equal = refl
then_equal Greater = refl

key_cmp_by_parts : (k l : Key) → key_cmp k l ≡ by_parts k l
unfolding by_parts value_in number_in
key_cmp_by_parts (value v) (value w) = then_equal (val_cmp v w)
key_cmp_by_parts (value v) (gap j) = refl
key_cmp_by_parts (value v) missing = refl
key_cmp_by_parts (value v) before = refl
key_cmp_by_parts (value v) between = refl
key_cmp_by_parts (value v) after = refl
key_cmp_by_parts (value v) whole = refl
key_cmp_by_parts (gap i) (value w) = refl
key_cmp_by_parts (gap i) (gap j) = refl
key_cmp_by_parts (gap i) missing = refl
key_cmp_by_parts (gap i) before = refl
key_cmp_by_parts (gap i) between = refl
key_cmp_by_parts (gap i) after = refl
key_cmp_by_parts (gap i) whole = refl
key_cmp_by_parts k l =
    elim l as (λ l. key_cmp k l ≡ by_parts k l) [ value w ↦ refl | missing ↦ refl | gap j ↦ refl | before ↦ refl | between ↦ refl | after ↦ refl | whole ↦ refl ]

pub key_cmp_total : IsTotalOrder key_cmp
key_cmp_total = subst IsTotalOrder (λ i k l. sym (key_cmp_by_parts k l) i) by_parts_total

-- the order of keys, as the code has it
abbrev pub code_cmp : code.Key → code.Key → Ordering
code_cmp = on key_view key_cmp

pub keys_total : IsTotalOrder (on key_view key_cmp)
keys_total = on_total key_view key_cmp_total

pub keys_po : IsPartialOrder (on key_view same_key) (as_partial_cmp (on key_view key_cmp))
keys_po = po keys_total (λ x y. refl)

pub keys_equiv : IsEquivalence (on key_view same_key)
keys_equiv = eq_by_cmp_equiv keys_total
