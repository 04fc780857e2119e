-- Of two entries at most one stands ahead of the other.
use Rattle.std.specs.Prelude.{◌≡◌, ℤ, Bool, true, false, Option, Some, None}
use Rattle.std.specs.Cmp.{then_flip}
use Rattle.std.specs.Ordering.{ordering_reverse, is_lt}
use Rattle.std.specs.declared.cmp.Ordering.{Ordering}
use Rattle.std.specs.declared.cmp.Ordering.TheVariants.{Less, Equal, Greater}
use Rattle.std.proofs.Common.{refl, ap}
use Rattle.std.proofs.lemmas.Cmp.{int_cmp_total, nat_cmp_total}
use Rattle.fc_spec.specs.requests.Ranks.{Entry, sort_key_cmp, entry_cmp, is_ahead, directed, present_first, statistic_of}
use Rattle.fc_spec.specs.requests.Request.{SortKey, by_count, by_index, by_statistic, Sort}
use Rattle.fc_spec.specs.documents.ValOrder.{val_cmp_total}

-- what reverses without a direction reverses with one
directed_reversed : (descending : Bool) (o p : Ordering) → o ≡ ordering_reverse p → directed descending o ≡ ordering_reverse (directed descending p)
directed_reversed true o p h = ap ordering_reverse h
directed_reversed false o p h = h

-- of two that may be absent
present_first_reversed : (descending : Bool) (a b : Option ℤ) → present_first descending a b ≡ ordering_reverse (present_first descending b a)
present_first_reversed descending None None = refl
present_first_reversed descending None (Some b) = refl
present_first_reversed descending (Some a) None = refl
present_first_reversed descending (Some a) (Some b) = directed_reversed descending _ _ (int_cmp_total.antisymm a b)

-- of two entries, by the key
key_cmp_reversed : (key : SortKey) (descending : Bool) (a b : Entry) → sort_key_cmp key descending a b ≡ ordering_reverse (sort_key_cmp key descending b a)
key_cmp_reversed by_count descending a b = directed_reversed descending _ _ (nat_cmp_total.antisymm a.stats.count b.stats.count)
key_cmp_reversed by_index descending a b = directed_reversed descending _ _ (val_cmp_total.antisymm a.val b.val)
key_cmp_reversed (by_statistic n) descending a b = present_first_reversed descending (statistic_of n a) (statistic_of n b)

-- by the key and then in index order
entry_cmp_reversed : (s : Sort) (a b : Entry) → entry_cmp s a b ≡ ordering_reverse (entry_cmp s b a)
entry_cmp_reversed s a b = rw (key_cmp_reversed s.by s.descending a b, val_cmp_total.antisymm a.val b.val) (then_flip _ _)

-- what is Less is not Less when reversed
not_less_reversed : (o p : Ordering) → p ≡ ordering_reverse o → is_lt o ≡ true → is_lt p ≡ false
not_less_reversed Less p e h = ap is_lt e
not_less_reversed Equal p e h = cc
not_less_reversed Greater p e h = cc

-- what stands ahead of an entry, that entry does not stand ahead of
pub is_ahead_one_way : (s : Sort) (a b : Entry) → is_ahead s a b ≡ true → is_ahead s b a ≡ false
is_ahead_one_way s a b h = not_less_reversed _ _ (entry_cmp_reversed s b a) h
