-- The order of keys: values in index order, missing, gaps by number, before, between, after, whole.
use Rattle.std.specs.Prelude.{ℕ, Bool}
use Rattle.std.specs.Ordering.{nat_cmp, is_eq}
use Rattle.std.specs.declared.cmp.Ordering.{Ordering}
use Rattle.fc_spec.specs.documents.Val.{val_cmp}
use Rattle.fc_spec.specs.requests.Buckets.{Key, value, missing, gap, before, between, after, whole}

-- the kinds of key, in their order
abbrev pub key_rank : Key → ℕ
key_rank (value v) = 0
key_rank missing = 1
key_rank (gap i) = 2
key_rank before = 3
key_rank between = 4
key_rank after = 5
key_rank whole = 6

abbrev pub key_cmp : Key → Key → Ordering
key_cmp (value v) (value w) = val_cmp v w
key_cmp (gap i) (gap j) = nat_cmp i j
key_cmp k l = nat_cmp (key_rank k) (key_rank l)

-- the two keys are one
abbrev pub same_key : Key → Key → Bool
same_key k l = is_eq (key_cmp k l)
