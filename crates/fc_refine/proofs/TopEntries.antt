-- The entries of tallies and of their buckets.
use Rattle.std.proofs.Common.{◌≡◌, List, [], ◌∷◌, map, refl, ap}
use Rattle.std.specs.List.{AllByRecursion}
use Rattle.std.specs.List.Sorted.{IsStrictlySortedBy}
use Rattle.std.specs.Map.{keys_of}
use Rattle.std.specs.declared.cmp.Ordering.TheVariants.{Less}
use Rattle.fc_spec.specs.documents.Val.{val_cmp}
use Rattle.fc_spec.specs.requests.Buckets as buckets
use Rattle.fc_spec.specs.requests.Buckets.{Key}
use Rattle.fc_spec.specs.requests.Ranks.{Entry}
use Rattle.fc_spec.specs.messages.KeyOrder.{key_cmp}
use Rattle.fc_spec.specs.messages.Message.{partial, no_rows}
use Rattle.fc_partial.specs.BucketView.{linked, bare}
use Rattle.fc_partial.specs.Tallied as tally
use Rattle.fc_refine.specs.Entries.{HaveAscendingValues}
use Rattle.fc_refine.specs.Tops.{with_value, values_of_tally, entries_in, bare_of}

pub entries_of_bare : (ts : List tally.Entry) → entries_in (bare ts) ≡ ts
entries_of_bare [] = refl
entries_of_bare (t ∷ ts) = ap (λ l. t ∷ l) (entries_of_bare ts)

-- bare buckets, seen one by one
pub linked_bare : (ts : List tally.Entry) → linked (map bare_of ts) ≡ bare ts
linked_bare [] = refl
linked_bare (t ∷ ts) = ap (partial t.0 t.1 no_rows) (linked_bare ts)

-- the values of ascending keys ascend
module _ where
  below : (v : _) (ts : List tally.Entry) → AllByRecursion (λ k. key_cmp (buckets.value v) k ≡ Less) (keys_of ts) → AllByRecursion (λ w. val_cmp v w ≡ Less) (map (λ (e : Entry). e.val) (values_of_tally ts))
  below v [] h = tt
  below v (t ∷ ts) h = go t.0 h.0 (below v ts h.1)
    where
      go : (k : Key) → key_cmp (buckets.value v) k ≡ Less → AllByRecursion (λ w. val_cmp v w ≡ Less) (map (λ (e : Entry). e.val) (values_of_tally ts))
          → AllByRecursion (λ w. val_cmp v w ≡ Less) (map (λ (e : Entry). e.val) (with_value k t.1 (values_of_tally ts)))
      go (buckets.value w) less ih = (less, ih)
      go buckets.missing less ih = ih
      go (buckets.gap i) less ih = ih
      go buckets.before less ih = ih
      go buckets.between less ih = ih
      go buckets.after less ih = ih
      go buckets.whole less ih = ih

  pub values_ascend : (ts : List tally.Entry) → IsStrictlySortedBy key_cmp (keys_of ts) → HaveAscendingValues (values_of_tally ts)
  unfolding IsStrictlySortedBy
  values_ascend [] h = tt
  values_ascend (t ∷ ts) h = go t.0 h.0 (values_ascend ts h.1)
    where
      go : (k : Key) → AllByRecursion (λ l. key_cmp k l ≡ Less) (keys_of ts) → HaveAscendingValues (values_of_tally ts) → HaveAscendingValues (with_value k t.1 (values_of_tally ts))
      go (buckets.value w) under ih = (below w ts under, ih)
      go buckets.missing under ih = ih
      go (buckets.gap i) under ih = ih
      go buckets.before under ih = ih
      go buckets.between under ih = ih
      go buckets.after under ih = ih
      go buckets.whole under ih = ih
