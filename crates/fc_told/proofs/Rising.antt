-- The keys of a row that fits ascend, and what is nested in its buckets fits too.
use Rattle.std.proofs.Common.{◌≡◌, ℕ, List, [], ◌∷◌, Bool, true, false, cond, ◌&&◌, Option, None, Some, refl, sym, ◌∙◌, ap, subst}
use Rattle.std.specs.List.Sorted.{IsStrictlySortedBy}
use Rattle.std.specs.Option.{option_and_then}
use Rattle.std.specs.Ordering.{is_eq}
use Rattle.std.proofs.lemmas.Bool.{and_parts}
use Rattle.fc_spec.specs.requests.Buckets.{Key, is_key_of}
use Rattle.fc_spec.specs.requests.Request.{Kind, Terms, Facet, Nodes, facet, stats_of}
use Rattle.fc_spec.specs.requests.Shape.{holds_exclusion}
use Rattle.fc_spec.specs.requests.Statistics.{Stats}
use Rattle.fc_spec.specs.messages.KeyOrder.{key_cmp, same_key}
use Rattle.fc_spec.specs.messages.Message.{Partials, no_partials, partial, Rows, row, Way}
use Rattle.fc_spec.specs.messages.MessageShape.{values_fit, count_fits, key_ascends, bucket_fits, buckets_fit, is_complete, rows_fit, insides_fit}
use Rattle.fc_spec.specs.messages.Target.{facet_at, nodes_in}
use Rattle.fc_spec.specs.messages.Held.{HeldBucket, Told, row_at, find_key, bucket_in, descend, behind, held_in}
use Rattle.fc_spec.proofs.words.Orderings.{Less-from_is_lt}
use Rattle.fc_spec.proofs.messages.FittingBuckets.{RowFits, row_fits_at}
use Rattle.fc_spec.proofs.messages.Ways.{some_exact, none_not_some}
use Rattle.fc_told.proofs.Branches.{AllBehind, behind_earlier}

-- the keys of buckets, in their order
abbrev pub keys_of : Partials → List Key
keys_of no_partials = []
keys_of (partial k stats rows rest) = k ∷ keys_of rest

abbrev pub Rise : Partials → Type 0
Rise ps = IsStrictlySortedBy key_cmp (keys_of ps)

abbrev AllBehindLast : Option Key → List Key → Type 0
AllBehindLast None ks = Unit {0}
AllBehindLast (Some k) ks = AllBehind k ks

rise_behind : (kind : Kind) (inner : Nodes) (ps : Partials) (last : Option Key) → buckets_fit kind inner ps last ≡ true → AllBehindLast last (keys_of ps) × Rise ps
unfolding IsStrictlySortedBy
rise_behind kind inner no_partials None h = (tt, tt)
rise_behind kind inner no_partials (Some l) h = (tt, tt)
rise_behind kind inner (partial k stats rows rest) last h =
    let both = and_parts (bucket_fits kind inner last k stats) (buckets_fit kind inner rest (Some k)) h in
    let later = rise_behind kind inner rest (Some k) both.1 in
    let values = and_parts (key_ascends last k && is_key_of kind k && count_fits (holds_exclusion inner) k stats) (values_fit (stats_of inner) stats.values) both.0 in
    let count = and_parts (key_ascends last k && is_key_of kind k) (count_fits (holds_exclusion inner) k stats) values.0 in
    (go last (and_parts (key_ascends last k) (is_key_of kind k) count.0).0 later.0, later)
  where
    go : (last : Option Key) → key_ascends last k ≡ true → AllBehind k (keys_of rest) → AllBehindLast last (k ∷ keys_of rest)
    go None e b = tt
    go (Some l) e b = (Less-from_is_lt (key_cmp l k) e, behind_earlier l k (keys_of rest) (Less-from_is_lt (key_cmp l k) e) b)

-- a key that stands before all is none of them
find_key_none : (nodes : Nodes) (k : Key) (ps : Partials) → AllBehind k (keys_of ps) → find_key nodes k ps ≡ None
find_key_none nodes k no_partials b = refl
find_key_none nodes k (partial l stats rows rest) b = ap (λ o. cond (is_eq o) (Some (record { stats = stats; nodes = nodes; rows = rows })) (find_key nodes k rest)) b.0 ∙ find_key_none nodes k rest b.1

-- nor is the first key among the later ones
pub first_once : (nodes : Nodes) (l : Key) (stats : Stats) (rows : Rows) (rest : Partials) → Rise (partial l stats rows rest) → find_key nodes l rest ≡ None
unfolding IsStrictlySortedBy
first_once nodes l stats rows rest up = find_key_none nodes l rest up.0

pub rise_later : (l : Key) (stats : Stats) (rows : Rows) (rest : Partials) → Rise (partial l stats rows rest) → AllBehind l (keys_of rest) × Rise rest
unfolding IsStrictlySortedBy
rise_later l stats rows rest up = up

module _ (most : Terms → Option ℕ) where
  -- the rows of a bucket fit its nodes
  abbrev pub HasFittingRows : HeldBucket → Type 0
  HasFittingRows b = rows_fit most b.rows b.nodes ≡ true

  -- the parts of a row that fits
  pub row_parts : (f : Facet) (inner rest : Nodes) (ps : Partials) (rows : Rows) → rows_fit most (row ps rows) (facet f inner rest) ≡ true → Rise ps × (insides_fit most ps inner ≡ true) × (rows_fit most rows rest ≡ true)
  row_parts f inner rest ps rows h =
      let others = and_parts (is_complete most f.kind ps && buckets_fit f.kind inner ps None && insides_fit most ps inner) (rows_fit most rows rest) h in
      let insides = and_parts (is_complete most f.kind ps && buckets_fit f.kind inner ps None) (insides_fit most ps inner) others.0 in
      let buckets = and_parts (is_complete most f.kind ps) (buckets_fit f.kind inner ps None) insides.0 in
      ((rise_behind f.kind inner ps None buckets.1).1, insides.1, others.1)

  pub row_rises : (n : ℕ) (b : HeldBucket) → HasFittingRows b → Rise (row_at n b.nodes b.rows)
  unfolding IsStrictlySortedBy
  row_rises n b h = go (facet_at n b.nodes) (row_at n b.nodes b.rows) (row_fits_at most n b.nodes b.rows h)
    where
      go : (o : Option (Facet × Nodes)) (ps : Partials) → RowFits most o ps → Rise ps
      go None ps e = subst Rise (sym e) tt
      go (Some f) ps fit = (rise_behind (f.0).kind f.1 ps None fit.0).1

  found_fits : (nodes : Nodes) (k : Key) (ps : Partials) (c : HeldBucket) → insides_fit most ps nodes ≡ true → find_key nodes k ps ≡ Some c → HasFittingRows c
  found_fits nodes k no_partials c h e = absurd (none_not_some c e)
  found_fits nodes k (partial l stats rows rest) c h e = go (same_key k l) both.0 e (found_fits nodes k rest c both.1)
    where
      both : (rows_fit most rows nodes ≡ true) × (insides_fit most rest nodes ≡ true)
      both = and_parts (rows_fit most rows nodes) (insides_fit most rest nodes) h

      here : HeldBucket
      here = record { stats = stats; nodes = nodes; rows = rows }

      go : (b : Bool) → rows_fit most rows nodes ≡ true → cond b (Some here) (find_key nodes k rest) ≡ Some c → (find_key nodes k rest ≡ Some c → HasFittingRows c) → HasFittingRows c
      go true fit f ih = subst HasFittingRows (some_exact here c f) fit
      go false fit f ih = ih f

  pub nested_fits : (n : ℕ) (k : Key) (b c : HeldBucket) → HasFittingRows b → bucket_in n k b ≡ Some c → HasFittingRows c
  nested_fits n k b c h e = go (facet_at n b.nodes) (row_at n b.nodes b.rows) (row_fits_at most n b.nodes b.rows h) e
    where
      go : (o : Option (Facet × Nodes)) (ps : Partials) → RowFits most o ps → find_key (nodes_in o) k ps ≡ Some c → HasFittingRows c
      go None ps none f = absurd (none_not_some c (ap (find_key (nodes_in None) k) (sym none) ∙ f))
      go (Some g) ps fit f = found_fits g.1 k ps c fit.1 f

  descend_fits : (way : Way) (b c : HeldBucket) → HasFittingRows b → descend way b ≡ Some c → HasFittingRows c
  descend_fits [] b c h e = subst HasFittingRows (some_exact b c e) h
  descend_fits (s ∷ way) b c h e = go (bucket_in s.node s.key b) refl e (λ d. descend_fits way d c)
    where
      go : (o : Option HeldBucket) → bucket_in s.node s.key b ≡ o → option_and_then (descend way) o ≡ Some c → ((d : HeldBucket) → HasFittingRows d → descend way d ≡ Some c → HasFittingRows c) → HasFittingRows c
      go None at f ih = absurd (none_not_some c f)
      go (Some d) at f ih = ih d (nested_fits s.node s.key b d h at) f

  -- what a told bucket holds fits
  pub held_in_fits : (t : Told) (way : Way) (c : HeldBucket) → HasFittingRows t.bucket → held_in t way ≡ Some c → HasFittingRows c
  held_in_fits t way c h e = go (behind t.way way) e
    where
      go : (o : Option Way) → option_and_then (λ rest. descend rest t.bucket) o ≡ Some c → HasFittingRows c
      go None f = absurd (none_not_some c f)
      go (Some rest) f = descend_fits rest t.bucket c h f
