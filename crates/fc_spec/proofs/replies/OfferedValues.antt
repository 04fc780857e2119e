-- The values that a shard offers: they are found there, ascend, and are at most as many as the bound.
use Rattle.std.proofs.Common.{◌≡◌, ℕ, List, [], ◌∷◌, map, length, Bool, true, false, cond, not, Option, None, Some, refl, sym, ◌∙◌, ap, subst, arith}
use Rattle.std.specs.Prelude.{AllPairs}
use Rattle.std.specs.List.{filter, AllByRecursion, IsDistinct}
use Rattle.std.specs.List.Sorted.{IsStrictlySortedBy}
use Rattle.std.specs.Ordering.{is_eq, is_lt, eq_by_cmp}
use Rattle.std.specs.declared.cmp.Ordering.TheVariants.{Less}
use Rattle.std.proofs.lemmas.Bool.{le-leb, false_from_ne_true, false≢true}
use Rattle.std.specs.Cmp.{Equal-is}
use Rattle.std.proofs.lemmas.List.{length-map, length-take}
use Rattle.std.proofs.lemmas.List.Kept.{IsStrictlySortedBy-filter}
use Rattle.std.proofs.lemmas.List.Sorted.{length_permutation}
use Rattle.std.proofs.lemmas.Map.Keys.{Less-from_sorted}
use Rattle.fc_spec.specs.documents.Val.{Val, val_cmp, distinct}
use Rattle.fc_spec.specs.words.Lists.{is_empty}
use Rattle.fc_spec.specs.documents.World.{Place, on_shards}
use Rattle.fc_spec.specs.requests.Request.{Sort, Stat, Terms, Nodes, stats_of}
use Rattle.fc_spec.specs.requests.Statistics.{Stats, stats_over, pair_values}
use Rattle.fc_spec.specs.requests.Ranks.{Entry, entry_cmp, below_rank, offered_bound}
use Rattle.fc_spec.specs.replies.Values.{value_places, values_in, entries_in}
use Rattle.fc_spec.specs.replies.Reading.{offered}
use Rattle.fc_spec.specs.messages.MessageShape.{is_at_most_bound}
use Rattle.fc_spec.proofs.words.Inserted.{in_order, members-in_order, up-in_order}
use Rattle.fc_spec.proofs.words.Members.{Every, every_filter, every_map, every_own_filter}
use Rattle.fc_spec.proofs.requests.EntryTotal.{entry_total, entry_ties}
use Rattle.fc_spec.proofs.requests.FoundValues.{ascending-values_in}
use Rattle.fc_spec.proofs.requests.SortedEntries.{below_rank_is_front}

-- what the values found on the shard pass, those offered pass
pub every_offered : (p : Val → Bool) (t : Terms) (inner : Nodes) (Y : List Place) (i : ℕ) → Every p (values_in t (on_shards (i ∷ []) Y)) → Every p (offered t inner Y i)
every_offered p t inner Y i e =
    every_map p (λ e. e.val) _
    (every_filter (λ e. p e.val) _ (entries_in t (stats_of inner) (on_shards (i ∷ []) Y))
    (every_map (λ (e : Entry). p e.val) (λ v. record { val = v; stats = stats_over (stats_of inner) (value_places t v (on_shards (i ∷ []) Y)) }) (values_in t (on_shards (i ∷ []) Y)) e))

-- each has a place there
pub places_of_offered : (t : Terms) (inner : Nodes) (Y : List Place) (i : ℕ) → Every (λ v. not (is_empty (value_places t v (on_shards (i ∷ []) Y)))) (offered t inner Y i)
places_of_offered t inner Y i =
    let found : Val → Bool = λ v. not (is_empty (value_places t v (on_shards (i ∷ []) Y))) in
    every_offered found t inner Y i (every_own_filter found (distinct (pair_values t.field (on_shards (i ∷ []) Y))))

-- entries made for values, one for each
module _ (stats : Val → Stats) where
  abbrev made : Val → Entry
  made v = record { val = v; stats = stats v }

  -- the values of some of them are some of the values
  pub vals_of_some : (q : Entry → Bool) (vs : List Val) → map (λ e. e.val) (filter q (map made vs)) ≡ filter (λ v. q (made v)) vs
  vals_of_some q [] = refl
  vals_of_some q (v ∷ vs) = go (q (made v)) (vals_of_some q vs)
    where
      go : (b : Bool) → map (λ e. e.val) (filter q (map made vs)) ≡ filter (λ w. q (made w)) vs
          → map (λ e. e.val) (cond b (made v ∷ filter q (map made vs)) (filter q (map made vs))) ≡ cond b (v ∷ filter (λ w. q (made w)) vs) (filter (λ w. q (made w)) vs)
      go true rest = ap (λ ws. v ∷ ws) rest
      go false rest = rest

  some_ascend : (q : Entry → Bool) (vs : List Val) → IsStrictlySortedBy val_cmp vs → IsStrictlySortedBy val_cmp (map (λ e. e.val) (filter q (map made vs)))
  some_ascend q vs h = subst (IsStrictlySortedBy val_cmp) (sym (vals_of_some q vs)) (IsStrictlySortedBy-filter val_cmp (λ v. q (made v)) vs h)

  -- no two of them tie, where the values ascend
  apart_made : (s : Sort) (v : Val) (vs : List Val) → AllByRecursion (λ w. val_cmp v w ≡ Less) vs → AllByRecursion (λ e. is_eq (entry_cmp s (made v) e) ≡ false) (map made vs)
  apart_made s v [] h = tt
  apart_made s v (w ∷ ws) h = (
    false_from_ne_true _ (λ tied. false≢true (sym (ap is_eq h.0) ∙ entry_ties s (made v) (made w) ((Equal-is (entry_cmp s (made v) (made w))).0 tied))),
    apart_made s v ws h.1,
  )

  none_tie : (s : Sort) (vs : List Val) → IsStrictlySortedBy val_cmp vs → IsDistinct (eq_by_cmp (entry_cmp s)) (map made vs)
  unfolding IsStrictlySortedBy IsDistinct
  none_tie s [] h = tt
  none_tie s (v ∷ vs) h = (apart_made s v vs h.0, none_tie s vs h.1)

-- the values of entries below a rank ascend
pub below_rank_ascends : (s : Sort) (bound : Option ℕ) (t : Terms) (ss : List Stat) (Y : List Place) → IsStrictlySortedBy val_cmp (map (λ e. e.val) (below_rank s bound (entries_in t ss Y)))
below_rank_ascends s bound t ss Y = some_ascend (λ v. stats_over ss (value_places t v Y)) _ (values_in t Y) (ascending-values_in t Y)

-- and so do those offered
pub offered_ascend : (t : Terms) (inner : Nodes) (Y : List Place) (i : ℕ) → IsStrictlySortedBy val_cmp (offered t inner Y i)
offered_ascend t inner Y i = below_rank_ascends t.sort (offered_bound t) t (stats_of inner) (on_shards (i ∷ []) Y)

-- of entries that do not tie, at most as many are below a rank as it says
pub few_below_rank : (s : Sort) (bound : Option ℕ) (V : List Entry) → IsDistinct (eq_by_cmp (entry_cmp s)) V → is_at_most_bound bound (length (below_rank s bound V)) ≡ true
few_below_rank s None V apart = refl
few_below_rank s (Some b) V apart =
    let L = in_order (entry_cmp s) (entry_total s) V in
    let up = up-in_order (entry_cmp s) (entry_total s) V apart in
    let ahead : AllPairs (λ a b. is_lt (entry_cmp s a b) ≡ true) L = λ i j d l m. ap is_lt (Less-from_sorted (entry_cmp s) L i j d up l m) in
    let front = below_rank_is_front s (Some b) V L (record { members = members-in_order (entry_cmp s) (entry_total s) V; ahead = ahead }) in
    le-leb _ b (omega (arith, length_permutation _ _ front, length-take b L))

-- and at most as many are offered
pub offered_few : (t : Terms) (inner : Nodes) (Y : List Place) (i : ℕ) → is_at_most_bound (offered_bound t) (length (offered t inner Y i)) ≡ true
offered_few t inner Y i =
    let here = on_shards (i ∷ []) Y in
    let V = entries_in t (stats_of inner) here in
    ap (is_at_most_bound (offered_bound t)) (length-map (below_rank t.sort (offered_bound t) V) (λ e. e.val))
    ∙ few_below_rank t.sort (offered_bound t) V (none_tie (λ v. stats_over (stats_of inner) (value_places t v here)) t.sort (values_in t here) (ascending-values_in t here))
