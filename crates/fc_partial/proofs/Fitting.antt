-- Which places have statistics that fit.
use Rattle.std.specs.Prelude.{◌≡◌, ℕ, zero, suc, ◌+◌, ◌≤◌, List, [], ◌∷◌, ◌++◌, length, map, Bool, true, false, not, nat_abs, sum_by, take, drop, ◌<◌}
use Rattle.std.specs.List.{filter, items_where_true, slice_index_or}
use Rattle.std.proofs.Common.{refl, ap, ap₂, sym, subst, ◌∙◌, arith, length-append, drop-cons}
use Rattle.std.proofs.lemmas.List.{length-map, map-append, take-append-drop}
use Rattle.std.proofs.lemmas.List.Concat.{length-flat_map}
use Rattle.std.proofs.lemmas.List.Elements.{filter_map-append}
use Rattle.std.proofs.lemmas.List.Filters.{length-filter_both, sum_by-filter_both}
use Rattle.std.proofs.lemmas.List.Sums.{sum_by-append, sum_by-cons, sum_by-le-sum_by}
use Rattle.fc_spec.specs.documents.Columns.{as_long, longs_in}
use Rattle.fc_spec.specs.documents.Document.{Document, values_of}
use Rattle.fc_spec.specs.documents.Totals.{documents_in, value_count}
use Rattle.fc_spec.specs.documents.World.{World, Place, places, places_from, shard_places}
use Rattle.fc_spec.specs.requests.Statistics.{pair_values, longs_of}
use Rattle.fc_spec.specs.words.Lists.{joined}
use Rattle.fc_spec.proofs.documents.BlockTotals.{documents_in-append}
use Rattle.fc_spec.proofs.documents.PlacedDocuments.{documents_at, documents_at-shard}
use Rattle.fc_lane.proofs.PickedTotals.{fewer_picked}
use Rattle.fc_partial.specs.Fitting.{StatisticsFit}
use Rattle.fc_spec.specs.scripts.WorldLimits.{IsWithinLimits}

-- the absolute values of a field at places, place by place
absolute_sum : (field : ℕ) (X : List Place) → sum_by nat_abs (longs_of field X) ≡ sum_by (λ p. sum_by nat_abs (longs_in (values_of p.document field))) X
absolute_sum field [] = refl
absolute_sum field (p ∷ ps) =
    ap (sum_by nat_abs) (filter_map-append as_long (values_of p.document field) (pair_values field ps))
    ∙ sum_by-append nat_abs (longs_in (values_of p.document field)) (longs_of field ps)
    ∙ ap (λ n. sum_by nat_abs (longs_in (values_of p.document field)) + n) (absolute_sum field ps)
    ∙ sym (sum_by-cons (λ (p : Place). sum_by nat_abs (longs_in (values_of p.document field))) p ps)

pair_count : (field : ℕ) (X : List Place) → length (pair_values field X) ≡ sum_by (λ p. length (values_of p.document field)) X
pair_count field X = length-flat_map (λ (p : Place). values_of p.document field) X

fewer : {X : Type 0} (f : X → ℕ) (t : X → Bool) (xs : List X) → sum_by f (filter t xs) ≤ sum_by f xs
fewer f t xs = omega (arith, sum_by-filter_both t (λ x. not (t x)) (λ x. refl) f xs)

-- those that pass a test have no more
pub filtered_fit : (t : Place → Bool) (X : List Place) → StatisticsFit X → StatisticsFit (filter t X)
filtered_fit t X fit = record {
  places = omega (arith, fit.places, length-filter_both t (λ x. not (t x)) (λ x. refl) X);
  pairs = λ field. omega (arith, fit.pairs field, pair_count field X, pair_count field (filter t X), fewer (λ (p : Place). length (values_of p.document field)) t X);
  sums = λ field. omega (arith, fit.sums field, absolute_sum field X, absolute_sum field (filter t X), fewer (λ (p : Place). sum_by nat_abs (longs_in (values_of p.document field))) t X);
}

-- ---- all places

documents_at-places : (s : ℕ) (W : World) → documents_at (places_from s W) ≡ documents_in (joined W)
documents_at-places s [] = refl
documents_at-places s (blocks ∷ rest) =
    map-append (λ (p : Place). p.document) (shard_places s 0 0 blocks) (places_from (s + 1) rest)
    ∙ ap₂ (λ a b. a ++ b) (documents_at-shard s 0 0 blocks) (documents_at-places (s + 1) rest)
    ∙ sym (documents_in-append blocks (joined rest))

sum_by-map : {X Y : Type 0} (f : Y → ℕ) (g : X → Y) (xs : List X) → sum_by f (map g xs) ≡ sum_by (λ x. f (g x)) xs
sum_by-map f g [] = refl
sum_by-map f g (x ∷ xs) = sum_by-cons f (g x) (map g xs) ∙ ap (λ n. f (g x) + n) (sum_by-map f g xs) ∙ sym (sum_by-cons (λ x. f (g x)) x xs)

-- the values of one field are among all
one_field : {X : Type 0} (d : List (List X)) (field : ℕ) → length (slice_index_or d field []) ≤ sum_by length d
one_field [] field = omega arith
one_field (vs ∷ d) zero = omega (arith, sum_by-cons length vs d)
one_field (vs ∷ d) (suc field) = omega (arith, sum_by-cons length vs d, one_field d field)

values_at_most : (field : ℕ) (ds : List Document) → sum_by (λ d. length (values_of d field)) ds ≤ value_count ds
values_at_most field ds = sum_by-le-sum_by (λ (d : Document). length (values_of d field)) (λ d. sum_by (λ vs. length vs) d) ds (λ d. one_field d field)

-- those of a world within the limits
pub places_fit : (W : World) → IsWithinLimits W → StatisticsFit (places W)
places_fit W limits = record {
  places = omega (arith, few.0, length-map (places W) (λ (p : Place). p.document), ap length at);
  pairs = λ field. omega (
    arith,
    few.1,
    pair_count field (places W),
    sum_by-map (λ (d : Document). length (values_of d field)) (λ (p : Place). p.document) (places W),
    ap (sum_by (λ (d : Document). length (values_of d field))) at,
    values_at_most field (documents_in (joined W)),
  );
  sums = λ field. omega (
    arith,
    limits.sums field,
    absolute_sum field (places W),
    sum_by-map (λ (d : Document). sum_by nat_abs (longs_in (values_of d field))) (λ (p : Place). p.document) (places W),
    ap (sum_by (λ (d : Document). sum_by nat_abs (longs_in (values_of d field)))) at,
  );
}
  where
    at : documents_at (places W) ≡ documents_in (joined W)
    at = documents_at-places 0 W

    few : (length (documents_in (joined W)) ≤ 1_048_576) × (value_count (documents_in (joined W)) ≤ 16_777_216)
    few = grind (arith, limits.few)

-- ---- parts

-- those that come first, and those behind them
module _ (X Y : List Place) (fit : StatisticsFit (X ++ Y)) where
  pairs_apart : (field : ℕ) → length (pair_values field (X ++ Y)) ≡ length (pair_values field X) + length (pair_values field Y)
  pairs_apart field =
      pair_count field (X ++ Y) ∙ sum_by-append (λ (p : Place). length (values_of p.document field)) X Y
      ∙ ap₂ (λ m n. m + n) (sym (pair_count field X)) (sym (pair_count field Y))

  sums_apart : (field : ℕ) → sum_by nat_abs (longs_of field (X ++ Y)) ≡ sum_by nat_abs (longs_of field X) + sum_by nat_abs (longs_of field Y)
  sums_apart field =
      absolute_sum field (X ++ Y) ∙ sum_by-append (λ (p : Place). sum_by nat_abs (longs_in (values_of p.document field))) X Y
      ∙ ap₂ (λ m n. m + n) (sym (absolute_sum field X)) (sym (absolute_sum field Y))

  pub front_fits : StatisticsFit X
  front_fits = record {
    places = omega (arith, fit.places, length-append X Y);
    pairs = λ field. omega (arith, fit.pairs field, pairs_apart field);
    sums = λ field. omega (arith, fit.sums field, sums_apart field);
  }

  pub back_fits : StatisticsFit Y
  back_fits = record {
    places = omega (arith, fit.places, length-append X Y);
    pairs = λ field. omega (arith, fit.pairs field, pairs_apart field);
    sums = λ field. omega (arith, fit.sums field, sums_apart field);
  }

-- one of them
pub member_fits : (X : List Place) (k : ℕ) (d : Place) → k < length X → StatisticsFit X → StatisticsFit (slice_index_or X k d ∷ [])
member_fits X k d here fit =
    let all : take k X ++ (slice_index_or X k d ∷ drop (suc k) X) ≡ X = ap (λ l. take k X ++ l) (sym (drop-cons X k d here)) ∙ take-append-drop k X in
    front_fits (slice_index_or X k d ∷ []) (drop (suc k) X) (back_fits (take k X) (slice_index_or X k d ∷ drop (suc k) X) (subst StatisticsFit (sym all) fit))

-- those at the positions in a set
length-picked : {X : Type 0} (set : List Bool) (xs : List X) → length (items_where_true set xs) ≤ length xs
length-picked [] xs = omega arith
length-picked (b ∷ set) [] = omega arith
length-picked (true ∷ set) (x ∷ xs) = omega (arith, length-picked set xs)
length-picked (false ∷ set) (x ∷ xs) = omega (arith, length-picked set xs)

pub picked_fit : (set : List Bool) (X : List Place) → StatisticsFit X → StatisticsFit (items_where_true set X)
picked_fit set X fit = record {
  places = omega (arith, fit.places, length-picked set X);
  pairs = λ field. omega (arith, fit.pairs field, pair_count field X, pair_count field (items_where_true set X), fewer_picked (λ (p : Place). length (values_of p.document field)) set X);
  sums = λ field. omega (arith, fit.sums field, absolute_sum field X, absolute_sum field (items_where_true set X), fewer_picked (λ (p : Place). sum_by nat_abs (longs_in (values_of p.document field))) set X);
}
