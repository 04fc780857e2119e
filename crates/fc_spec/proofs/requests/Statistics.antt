-- Statistics of joined lists of places.
use Rattle.std.specs.Prelude.{◌≡◌, ℕ, pos, List, [], ◌∷◌, ◌++◌, map}
use Rattle.std.proofs.Common.{refl, ap, ◌∙◌, length-append, add_assoc}
use Rattle.std.proofs.lemmas.Grind.{flat_map-append}
use Rattle.std.proofs.lemmas.List.Elements.{filter_map-append}
use Rattle.std.proofs.lemmas.List.Sums.{sum_by-append}
use Rattle.std.proofs.Math.IntN.{+ℤ_comm, +ℤ_assoc}
use Rattle.fc_spec.specs.documents.Columns.{as_long, longs_in}
use Rattle.fc_spec.specs.documents.World.{Place}
use Rattle.fc_spec.specs.requests.Request.{StatKind, sum, min, max, countvals, missing, Stat}
use Rattle.fc_spec.specs.documents.Document.{values_of}
use Rattle.fc_spec.specs.requests.Statistics.{StatValue, Stats, extreme, number, shown, amount, pair_values, longs_of, statistic_in, value_over, combined_value}
use Rattle.fc_spec.specs.requests.Combining.{combined, combined_values}
use Rattle.fc_spec.specs.laws.CombiningLaw.{CombinesLists}
use Rattle.fc_spec.proofs.requests.LeastAndGreatest.{lesser_comm, greater_comm, lesser_assoc, greater_assoc, least_of-append, greatest_of-append, total_of-append}

-- the values at joined lists of places
pair_values-append : (field : ℕ) (X Y : List Place) → pair_values field (X ++ Y) ≡ pair_values field X ++ pair_values field Y
pair_values-append field = flat_map-append (λ (p : Place). values_of p.document field)

-- the integers at joined lists of places
longs_of-append : (field : ℕ) (X Y : List Place) → longs_of field (X ++ Y) ≡ longs_of field X ++ longs_of field Y
longs_of-append field X Y = ap longs_in (pair_values-append field X Y) ∙ filter_map-append as_long (pair_values field X) (pair_values field Y)

-- a statistic of joined lists
pub statistic_in-append : (kind : StatKind) (field : ℕ) (X Y : List Place)
    → statistic_in kind field (X ++ Y) ≡ combined_value kind (statistic_in kind field X) (statistic_in kind field Y)
statistic_in-append sum field X Y = rw (longs_of-append field X Y) (ap number (total_of-append (longs_of field X) (longs_of field Y)))
statistic_in-append min field X Y = rw (longs_of-append field X Y) (ap extreme (least_of-append (longs_of field X) (longs_of field Y)))
statistic_in-append max field X Y = rw (longs_of-append field X Y) (ap extreme (greatest_of-append (longs_of field X) (longs_of field Y)))
statistic_in-append countvals field X Y = rw (pair_values-append field X Y) (ap (λ n. number (pos n)) (length-append (pair_values field X) (pair_values field Y)))
statistic_in-append missing field X Y = ap (λ n. number (pos n)) (sum_by-append _ X Y)

-- statistics of two sets combined, in either order
pub combined_value_comm : (kind : StatKind) (a b : StatValue) → combined_value kind a b ≡ combined_value kind b a
combined_value_comm sum a b = ap number (+ℤ_comm (amount a) (amount b))
combined_value_comm min a b = ap extreme (lesser_comm (shown a) (shown b))
combined_value_comm max a b = ap extreme (greater_comm (shown a) (shown b))
combined_value_comm countvals a b = ap number (+ℤ_comm (amount a) (amount b))
combined_value_comm missing a b = ap number (+ℤ_comm (amount a) (amount b))

-- statistics of three sets combined, the first two or the last two first
pub combined_value_assoc : (kind : StatKind) (a b c : StatValue) → combined_value kind (combined_value kind a b) c ≡ combined_value kind a (combined_value kind b c)
combined_value_assoc sum a b c = ap number (+ℤ_assoc (amount a) (amount b) (amount c))
combined_value_assoc min a b c = ap extreme (lesser_assoc (shown a) (shown b) (shown c))
combined_value_assoc max a b c = ap extreme (greater_assoc (shown a) (shown b) (shown c))
combined_value_assoc countvals a b c = ap number (+ℤ_assoc (amount a) (amount b) (amount c))
combined_value_assoc missing a b c = ap number (+ℤ_assoc (amount a) (amount b) (amount c))

combined_values_assoc : (ss : List Stat) (as' bs cs : List StatValue) → combined_values ss (combined_values ss as' bs) cs ≡ combined_values ss as' (combined_values ss bs cs)
combined_values_assoc [] as' bs cs = refl
combined_values_assoc (s ∷ ss) [] bs cs = refl
combined_values_assoc (s ∷ ss) (a ∷ as') [] cs = refl
combined_values_assoc (s ∷ ss) (a ∷ as') (b ∷ bs) [] = refl
combined_values_assoc (s ∷ ss) (a ∷ as') (b ∷ bs) (c ∷ cs) = rw (combined_value_assoc s.of a b c, combined_values_assoc ss as' bs cs)

-- all statistics of three sets
pub combined_assoc : (ss : List Stat) (a b c : Stats) → combined ss (combined ss a b) c ≡ combined ss a (combined ss b c)
combined_assoc ss a b c = rw (add_assoc a.count b.count c.count, combined_values_assoc ss a.values b.values c.values)

-- place by place, the statistics of joined lists
values_over-append : (ss : List Stat) (X Y : List Place)
    → map (λ s. value_over s (X ++ Y)) ss ≡ combined_values ss (map (λ s. value_over s X) ss) (map (λ s. value_over s Y) ss)
values_over-append [] X Y = refl
values_over-append (s ∷ ss) X Y = rw (statistic_in-append s.of s.field X Y, values_over-append ss X Y)

-- the statistics of joined lists
pub stats_over-append : CombinesLists
stats_over-append ss X Y = rw (length-append X Y, values_over-append ss X Y)
