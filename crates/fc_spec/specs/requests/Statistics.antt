-- Statistics of sets of places. Guide: JSON Facet API, "Stat Facet Functions".
use Rattle.std.specs.Prelude.{ℕ, ℤ, pos, ◌+ℤ◌, List, [], ◌∷◌, map, length, Option, None, Some, count_by}
use Rattle.std.specs.List.{flat_map}
use Rattle.std.specs.Int.{int_min, int_max}
use Rattle.fc_spec.specs.documents.Val.{Val}
use Rattle.fc_spec.specs.documents.Document.{values_of}
use Rattle.fc_spec.specs.documents.Columns.{longs_in}
use Rattle.fc_spec.specs.words.Lists.{is_empty}
use Rattle.fc_spec.specs.documents.World.{Place}
use Rattle.fc_spec.specs.requests.Request.{StatKind, sum, min, max, countvals, missing, Stat}

-- a number, or a least or greatest value, which may be absent
pub data StatValue : Type 0 where
  number : ℤ → StatValue
  extreme : Option ℤ → StatValue

-- how many places, and the statistics of the node over them, in order
pub record Stats : Type 0 where
  pub count : ℕ
  pub values : List StatValue

-- the values of the field at the places: one for each pair of a place and a value of its document, whose values are different
abbrev pub pair_values : ℕ → List Place → List Val
pair_values field X = flat_map (λ p. values_of p.document field) X

-- the integers among the values of the pairs: in an integer field, all of them
abbrev pub longs_of : ℕ → List Place → List ℤ
longs_of field X = longs_in (pair_values field X)

-- all added up
abbrev pub total_of : List ℤ → ℤ
total_of [] = pos 0
total_of (x ∷ xs) = x +ℤ total_of xs

-- the lesser and the greater of two, where they are there
abbrev pub lesser : Option ℤ → Option ℤ → Option ℤ
lesser None b = b
lesser (Some a) None = Some a
lesser (Some a) (Some b) = Some (int_min a b)

abbrev pub greater : Option ℤ → Option ℤ → Option ℤ
greater None b = b
greater (Some a) None = Some a
greater (Some a) (Some b) = Some (int_max a b)

-- the least and the greatest, absent where there is none
abbrev pub least_of : List ℤ → Option ℤ
least_of [] = None
least_of (x ∷ xs) = lesser (Some x) (least_of xs)

abbrev pub greatest_of : List ℤ → Option ℤ
greatest_of [] = None
greatest_of (x ∷ xs) = greater (Some x) (greatest_of xs)

-- the statistic of a field over places; missing is the number of places with no value
abbrev pub statistic_in : StatKind → ℕ → List Place → StatValue
statistic_in sum field X = number (total_of (longs_of field X))
statistic_in min field X = extreme (least_of (longs_of field X))
statistic_in max field X = extreme (greatest_of (longs_of field X))
statistic_in countvals field X = number (pos (length (pair_values field X)))
statistic_in missing field X = number (pos (count_by (λ p. is_empty (values_of p.document field)) X))

-- a statistic of a node over places
abbrev pub value_over : Stat → List Place → StatValue
value_over s X = statistic_in s.of s.field X

-- the number of places, with these statistics of them
abbrev pub stats_over : List Stat → List Place → Stats
stats_over ss X = record { count = length X; values = map (λ s. value_over s X) ss }

-- what a statistic shows, where it is there
abbrev pub shown : StatValue → Option ℤ
shown (number n) = Some n
shown (extreme o) = o

-- the number that a statistic adds to a sum: none of a least or greatest value
abbrev pub amount : StatValue → ℤ
amount (number n) = n
amount (extreme o) = pos 0

-- the statistic of two disjoint sets together, from those of each: the sum of both, or the lesser or greater of what is there
abbrev pub combined_value : StatKind → StatValue → StatValue → StatValue
combined_value sum a b = number (amount a +ℤ amount b)
combined_value min a b = extreme (lesser (shown a) (shown b))
combined_value max a b = extreme (greater (shown a) (shown b))
combined_value countvals a b = number (amount a +ℤ amount b)
combined_value missing a b = number (amount a +ℤ amount b)
