-- Statistics of two disjoint sets, combined.
use Rattle.std.specs.Prelude.{◌+◌, List, [], ◌∷◌}
use Rattle.fc_spec.specs.requests.Request.{Stat}
use Rattle.fc_spec.specs.requests.Statistics.{StatValue, Stats, combined_value}

-- statistic by statistic; none where one of the lists ends
abbrev pub combined_values : List Stat → List StatValue → List StatValue → List StatValue
combined_values [] as' bs = []
combined_values (s ∷ ss) [] bs = []
combined_values (s ∷ ss) (a ∷ as') [] = []
combined_values (s ∷ ss) (a ∷ as') (b ∷ bs) = combined_value s.of a b ∷ combined_values ss as' bs

-- the counts added up, and each statistic combined
abbrev pub combined : List Stat → Stats → Stats → Stats
combined ss a b = record { count = a.count + b.count; values = combined_values ss a.values b.values }
