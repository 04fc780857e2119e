-- The statistics of disjoint sets of places, combined, are those of both together.
use Rattle.std.specs.Prelude.{◌≡◌, List, ◌++◌, Bool, true, ◌||◌}
use Rattle.std.specs.List.{filter}
use Rattle.fc_spec.specs.documents.World.{Place}
use Rattle.fc_spec.specs.requests.Request.{Stat}
use Rattle.fc_spec.specs.requests.Statistics.{stats_over}
use Rattle.fc_spec.specs.requests.Combining.{combined}

-- one list behind the other
abbrev pub CombinesLists : Type 0
CombinesLists = (ss : List Stat) (X Y : List Place) → stats_over ss (X ++ Y) ≡ combined ss (stats_over ss X) (stats_over ss Y)

-- the members of one list that pass either of two tests which no place passes both
abbrev pub CombinesParts : Type 0
CombinesParts = (ss : List Stat) (p q : Place → Bool) → ((x : Place) → p x ≡ true → q x ≡ true → ⊥) → (X : List Place)
    → stats_over ss (filter (λ x. p x || q x) X) ≡ combined ss (stats_over ss (filter p X)) (stats_over ss (filter q X))
