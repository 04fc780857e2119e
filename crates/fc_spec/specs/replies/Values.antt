-- The values that a terms facet finds in a set of places, and their entries. Guide: JSON Facet API, "Terms Facet".
use Rattle.std.specs.Prelude.{List, map, not}
use Rattle.std.specs.List.{filter}
use Rattle.fc_spec.specs.documents.Val.{Val, distinct}
use Rattle.fc_spec.specs.words.Lists.{is_empty}
use Rattle.fc_spec.specs.documents.World.{Place}
use Rattle.fc_spec.specs.requests.Request.{Stat, Terms, terms}
use Rattle.fc_spec.specs.requests.Buckets.{value, bucket_places}
use Rattle.fc_spec.specs.requests.Statistics.{stats_over, pair_values}
use Rattle.fc_spec.specs.requests.Ranks.{Entry}

-- the places of the value
abbrev pub value_places : Terms → Val → List Place → List Place
value_places t v Y = bucket_places (terms t) (value v) Y

-- the values of the field that have a place there, in index order
abbrev pub values_in : Terms → List Place → List Val
values_in t Y = filter (λ v. not (is_empty (value_places t v Y))) (distinct (pair_values t.field Y))

-- each with the statistics of its places
abbrev pub entries_in : Terms → List Stat → List Place → List Entry
entries_in t ss Y = map (λ v. record { val = v; stats = stats_over ss (value_places t v Y) }) (values_in t Y)
