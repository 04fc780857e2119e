-- What the value of `sort` means. Texts of JSON stand with ' in place of ".
use Rattle.std.specs.Prelude.{◌≡◌, Bool, true, false, Some, Ok, Err, option_map, codes, refl}
use Prim.Native.String.{String}
use Rattle.fc_spec.specs.requests.RequestFault.{QFault, bad_parameter, unknown_sort}
use Rattle.fc_spec.specs.requests.Request.{SortKey, by_count, by_index, by_statistic, Nodes, no_nodes, statistic, facet, sum, query}
use Rattle.fc_spec.specs.queries.Query.{all}
use Rattle.fc_spec.specs.requests.SortReading.{sort_of}
use Rattle.fc_rows.proofs.Words.{stat, named}
use Rattle.fc_rows.proofs.requests.RequestWords.{json_in, walked}

-- statistics of the names ``, ` m`, `asc`, `index`, `m` and `m asc`, and a facet `f`
abbrev nested : Nodes
nested =
    statistic (codes "") (stat sum 2)
    (statistic (codes " m") (stat sum 2) (statistic (codes "asc") (stat sum 2) (facet (named "f" (query all)) no_nodes
    (statistic (codes "index") (stat sum 2) (statistic (codes "m") (stat sum 2) (statistic (codes "m asc") (stat sum 2) no_nodes))))))

-- the value of `sort` means this key, with this direction
abbrev Sorts : String → SortKey → (descending : Bool) → Type 0
Sorts t key descending = option_map (sort_of nested) (json_in t) ≡ Some (Ok (record { by = key; descending = descending }))

abbrev SortFails : String → QFault → Type 0
SortFails t fault = option_map (sort_of nested) (json_in t) ≡ Some (Err fault)

-- a direction behind a space; without one ascending for `index` and descending for any other
pub directions :
    Sorts "'count'" by_count true
    × Sorts "'count asc'" by_count false
    × Sorts "'count desc'" by_count true
    × Sorts "'index'" by_index false
    × Sorts "'index asc'" by_index false
    × Sorts "'index desc'" by_index true
    × Sorts "'m'" (by_statistic 4) true
    × Sorts "'m asc'" (by_statistic 4) false
    × Sorts "'m desc'" (by_statistic 4) true
unfolding walked
directions = (refl, refl, refl, refl, refl, refl, refl, refl, refl)

-- white space at both ends and in front of the direction is left out
pub stripped_texts :
    Sorts "'  m  asc '" (by_statistic 4) false
    × Sorts "'\\t\\r\\nm\\n'" (by_statistic 4) true
    × Sorts "'m\\t desc'" (by_statistic 4) true
    × Sorts "' m'" (by_statistic 4) true
unfolding walked
stripped_texts = (refl, refl, refl, refl)

-- a direction behind other white space belongs to the name, and so does a second one
pub directions_behind_spaces_alone :
    SortFails "'count\\tasc'" unknown_sort
    × SortFails "'m\\ndesc'" unknown_sort
    × Sorts "'m asc desc'" (by_statistic 5) true
    × Sorts "'m asc asc'" (by_statistic 5) false
    × SortFails "'count asc desc'" unknown_sort
    × SortFails "'m ASC'" unknown_sort
    × SortFails "'masc'" unknown_sort
unfolding walked
directions_behind_spaces_alone = (refl, refl, refl, refl, refl, refl, refl)

-- a text that strips to a direction is a name, and so is an empty one
pub directions_as_names :
    Sorts "'asc'" (by_statistic 2) true
    × Sorts "' asc'" (by_statistic 2) true
    × Sorts "'asc asc'" (by_statistic 2) false
    × SortFails "'desc'" unknown_sort
    × Sorts "''" (by_statistic 0) true
    × Sorts "'  '" (by_statistic 0) true
unfolding walked
directions_as_names = (refl, refl, refl, refl, refl, refl)

-- names of statistics directly under the facet; facets have no sort, and `index` is never one of them
pub names :
    SortFails "'f'" unknown_sort
    × SortFails "'z'" unknown_sort
    × SortFails "'M'" unknown_sort
    × Sorts "{'index':'desc'}" by_index true
unfolding walked
names = (refl, refl, refl, refl)

-- an object of one member, whose name is taken as it stands
pub objects :
    Sorts "{'m':'asc'}" (by_statistic 4) false
    × Sorts "{'m':'desc'}" (by_statistic 4) true
    × Sorts "{'count':'asc'}" by_count false
    × Sorts "{'m asc':'desc'}" (by_statistic 5) true
    × Sorts "{' m':'asc'}" (by_statistic 1) false
    × Sorts "{'':'asc'}" (by_statistic 0) false
    × SortFails "{'count ':'asc'}" unknown_sort
    × SortFails "{'m':'ASC'}" bad_parameter
    × SortFails "{'m':' asc'}" bad_parameter
    × SortFails "{'m':7}" bad_parameter
    × SortFails "{}" bad_parameter
    × SortFails "{'m':'asc','count':'asc'}" bad_parameter
    × SortFails "{'z':'up'}" bad_parameter
unfolding walked
objects = (refl, refl, refl, refl, refl, refl, refl, refl, refl, refl, refl, refl, refl)

-- other values
pub other_values :
    SortFails "7" bad_parameter
    × SortFails "null" bad_parameter
    × SortFails "['m']" bad_parameter
    × SortFails "true" bad_parameter
unfolding walked
other_values = (refl, refl, refl, refl)
