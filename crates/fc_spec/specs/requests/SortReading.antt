-- The sort that a terms facet asks for. Guide: JSON Facet API, "Terms Facet" (`sort`); Sorting Facets By Nested Functions.
use Rattle.std.specs.Prelude.{ℕ, suc, ◌-◌, length, take, codes, Bool, true, false, not, ◌||◌, ◌&&◌, ◌==◌, nat_eq, Option, None, Some, option_map, ok_or, unwrap_or, Result, Ok, if◌then◌else◌}
use Rattle.std.specs.List.{ends_with}
use Rattle.std.specs.Option.{option_and_then}
use Rattle.serde_json.specs.Data.{Data, string, Members}
use Rattle.fc_spec.specs.documents.Val.{Text, same_text}
use Rattle.fc_spec.specs.scripts.JsonObjects.{sole_member}
use Rattle.fc_spec.specs.requests.Request.{SortKey, by_count, by_index, by_statistic, Sort, Nodes, no_nodes, statistic, facet}
use Rattle.fc_spec.specs.requests.RequestFault.{QFault, bad_parameter, unknown_sort}
use Rattle.fc_spec.specs.requests.RequestWalk.{optional}
use Rattle.fc_spec.specs.requests.StatisticReading.{stripped}
use Rattle.fc_spec.specs.words.Walks.{◌>>=◌}

-- what is sorted by, by its name, and whether descending, where that is said
pub record NamedSort : Type 0 where
  pub name : Text
  pub descending : Option Bool

-- space, tab, LF or CR
abbrev pub is_white : ℕ → Bool
is_white b = b == 32 || b == 9 || b == 10 || b == 13

-- the text ends in this
abbrev pub ends_in : (end t : Text) → Bool
ends_in end t = ends_with nat_eq t end

-- the text without so many bytes at its end, stripped
abbrev pub without_end : ℕ → Text → Text
without_end n t = stripped is_white (take (length t - n) t)

-- a stripped text: a space and `asc` or `desc` at its end are the direction, and the name stands in front; else all of it is the name
abbrev pub split_sort : Text → NamedSort
split_sort t =
    if ends_in (codes " asc") t then record { name = without_end 4 t; descending = Some false }
    else (if ends_in (codes " desc") t then record { name = without_end 5 t; descending = Some true }
    else record { name = t; descending = None })

-- a direction
abbrev pub direction_of : Data → Option Bool
direction_of (string t) = if same_text t (codes "asc") then Some false else (if same_text t (codes "desc") then Some true else None)
direction_of _ = None

-- an object's only member: its name as it stands, and its direction
abbrev pub member_sort : Text × Data → Option NamedSort
member_sort found = option_map (λ d. record { name = found.0; descending = Some d }) (direction_of found.1)

abbrev pub named_sort : Data → Result NamedSort QFault
named_sort (string t) = Ok (split_sort (stripped is_white t))
named_sort d = ok_or (option_and_then member_sort (sole_member d)) bad_parameter

-- the number of the first statistic of this name among those of the nodes
abbrev pub statistic_number : Text → Nodes → Option ℕ
statistic_number name no_nodes = None
statistic_number name (statistic n s rest) = if same_text name n then Some 0 else option_map (λ k. suc k) (statistic_number name rest)
statistic_number name (facet f inner rest) = statistic_number name rest

-- `count`, `index`, or a statistic directly under the facet
abbrev pub sort_key : Text → Nodes → Option SortKey
sort_key name inner =
    if same_text name (codes "count") then Some by_count
    else (if same_text name (codes "index") then Some by_index
    else option_map by_statistic (statistic_number name inner))

-- without a direction ascending for `index`, descending for any other
abbrev pub is_descending : NamedSort → Bool
is_descending n = unwrap_or n.descending (not (same_text n.name (codes "index")))

abbrev pub sort_of : Nodes → Data → Result Sort QFault
sort_of inner d = do
  n ← named_sort d
  key ← ok_or (sort_key n.name inner) unknown_sort
  Ok (record { by = key; descending = is_descending n })

-- by count, descending, where nothing is said
abbrev pub default_sort : Sort
default_sort = record { by = by_count; descending = true }

abbrev pub sort_in : Nodes → Members → Result Sort QFault
sort_in inner ms = optional (codes "sort") (sort_of inner) default_sort ms

-- by count, the greatest first
abbrev pub is_by_count : SortKey → Bool
is_by_count by_count = true
is_by_count _ = false

abbrev pub sorts_by_count : Sort → Bool
sorts_by_count s = is_by_count s.by && s.descending

-- what is refined exactly stands outermost and is sorted so
abbrev pub allows_exact : (outermost exact : Bool) → Sort → Bool
allows_exact outermost exact s = not exact || (outermost && sorts_by_count s)
