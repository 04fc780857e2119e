-- What is looked for in the JSON objects of scripts and requests.
use Rattle.std.specs.Prelude.{ℕ, ◌+◌, List, Bool, true, ◌&&◌, Option, None, Some}
use Rattle.std.specs.Option.{option_and_then}
use Rattle.std.specs.List.{list_any}
use Rattle.serde_json.specs.Data.{Data, object, Members, no_members, member}
use Rattle.serde_json.specs.Find.{as_number, as_u64}
use Rattle.fc_spec.specs.documents.Val.{Text, same_text}

-- a whole number that is not negative
abbrev pub natural_in : Data → Option ℕ
natural_in d = option_and_then as_u64 (as_number d)

abbrev pub member_count : Members → ℕ
member_count no_members = 0
member_count (member k d ms) = member_count ms + 1

-- the name and the value of an object's only member
abbrev pub sole_member : Data → Option (Text × Data)
sole_member (object (member name d no_members)) = Some (name, d)
sole_member _ = None

-- every member has one of these names
abbrev pub only_names : List Text → Members → Bool
only_names names no_members = true
only_names names (member name d ms) = list_any (same_text name) names && only_names names ms
