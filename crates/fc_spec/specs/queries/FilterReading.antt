-- Filters and their tags: a text, or an object of one member. Guide: Faceting, "Tagging and Excluding Filters".
use Rattle.std.specs.Prelude.{ℕ, List, [], length, drop, codes, Bool, not, ◌&&◌, ◌||◌, ◌==◌, nat_lt, Option, None, Some, option_map, unwrap_or, Result, Ok, Err, ok_or, if◌then◌else◌}
use Rattle.std.specs.List.{list_all, slice_split, starts_with, position_or_len, before_first, after_first}
use Rattle.serde_json.specs.Data.{Data, string}
use Rattle.fc_spec.specs.documents.Val.{Text}
use Rattle.fc_spec.specs.scripts.JsonObjects.{sole_member}
use Rattle.fc_spec.specs.words.Lists.{is_empty}
use Rattle.fc_spec.specs.documents.Schema.{Schema}
use Rattle.fc_spec.specs.documents.SchemaReading.{is_name_byte}
use Rattle.fc_spec.specs.queries.Query.{Query}
use Rattle.fc_spec.specs.requests.Request.{Filter}
use Rattle.fc_spec.specs.queries.QueryFault.{QueryFault, syntax, FilterFault, shape, query}
use Rattle.fc_spec.specs.queries.QueryTexts.{query_of}
use Rattle.fc_spec.specs.words.Walks.{◌>>=◌}

-- an ASCII letter or digit, `_`, `-`, `.`
abbrev pub is_tag_byte : ℕ → Bool
is_tag_byte b = is_name_byte b || b == 45 || b == 46

abbrev pub is_tag : Text → Bool
is_tag t = not (is_empty t) && list_all is_tag_byte t

-- the tags between the commas of a text, where each is one
unfoldable pub tags_of : Text → Option (List Text)
tags_of t = let parts = slice_split (λ b. b == 44) t in if list_all is_tag parts then Some parts else None

-- the tags of a list, and the query text
abbrev pub tagged : (list query_text : Text) → Result (List Text × Text) FilterFault
tagged list query_text = ok_or (option_map (λ tags. (tags, query_text)) (tags_of list)) (query syntax)

-- what is behind this front, where it stands
abbrev pub past_front : (front t : Text) → Option Text
past_front front t = if starts_with (◌==◌) t front then Some (drop (length front) t) else None

-- what stands before the first of this byte, and what behind it, where there is one
abbrev pub cut_at : ℕ → Text → Option (Text × Text)
cut_at b t = let is_it = λ (c : ℕ). c == b in if nat_lt (position_or_len is_it t) (length t) then Some (before_first is_it t, after_first is_it t) else None

-- behind `{!tag=`: tags up to the first `}`, and then the query text
unfoldable pub local_tags : Text → Result (List Text × Text) FilterFault
local_tags t = unwrap_or (option_map (λ cut. tagged cut.0 cut.1) (cut_at 125 t)) (Err (query syntax))

-- a text; any other that begins with `{!` is a query text without a tree
unfoldable pub text_filter : Text → Result (List Text × Text) FilterFault
text_filter t = unwrap_or (option_map local_tags (past_front (codes "{!tag=") t)) (Ok ([], t))

-- a member: its key is `#` and then tags, its value the query text
unfoldable pub member_filter : (key query_text : Text) → Result (List Text × Text) FilterFault
member_filter key query_text = unwrap_or (option_map (λ list. tagged list query_text) (past_front (codes "#") key)) (Err shape)

-- an object's only member, where there is one
unfoldable pub object_filter : Option (Text × Data) → Result (List Text × Text) FilterFault
object_filter (Some (key, string t)) = member_filter key t
object_filter _ = Err shape

-- the tags and the query text of a filter
unfoldable pub filter_parts : Data → Result (List Text × Text) FilterFault
filter_parts (string t) = text_filter t
filter_parts d = object_filter (sole_member d)

-- with what its query text means
abbrev pub filter_with : List Text → Result Query QueryFault → Result Filter FilterFault
filter_with tags (Ok q) = Ok (record { tags = tags; query = q })
filter_with tags (Err e) = Err (query e)

-- what tags and a query text mean for a schema, or the fault; one of the tags comes before those of the query text
abbrev pub filter_by : Schema → Result (List Text × Text) FilterFault → Result Filter FilterFault
filter_by s parts = do
  p ← parts
  filter_with p.0 (query_of s p.1)

-- what a filter means for a schema, or its fault
abbrev pub filter_of : Schema → Data → Result Filter FilterFault
filter_of s d = filter_by s (filter_parts d)
