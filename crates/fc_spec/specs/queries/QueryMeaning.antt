-- What a tree means for a schema, and its faults. Guide: Standard Query Parser, "Boolean Operators Supported by the Standard Query Parser", "Range Searches", "Existence Searches".
use Rattle.std.specs.Prelude.{ℕ, Bool, true, false, ◌&&◌, ◌||◌, Option, None, Some, is_none, option_map, slice_get, Result, Err, ok_or, if◌then◌else◌}
use Rattle.fc_spec.specs.documents.Val.{Text, Val, text, long}
use Rattle.fc_spec.specs.documents.Schema.{FieldType, string, strings, plong, plongs, pdate, pdates, Schema, field_named}
use Rattle.fc_spec.specs.documents.IntegerTexts.{long_of}
use Rattle.fc_spec.specs.dates.DateTexts.{canonical_of}
use Rattle.fc_spec.specs.queries.Query.{Bound, unbounded, including, excluding, Need, must, must_not, may, Query, all, has, is, between, group, Clauses, no_clauses, clause as query_clause}
use Rattle.fc_spec.specs.queries.QueryTokens.{WrittenRange, Value, word, quoted, range, star, Sign, plus, minus, exclamation, negation, Operator, and, or}
use Rattle.fc_spec.specs.queries.QueryTrees.{Atom, plain, everything, nested, Group, no_more, clause}
use Rattle.fc_spec.specs.words.Options.{◌>>=◌}
use Rattle.fc_spec.specs.queries.QueryFault.{QueryFault, mixed_operators, unknown_field, bad_value}

abbrev pub is_and : Option Operator → Bool
is_and (Some and) = true
is_and _ = false

abbrev pub is_or : Option Operator → Bool
is_or (Some or) = true
is_or _ = false

-- a clause of the group itself stands behind AND, or behind OR
abbrev pub has_and : Group → Bool
has_and no_more = false
has_and (clause o s a g) = is_and o || has_and g

abbrev pub has_or : Group → Bool
has_or no_more = false
has_or (clause o s a g) = is_or o || has_or g

-- AND and OR stand in the group itself
abbrev pub has_both : Group → Bool
has_both g = has_and g && has_or g

abbrev mutual
  -- they stand together in a group inside it
  pub mixes_inside : Group → Bool
  mixes_inside no_more = false
  mixes_inside (clause o s a g) = atom_mixes a || mixes_inside g

  pub atom_mixes : Atom → Bool
  atom_mixes (plain n v) = false
  atom_mixes everything = false
  atom_mixes (nested n g) = has_both g || mixes_inside g

-- somewhere they stand together in one group
abbrev pub mixes : Group → Bool
mixes g = has_both g || mixes_inside g

-- it is a name, and no field has it
abbrev pub is_unknown : Schema → Option Text → Bool
is_unknown s None = false
is_unknown s (Some n) = is_none (field_named s n)

abbrev mutual
  -- somewhere a name is no field's
  pub has_unknown : Schema → Group → Bool
  has_unknown s no_more = false
  has_unknown s (clause o sign a g) = atom_has_unknown s a || has_unknown s g

  pub atom_has_unknown : Schema → Atom → Bool
  atom_has_unknown s (plain n v) = is_unknown s n
  atom_has_unknown s everything = false
  atom_has_unknown s (nested n g) = is_unknown s n || has_unknown s g

-- the value of a field of this type that a text writes
abbrev pub written_value : FieldType → Text → Option Val
written_value string t = Some (text t)
written_value strings t = Some (text t)
written_value plong t = option_map long (long_of t)
written_value plongs t = option_map long (long_of t)
written_value pdate t = option_map text (canonical_of t)
written_value pdates t = option_map text (canonical_of t)

-- a range's bound from its end, which is in the range or not
abbrev pub written_bound : FieldType → (has_end : Bool) → Option Text → Option Bound
written_bound kind has_end None = Some unbounded
written_bound kind has_end (Some t) = option_map (if has_end then including else excluding) (written_value kind t)

-- between two ends; between two stars stands every value
abbrev pub range_query : (field : ℕ) → FieldType → WrittenRange → Option Query
range_query field kind r = if is_none r.low && is_none r.high then Some (has field) else do
  low ← written_bound kind r.has_low r.low
  high ← written_bound kind r.has_high r.high
  Some (between field low high)

-- what a value means in a field, unless it is none of the field's
abbrev pub value_query : (field : ℕ) → FieldType → Value → Option Query
value_query field kind (word t) = option_map (is field) (written_value kind t)
value_query field kind (quoted t) = option_map (is field) (written_value kind t)
value_query field kind (range r) = range_query field kind r
value_query field kind star = Some (has field)

-- what a value means in a field, where there is the field
abbrev pub plain_query : Schema → (field : Option ℕ) → Value → Option Query
plain_query s at v = do
  number ← at
  field ← slice_get s.fields number
  value_query number field.kind v

-- the field of a name; without a name that of the group around it
abbrev pub field_under : Schema → (around : Option ℕ) → Option Text → Option ℕ
field_under s around None = around
field_under s around (Some n) = field_named s n

-- the operator before the next clause
abbrev pub next_operator : Group → Option Operator
next_operator no_more = None
next_operator (clause o s a g) = o

-- `+` makes a clause required; `-`, `!` and NOT make it forbidden; AND makes those before and behind it required unless they are forbidden
abbrev pub need_of : Option Sign → (before behind : Option Operator) → Need
need_of (Some plus) before behind = must
need_of (Some minus) before behind = must_not
need_of (Some exclamation) before behind = must_not
need_of (Some negation) before behind = must_not
need_of None before behind = if is_and before || is_and behind then must else may

-- one optional clause is its query; any others are a group
abbrev pub grouped : Clauses → Query
grouped (query_clause may q no_clauses) = q
grouped cs = group cs

abbrev mutual
  -- the clauses of a group, unless a value is none of its field; `around` is the field of the group around it
  pub clauses_query : Schema → (around : Option ℕ) → Group → Option Clauses
  clauses_query s around no_more = Some no_clauses
  clauses_query s around (clause o sign a g) = do
    q ← atom_query s around a
    cs ← clauses_query s around g
    Some (query_clause (need_of sign o (next_operator g)) q cs)

  pub atom_query : Schema → (around : Option ℕ) → Atom → Option Query
  atom_query s around (plain n v) = plain_query s (field_under s around n) v
  atom_query s around everything = Some all
  atom_query s around (nested n g) = option_map grouped (clauses_query s (field_under s around n) g)

-- the query of a whole text's tree, unless a value is none of its field
abbrev pub group_query : Schema → Group → Option Query
group_query s g = option_map grouped (clauses_query s None g)

-- the query of a text's tree; each kind of fault counts, wherever it stands, before the next kind
abbrev pub tree_query : Schema → Group → Result Query QueryFault
tree_query s g =
    if mixes g then Err mixed_operators
    else if has_unknown s g then Err unknown_field
    else ok_or (group_query s g) bad_value
