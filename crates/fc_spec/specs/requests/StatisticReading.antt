-- The statistic that a text asks for. Guide: JSON Facet API, "Stat Facet Functions".
use Rattle.std.specs.Prelude.{ℕ, ◌-◌, List, length, take, drop, codes, Bool, true, false, not, ◌&&◌, ◌||◌, ◌==◌, Option, None, Some, option_map, ok_or, unwrap_or, Result, Ok, if◌then◌else◌}
use Rattle.std.specs.Option.{option_and_then}
use Rattle.std.specs.List.{list_all, slice_get, prefix_len, suffix_len}
use Rattle.fc_spec.specs.documents.Val.{Text, same_text}
use Rattle.fc_spec.specs.words.Lists.{is_empty}
use Rattle.fc_spec.specs.documents.Schema.{Schema, FieldType, field_named, holds_texts}
use Rattle.fc_spec.specs.documents.SchemaReading.{is_name_byte}
use Rattle.fc_spec.specs.requests.Request.{StatKind, sum, min, max, countvals, missing, Stat}
use Rattle.fc_spec.specs.requests.RequestFault.{QFault, unknown_field, bad_statistic, wrong_field_type}
use Rattle.fc_spec.specs.queries.FilterReading.{cut_at}
use Rattle.fc_spec.specs.words.Walks.{◌>>=◌, unless}

-- the list without the members at its two ends that pass the test
abbrev pub stripped : {X : Type 0} → (X → Bool) → List X → List X
stripped p xs = let rest = drop (prefix_len p xs) xs in take (length rest - suffix_len p rest) rest

abbrev pub is_space : ℕ → Bool
is_space b = b == 32

-- the kind of statistic of this name
abbrev pub statistic_named : Text → Option StatKind
statistic_named t =
    if same_text t (codes "sum") then Some sum
    else (if same_text t (codes "min") then Some min
    else (if same_text t (codes "max") then Some max
    else (if same_text t (codes "countvals") then Some countvals
    else (if same_text t (codes "missing") then Some missing else None))))

-- `sum`, `min` and `max` are of integers
abbrev pub takes_texts : StatKind → Bool
takes_texts countvals = true
takes_texts missing = true
takes_texts _ = false

-- one or more letters, digits and `_`
abbrev pub is_row : Text → Bool
is_row t = not (is_empty t) && list_all is_name_byte t

-- there is a field with this number, of a type that the test passes
abbrev pub has_type : Schema → (FieldType → Bool) → ℕ → Bool
has_type s test field = unwrap_or (option_map (λ f. test f.kind) (slice_get s.fields field)) false

-- a name, `(`, a row of letters, digits and `_`, and `)`, with spaces allowed between all parts and at both ends: the name and the row
abbrev pub called : Text → Option (Text × Text)
called t =
    option_and_then (λ opened. option_and_then (λ closed.
    if list_all is_space closed.1 && is_row (stripped is_space closed.0) then Some (stripped is_space opened.0, stripped is_space closed.0) else None)
    (cut_at 41 opened.1)) (cut_at 40 t)

-- the name of the field whose different values are counted, where the text is a `unique`
abbrev pub unique_called : Text → Option Text
unique_called t = option_and_then (λ call. if same_text call.0 (codes "unique") then Some call.1 else None) (called t)

-- what is called is a statistic; its field is there, and of integers where the statistic asks for them
abbrev pub statistic_of : Schema → Text → Result Stat QFault
statistic_of s t = do
  call ← ok_or (called t) bad_statistic
  kind ← ok_or (statistic_named call.0) bad_statistic
  field ← ok_or (field_named s call.1) unknown_field
  _ ← unless (takes_texts kind || has_type s (λ k. not (holds_texts k)) field) wrong_field_type
  Ok (record { of = kind; field = field })
