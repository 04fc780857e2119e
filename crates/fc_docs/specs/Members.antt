-- What a member stands for: the field that has its values.
use Rattle.std.specs.Prelude.{ℕ, length, ◌&&◌, nat_le, Option, None, Some, option_map, ok_or, Result, Ok, if◌then◌else◌}
use Rattle.serde_json.specs.Data.{Data}
use Rattle.fc_spec.specs.documents.Val.{Text, same_text}
use Rattle.fc_spec.specs.documents.Schema.{Schema, field_named}
use Rattle.fc_spec.specs.documents.SchemaReading.{is_underscored}
use Rattle.fc_spec.specs.documents.DocFault.{DocFault, unknown_field}
use Rattle.fc_spec.specs.words.Walks.{◌>>=◌}
use Rattle.fc_spec.specs.documents.BlockReading.{Role, check_children, children_key}

-- the number of the field that has a member's values; none where the member gives none
abbrev pub field_given : Role → Schema → Text → Data → Result (Option ℕ) DocFault
field_given role s key d =
    if same_text key children_key then (check_children role d >>= λ _. Ok None)
    else (if nat_le 2 (length key) && is_underscored key then Ok None
    else ok_or (option_map (λ n. Some n) (field_named s key)) unknown_field)
