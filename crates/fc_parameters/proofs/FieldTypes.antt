-- The type of a field, as tests see it.
use Rattle.std.proofs.Common.{◌≡◌, ℕ, ap, Bool, false, Option, None, Some, option_map}
use Rattle.std.specs.Prelude.{slice_get, unwrap_or}
use Rattle.fc_spec.specs.documents.Schema.{Schema, FieldType, Field}
use Rattle.fc_spec.specs.requests.StatisticReading.{has_type}

passes : (found : Option Field) (test : FieldType → Bool) (kind : FieldType) → option_map (λ f. f.kind) found ≡ Some kind → unwrap_or (option_map (λ f. test f.kind) found) false ≡ test kind
passes None test kind is = cc
passes (Some f) test kind is = let same : f.kind ≡ kind = cc in ap test same

-- a field's type passes a test just where the type that the schema answers does
pub type_passes : (s : Schema) (test : FieldType → Bool) (n : ℕ) (kind : FieldType) → option_map (λ f. f.kind) (slice_get s.fields n) ≡ Some kind → has_type s test n ≡ test kind
type_passes s test n kind is = passes (slice_get s.fields n) test kind is
