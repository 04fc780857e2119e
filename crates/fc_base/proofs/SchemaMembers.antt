-- The two members of a schema.
use Rattle.std.proofs.Common.{◌≡◌, ℕ, List, length, true, false, ◌==◌, Some, None, option_and_then, String, Global, refl, arith}
use Rattle.std.proofs.lemmas.Bool.Decides.{nat_tests}
use Rattle.std.specs.Prelude.{codes}
use Rattle.serde_json.specs.Data.{Data, null, boolean, number, string, array, object, Members}
use Rattle.serde_json.specs.Find.{get, as_object}
use Rattle.serde_json.specs.View.{members_view}
use Rattle.serde_json.specs.declared.value.Value.{Value}
use Rattle.fc_spec.specs.documents.Schema.{Field}
use Rattle.fc_spec.specs.scripts.JsonObjects.{member_count}
use Rattle.fc_spec.specs.documents.SchemaReading.{shards_of, fields_of, with_id, schema_of}
use Rattle.fc_base.proofs.JsonObjects.{count-members_view}

pub not_two_members : (es : List (String Global × Value)) (n : ℕ) → n ≡ length es → (n ≡ 2 → ⊥) → (member_count (members_view es) == 2) ≡ false
not_two_members es n is other = rw (count-members_view es, ← is) (grind (arith, nat_tests))

pub two_members : (es : List (String Global × Value)) (n : ℕ) → n ≡ length es → n ≡ 2 → (member_count (members_view es) == 2) ≡ true
two_members es n is two = rw (count-members_view es, ← is, two) refl

pub not_two : (d : Data) (ms : Members) → Some ms ≡ as_object d → (member_count ms == 2) ≡ false → schema_of d ≡ None
not_two d ms is count = rw (← is, count) refl

pub schema_is : (d : Data) (ms inner : Members) (shards : ℕ) (fields : List Field) → Some ms ≡ as_object d → (member_count ms == 2) ≡ true → option_and_then shards_of (get (codes "shards") d) ≡ Some shards → option_and_then as_object (get (codes "fields") d) ≡ Some inner → option_and_then with_id (fields_of inner) ≡ Some fields → schema_of d ≡ Some (record { shards = shards; fields = fields })
schema_is (object ns) ms inner shards fields is count shards_is inner_is fields_are =
    let same : ms ≡ ns = cc in
    rw (← same) (rw (count) (rw (same, shards_is, inner_is, fields_are) refl))
schema_is null ms inner shards fields is count shards_is inner_is fields_are = cc
schema_is (boolean b) ms inner shards fields is count shards_is inner_is fields_are = cc
schema_is (number n) ms inner shards fields is count shards_is inner_is fields_are = cc
schema_is (string t) ms inner shards fields is count shards_is inner_is fields_are = cc
schema_is (array items) ms inner shards fields is count shards_is inner_is fields_are = cc
