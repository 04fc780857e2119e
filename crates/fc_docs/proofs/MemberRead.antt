-- One member of a document, from what was read of its value.
use Rattle.std.proofs.Common.{◌≡◌, ◌<◌, ◌++◌, ℕ, List, length, set, Bool, true, false, Some, option_map, IfOk, Result, Ok, Err, slice_get, slice_index_or, sym, subst}
use Rattle.std.specs.Bool.{OnTrue}
use Rattle.json.specs.Token.{Token}
use Rattle.serde_json.specs.Data.{Data, put}
use Rattle.fc_spec.specs.documents.Val.{Text, Val, same_text}
use Rattle.fc_spec.specs.documents.Schema.{FieldType, Schema, field_named}
use Rattle.fc_spec.specs.documents.BlockReading.{children_key}
use Rattle.fc_base.specs.ValidSchema.{IsFieldList}
use Rattle.fc_docs.specs.Direct.{Given, GivesValues, Spells, giving}
use Rattle.fc_docs.specs.DirectState.{AreRead, GivesMember}
use Rattle.fc_docs.proofs.MemberFields.{is_passed_over, known, passed_over}
use Rattle.fc_docs.proofs.MembersRead.{GivesTo, one_more, one_silent}

pub silent_member : (s : Schema) (key : Text) (old new : List Token) (given : Given) (seen : List Bool) (told : Bool) → IsFieldList s.fields → same_text key children_key ≡ false → is_passed_over key ≡ true
    → OnTrue told ((d : Data) × Spells 1 old new d) → OnTrue told (GivesMember s key old new given given seen seen)
silent_member s key old new given seen false list other over spelled = tt
silent_member s key old new given seen true list other over spelled =
    record { said = spelled.0; spells = spelled.1; read = λ role found. one_silent role s found given seen key spelled.0 list (passed_over role s key spelled.0 other over) }

pub member_of : (s : Schema) (key : Text) (old new : List Token) (given after : Given) (seen : List Bool) (told : Bool) (n : ℕ) (kind : FieldType)
    → IsFieldList s.fields → same_text key children_key ≡ false → is_passed_over key ≡ false → field_named s key ≡ Some n → option_map (λ f. f.kind) (slice_get s.fields n) ≡ Some kind → n < length s.fields → n < length seen → slice_index_or seen n true ≡ false
    → OnTrue told ((vs : List Val) × GivesValues kind old new vs × (after ≡ given ++ giving n vs)) → OnTrue told (GivesMember s key old new given after seen (set seen n true))
member_of s key old new given after seen false n kind list other kept named typed below in_seen not_seen gives = tt
member_of s key old new given after seen true n kind list other kept named typed below in_seen not_seen gives =
    let vs = gives.0 in
    let d = gives.1.said in
    let to_field : GivesTo s key d n kind vs = record { named = named; typed = typed; values = gives.1.values; few = gives.1.few; valid = gives.1.valid } in
    record {
      said = d;
      spells = gives.1.spells;
      read = λ role found read. subst (λ all. AreRead role s (put key d found) all (set seen n true)) (sym gives.2) (one_more role s found given seen key d n kind vs list (known role s key d n other kept named) to_field below in_seen not_seen read);
    }

pub member_told : {E : Type 0} (s : Schema) (key : Text) (old new : List Token) (given after : Given) (seen : List Bool) (told : Result Bool E) (n : ℕ) (kind : FieldType)
    → IsFieldList s.fields → same_text key children_key ≡ false → is_passed_over key ≡ false → field_named s key ≡ Some n → option_map (λ f. f.kind) (slice_get s.fields n) ≡ Some kind → n < length s.fields → n < length seen → slice_index_or seen n true ≡ false
    → IfOk told (λ b. OnTrue b ((vs : List Val) × GivesValues kind old new vs × (after ≡ given ++ giving n vs))) → IfOk told (λ b. OnTrue b (GivesMember s key old new given after seen (set seen n true)))
member_told s key old new given after seen (Ok told) n kind list other kept named typed below in_seen not_seen gives = member_of s key old new given after seen told n kind list other kept named typed below in_seen not_seen gives
member_told s key old new given after seen (Err e) n kind list other kept named typed below in_seen not_seen gives = tt
