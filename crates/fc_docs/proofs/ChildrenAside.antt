-- The reading of a parent passes over its children, so they can be taken out of its members before.
use Rattle.std.proofs.Common.{◌≡◌, List, [], ◌∷◌, map, All, Bool, true, false, cond, Option, Some, None, option_map, unwrap_or, Result, Ok, Err, String, Global, string_bytes, sym, ◌∙◌, ap, refl, nat_cmp, rules}
use Rattle.std.specs.Cmp.Lexicographic.{slice_cmp}
use Rattle.std.specs.Map.{lookup, remove_entry}
use Rattle.std.specs.Ordering.{match_ordering}
use Rattle.std.proofs.lemmas.List.Elements.{All-head, All-tail}
use Rattle.serde_json.specs.Data.{Data, object, null}
use Rattle.serde_json.specs.Find.{get_member}
use Rattle.serde_json.specs.View.{view, members_view}
use Rattle.serde_json.specs.declared.value.Value.{Value, the_lemmas}
use Rattle.serde_json.specs.declared.value.Value.TheVariants.{Null}
use Rattle.serde_json.proofs.Views.{Entry, view-lookup, member_later}
use Rattle.fc_spec.specs.documents.Val.{Text, same_text}
use Rattle.fc_spec.specs.documents.DocFault.{DocFault}
use Rattle.fc_spec.specs.documents.Document.{Block, Document}
use Rattle.fc_spec.specs.documents.Schema.{Field, Schema}
use Rattle.fc_spec.specs.documents.SchemaReading.{is_field_name}
use Rattle.fc_spec.specs.words.Walks.{◌>>=◌}
use Rattle.fc_spec.specs.documents.BlockReading.{as_parent, block_of, check_members, child_documents, children_key, document_of_members, field_values, member_values}
use Rattle.fc_base.specs.ValidSchema.{IsFieldList}
use Rattle.fc_spec.proofs.words.Texts.{equal}
use Rattle.fc_docs.proofs.MemberFields.{no_name}

abbrev pub is_children : String Global → Bool
is_children k = same_text children_key (string_bytes k)

abbrev pub without_children : List Entry → List Entry
without_children es = remove_entry is_children es

-- ---- the members that are left
passed_over : (s : Schema) (k : String Global) (d : Data) → is_children k ≡ true → member_values as_parent s (string_bytes k) d ≡ Ok []
passed_over s k d is = rw (← equal children_key (string_bytes k) is) refl

check_without : (s : Schema) (es : List Entry) → check_members as_parent s (members_view (without_children es)) ≡ check_members as_parent s (members_view es)
check_without s [] = refl
check_without s (e ∷ es) = go (is_children e.0) refl (check_without s es)
  where
    go : (b : Bool) → is_children e.0 ≡ b → check_members as_parent s (members_view (without_children es)) ≡ check_members as_parent s (members_view es)
        → check_members as_parent s (members_view (cond b es (e ∷ without_children es))) ≡ check_members as_parent s (members_view (e ∷ es))
    go true is later = rw (passed_over s e.0 (view e.1) is) refl
    go false is later = ap (λ rest. member_values as_parent s (string_bytes e.0) (view e.1) >>= λ _. rest) later

get_without : (name : Text) (es : List Entry) → (name ≡ children_key → ⊥) → get_member name (members_view (without_children es)) ≡ get_member name (members_view es)
get_without name [] other = refl
get_without name (e ∷ es) other = go (is_children e.0) refl (get_without name es other)
  where
    go : (b : Bool) → is_children e.0 ≡ b → get_member name (members_view (without_children es)) ≡ get_member name (members_view es)
        → get_member name (members_view (cond b es (e ∷ without_children es))) ≡ get_member name (members_view (e ∷ es))
    go true is later = sym (member_later name e es (λ same. other (same ∙ sym (equal children_key (string_bytes e.0) is))))
    go false is later = ap (λ found. match_ordering (slice_cmp nat_cmp name (string_bytes e.0)) found (Some (view e.1)) found) later

no_field : (name : Text) → is_field_name name ≡ true → name ≡ children_key → ⊥
no_field name good is = no_name name good (rw is refl)

fields_without : (fields : List Field) (es : List Entry) → All (λ f. is_field_name f.name ≡ true) fields → map (field_values (members_view (without_children es))) fields ≡ map (field_values (members_view es)) fields
fields_without [] es names = refl
fields_without (f ∷ fs) es names =
    let named = λ (g : Field). is_field_name g.name ≡ true in
    rw (get_without f.name es (no_field f.name (All-head named f fs names)), fields_without fs es (All-tail named f fs names)) refl

parent_without : (s : Schema) (es : List Entry) → IsFieldList s.fields → document_of_members as_parent s (members_view (without_children es)) ≡ document_of_members as_parent s (members_view es)
parent_without s es list = rw (check_without s es, fields_without s.fields es list.names) refl

-- ---- the children that were taken out
seen_or_null : (found : Option Value) → view (unwrap_or found Null) ≡ unwrap_or (option_map view found) null
seen_or_null None = search (rules, the_lemmas)
seen_or_null (Some v) = refl

pub taken : (es : List Entry) (found : Option Value) → found ≡ lookup is_children es → view (unwrap_or found Null) ≡ unwrap_or (get_member children_key (members_view es)) null
taken es found is = seen_or_null found ∙ ap (λ o. unwrap_or (option_map view o) null) is ∙ ap (λ o. unwrap_or o null) (view-lookup children_key es)

-- ---- the block of both
abbrev with_children : Result (List Document) DocFault → Document → Result Block DocFault
with_children children parent = children >>= λ some. Ok (record { children = some; parent = parent })

block_parts : (s : Schema) (es : List Entry) (children : Data) → IsFieldList s.fields → children ≡ unwrap_or (get_member children_key (members_view es)) null
    → block_of s (object (members_view es)) ≡ (document_of_members as_parent s (members_view (without_children es)) >>= with_children (child_documents s children))
block_parts s es children list is = rw (is, parent_without s es list) refl

pub bad_parent : (s : Schema) (es : List Entry) (children : Data) (e : DocFault) → IsFieldList s.fields → children ≡ unwrap_or (get_member children_key (members_view es)) null
    → document_of_members as_parent s (members_view (without_children es)) ≡ Err e → block_of s (object (members_view es)) ≡ Err e
bad_parent s es children e list is bad = block_parts s es children list is ∙ rw bad refl

pub bad_children : (s : Schema) (es : List Entry) (children : Data) (parent : Document) (e : DocFault) → IsFieldList s.fields → children ≡ unwrap_or (get_member children_key (members_view es)) null
    → document_of_members as_parent s (members_view (without_children es)) ≡ Ok parent → child_documents s children ≡ Err e → block_of s (object (members_view es)) ≡ Err e
bad_children s es children parent e list is good bad = block_parts s es children list is ∙ rw (good, bad) refl

pub whole_block : (s : Schema) (es : List Entry) (children : Data) (parent : Document) (some : List Document) → IsFieldList s.fields → children ≡ unwrap_or (get_member children_key (members_view es)) null
    → document_of_members as_parent s (members_view (without_children es)) ≡ Ok parent → child_documents s children ≡ Ok some → block_of s (object (members_view es)) ≡ Ok (record { children = some; parent = parent })
whole_block s es children parent some list is good all = block_parts s es children list is ∙ rw (good, all) refl
