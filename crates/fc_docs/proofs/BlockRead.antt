-- Blocks that are read from tokens.
use Rattle.std.proofs.Common.{◌≡◌, ◌≤◌, ◌<◌, ◌-◌, List, [], ◌∷◌, length, Bool, Option, Some, None, IfSome, unwrap_or, Result, Ok, Err, IfOk, Vec, Global, arith, sym, ◌∙◌, ap, refl}
use Rattle.std.proofs.lemmas.List.Elements.{All-nil}
use Rattle.json.specs.Token.{Token}
use Rattle.json.specs.Json.{parse_map, value}
use Rattle.json.proofs.Grammar.{read_key-shorter}
use Rattle.serde_json.specs.Data.{Members, null, object, no_members, put}
use Rattle.serde_json.specs.Find.{get_member}
use Rattle.serde_json.specs.Read.{converted, of_json}
use Rattle.serde_json.proofs.Views.{get_member-put}
use Rattle.fc_spec.specs.documents.Document.{Document, values_of}
use Rattle.fc_spec.specs.documents.Schema.{Schema}
use Rattle.fc_spec.specs.documents.BlockReading.{as_parent, child_documents, children_key, document_of}
use Rattle.fc_spec.specs.documents.ValidBlocks.{IsDocumentOf}
use Rattle.fc_base.specs.ValidSchema.{IsFieldList}
use Rattle.fc_docs.specs.Direct.{Given, GivesBlock, document_given}
use Rattle.fc_docs.specs.DirectState.{AreRead, GivesFamily, GivesRest, StopsAt}
use Rattle.fc_docs.proofs.DocumentRead.{is_document, is_read}
use Rattle.fc_docs.proofs.JsonTokens.{member_read, object_opened}
use Rattle.fc_docs.proofs.MembersOver.{all_over}
use Rattle.fc_docs.proofs.MembersRead.{one_silent}

-- ---- the members of a parent
pub alone : (s : Schema) (old new : List Token) (given after : Given) (seen seen_after : List Bool) → AreRead as_parent s no_members given seen → StopsAt s None old new given after seen seen_after → GivesFamily s old new after seen_after []
alone s old new given after seen seen_after start stops =
    let whole = stops.so_far.goes as_parent no_members start in
    record {
      all = whole.all;
      read = whole.read;
      documents = ap (λ o. child_documents s (unwrap_or o null)) whole.children;
      valid = All-nil (IsDocumentOf s);
      ends = λ depth enough. all_over as_parent s no_members old stops.before new after seen_after whole stops.stop depth (length old) (omega arith) (omega arith);
    }

with_children : (s : Schema) (old middle new : List Token) (given between after : Given) (seen seen_between seen_after : List Bool) (ds : List Document) → IsFieldList s.fields → AreRead as_parent s no_members given seen
    → StopsAt s (Some children_key) old middle given between seen seen_between → GivesRest s middle new between after seen_between seen_after ds → GivesFamily s old new after seen_after ds
with_children s old middle new given between after seen seen_between seen_after ds list start stops gives =
    let so_far = stops.so_far.goes as_parent no_members start in
    let d = gives.children.said in
    let found : Members = put children_key d so_far.all in
    let whole = gives.rest.so_far.goes as_parent found (one_silent as_parent s so_far.all between seen_between children_key d list refl so_far.read) in
    let at_key : get_member children_key whole.all ≡ Some d = whole.children ∙ get_member-put children_key d so_far.all in
    let less : length middle < length stops.before = read_key-shorter stops.before (Some children_key) middle stops.stop in
    let shorter : length gives.middle < length middle = gives.shorter in
    record {
      all = whole.all;
      read = whole.read;
      documents = ap (λ o. child_documents s (unwrap_or o null)) at_key ∙ gives.children.documents;
      valid = gives.children.valid;
      ends = λ depth enough.
          let turns = so_far.over depth (length old) (omega arith) (omega arith) in
          let more : length stops.before ≤ turns.0 = turns.1 in
          turns.2 ∙ member_read (value depth) so_far.all turns.0 children_key stops.before middle gives.middle d (omega arith) stops.stop (gives.children.spells depth enough)
          ∙ all_over as_parent s found gives.middle gives.rest.before new after seen_after whole gives.rest.stop depth (turns.0 - 1) (omega arith) (omega arith);
    }

pub family_told : {E : Type 0} (s : Schema) (old middle new : List Token) (given between after : Given) (seen seen_between seen_after : List Bool) (told : Result (Option (Vec Document Global)) E) → IsFieldList s.fields → AreRead as_parent s no_members given seen
    → StopsAt s (Some children_key) old middle given between seen seen_between → IfOk told (λ found. IfSome found (λ ds. GivesRest s middle new between after seen_between seen_after ds.items)) → IfOk told (λ found. IfSome found (λ ds. GivesFamily s old new after seen_after ds.items))
family_told s old middle new given between after seen seen_between seen_after (Ok (Some ds)) list start stops gives = with_children s old middle new given between after seen seen_between seen_after ds.items list start stops gives
family_told s old middle new given between after seen seen_between seen_after (Ok None) list start stops gives = tt
family_told s old middle new given between after seen seen_between seen_after (Err e) list start stops gives = tt

-- ---- the block
pub whole_block : (s : Schema) (old rest new : List Token) (after : Given) (seen_after : List Bool) (ds : List Document) (d : Document) → IsFieldList s.fields → old ≡ Token.begin_object ∷ rest → GivesFamily s rest new after seen_after ds
    → d ≡ document_given (length s.fields) after → 0 < length (values_of d 0) → GivesBlock s old new (record { children = ds; parent = d })
whole_block s old rest new after seen_after ds d list first family is some =
    let id : 0 < length (values_of (document_given (length s.fields) after) 0) = rw (← is) some in
    let parent : document_of as_parent s (object family.all) ≡ Ok d = is_read as_parent s family.all after seen_after family.read id ∙ ap Ok (sym is) in
    record {
      said = object family.all;
      spells = λ depth enough. ap (λ ts. converted of_json (value depth ts)) first ∙ object_opened depth rest (omega arith) ∙ ap (parse_map object) (family.ends (depth - 1) (omega arith));
      block = rw (parent, family.documents) refl;
      valid = record { children = family.valid; parent = rw is (is_document as_parent s family.all after seen_after family.read list id) };
    }
