-- Children that are read from tokens.
use Rattle.std.proofs.Common.{◌≡◌, ◌≤◌, ◌<◌, ◌-◌, ℕ, List, [], ◌∷◌, ◌++◌, length, replicate, All, Bool, false, Option, Some, None, IfSome, Result, Ok, Err, IfOk, Vec, Global, arith, sym, ◌∙◌, ap, refl, subst}
use Rattle.std.proofs.lemmas.List.{append-nil}
use Rattle.std.proofs.lemmas.List.Elements.{All-nil, All-push}
use Rattle.json.specs.Token.{Token}
use Rattle.json.specs.Json.{after_end_array, items, parse_map, value}
use Rattle.serde_json.specs.Data.{Data, Items, array, item, no_items, null, object, no_members}
use Rattle.serde_json.specs.Read.{converted, of_items, of_json}
use Rattle.fc_spec.specs.documents.Document.{Document, values_of}
use Rattle.fc_spec.specs.documents.Schema.{Schema}
use Rattle.fc_spec.specs.words.Walks.{each}
use Rattle.fc_spec.specs.documents.BlockReading.{all_items, as_child, document_of}
use Rattle.fc_spec.specs.documents.ValidBlocks.{IsDocumentOf}
use Rattle.fc_base.specs.ValidSchema.{IsFieldList}
use Rattle.fc_docs.specs.Direct.{Given, document_given}
use Rattle.fc_docs.specs.DirectState.{GivesChild, GivesChildren, GivesEach, GoesOver, StopsAt}
use Rattle.fc_docs.proofs.DocumentRead.{is_document, is_read}
use Rattle.fc_docs.proofs.Items.{behind, behind_nothing, one_more}
use Rattle.fc_docs.proofs.JsonTokens.{array_opened, item_read, items_over, none_before, object_opened, token_alone}
use Rattle.fc_docs.proofs.MembersOver.{all_over}
use Rattle.fc_docs.proofs.MembersRead.{nothing_read}

-- ---- one child
module _ (s : Schema) (rest new : List Token) (given after : Given) (seen_after : List Bool) (none : given ≡ []) (stops : StopsAt s None rest new given after (replicate 256 false) seen_after) where
  whole : GoesOver as_child s no_members rest stops.before after seen_after
  whole = stops.so_far.goes as_child no_members (nothing_read as_child s given 256 none)

  pub child_within : (count : ℕ) → count ≡ length s.fields → All (λ p. p.0 < count) after
  child_within count is = subst (λ n. All (λ p. p.0 < n) after) (sym is) whole.read.within

  one_child : (old : List Token) (d : Document) → IsFieldList s.fields → old ≡ Token.begin_object ∷ rest → d ≡ document_given (length s.fields) after → 0 < length (values_of d 0) → GivesChild s old new d
  one_child old d list first is some =
      let id : 0 < length (values_of (document_given (length s.fields) after) 0) = rw (← is) some in
      record {
        said = object whole.all;
        spells = λ depth enough.
            ap (λ ts. converted of_json (value depth ts)) first ∙ object_opened depth rest (omega arith)
            ∙ ap (parse_map object) (all_over as_child s no_members rest stops.before new after seen_after whole stops.stop (depth - 1) (length rest) (omega arith) (omega arith));
        document = is_read as_child s whole.all after seen_after whole.read id ∙ ap Ok (sym is);
        valid = rw is (is_document as_child s whole.all after seen_after whole.read list id);
      }

  pub child_told : {E : Type 0} (old : List Token) (count : ℕ) (told : Result (Option Document) E) → IsFieldList s.fields → old ≡ Token.begin_object ∷ rest → count ≡ length s.fields
      → IfOk told (λ found. IfSome found (λ d. d ≡ document_given count after)) → IfOk told (λ found. IfSome found (λ d. 0 < length (values_of d 0))) → IfOk told (λ found. IfSome found (GivesChild s old new))
  child_told old count (Ok (Some d)) list first fields is some = one_child old d list first (is ∙ ap (λ n. document_given n after) fields) some
  child_told old count (Ok None) list first fields is some = tt
  child_told old count (Err e) list first fields is some = tt

-- ---- the items of an array, as far as some
pub record EachSoFar (s : Schema) (old new : List Token) (ds : List Document) : Type 0 where
  pub before : Items → Items
  pub documents : (rest : Items) → each (document_of as_child s) (all_items (before rest)) ≡ behind ds (each (document_of as_child s) (all_items rest))
  pub valid : All (IsDocumentOf s) ds
  pub fewer : length new ≤ length old
  pub over : (depth : ℕ) → 2 ≤ depth → (m : ℕ) × (length new ≤ m) × (converted of_items (items (value depth) (length old) old) ≡ parse_map before (converted of_items (items (value depth) m new)))

pub none_so_far : (s : Schema) (ts : List Token) → EachSoFar s ts ts []
none_so_far s ts =
    record {
      before = λ rest. rest;
      documents = λ rest. sym (behind_nothing (each (document_of as_child s) (all_items rest)));
      valid = All-nil (IsDocumentOf s);
      fewer = omega arith;
      over = λ depth enough. (length ts, omega arith, none_before (converted of_items (items (value depth) (length ts) ts)));
    }

one_behind : (before : Items → Items) (d : Data) (r : Option (Items × List Token)) → parse_map before (parse_map (item d) r) ≡ parse_map (λ rest. before (item d rest)) r
one_behind before d None = refl
one_behind before d (Some p) = refl

pub one_so_far : (s : Schema) (old middle new : List Token) (ds : List Document) (d : Document) → EachSoFar s old middle ds → after_end_array middle ≡ None → GivesChild s middle new d → length new < length middle → EachSoFar s old new (ds ++ d ∷ [])
one_so_far s old middle new ds d so_far going child shorter =
    let fewer : length middle ≤ length old = so_far.fewer in
    record {
      before = λ rest. so_far.before (item child.said rest);
      documents = λ rest. so_far.documents (item child.said rest) ∙ one_more (document_of as_child s) ds child.said (all_items rest) d child.document;
      valid = All-push (IsDocumentOf s) ds d so_far.valid child.valid;
      fewer = omega arith;
      over = λ depth enough.
          let turns = so_far.over depth enough in
          let more : length middle ≤ turns.0 = turns.1 in (
            turns.0 - 1,
            omega arith,
            turns.2 ∙ ap (parse_map so_far.before) (item_read (value depth) turns.0 middle new child.said (omega arith) going (child.spells depth enough))
                ∙ one_behind so_far.before child.said (converted of_items (items (value depth) (turns.0 - 1) new)),
          );
    }

pub all_so_far : (s : Schema) (old middle new : List Token) (ds : List Document) → EachSoFar s old middle ds → after_end_array middle ≡ Some new → GivesEach s old new ds
all_so_far s old middle new ds so_far ended =
    record {
      said = so_far.before no_items;
      ends = λ depth enough. let turns = so_far.over depth enough in turns.2 ∙ ap (parse_map so_far.before) (items_over (value depth) turns.0 middle new turns.1 ended);
      documents = so_far.documents no_items ∙ ap Ok (append-nil ds);
      valid = so_far.valid;
    }

-- ---- the value of the children
pub no_children : (s : Schema) (old new : List Token) → old ≡ Token.null ∷ new → GivesChildren s old new []
no_children s old new first =
    record { said = null; spells = λ depth enough. ap (λ ts. converted of_json (value depth ts)) first ∙ token_alone depth Token.null new null refl; documents = refl; valid = All-nil (IsDocumentOf s) }

array_of : (s : Schema) (old rest new : List Token) (ds : List Document) → old ≡ Token.begin_array ∷ rest → GivesEach s rest new ds → GivesChildren s old new ds
array_of s old rest new ds first gives =
    record {
      said = array gives.said;
      spells = λ depth enough. ap (λ ts. converted of_json (value depth ts)) first ∙ array_opened depth rest (omega arith) ∙ ap (parse_map array) (gives.ends (depth - 1) (omega arith));
      documents = gives.documents;
      valid = gives.valid;
    }

pub array_told : {E : Type 0} (s : Schema) (old rest new : List Token) (told : Result (Option (Vec Document Global)) E) → old ≡ Token.begin_array ∷ rest → IfOk told (λ found. IfSome found (λ ds. GivesEach s rest new ds.items)) → IfOk told (λ found. IfSome found (λ ds. GivesChildren s old new ds.items))
array_told s old rest new (Ok (Some ds)) first gives = array_of s old rest new ds.items first gives
array_told s old rest new (Ok None) first gives = tt
array_told s old rest new (Err e) first gives = tt
