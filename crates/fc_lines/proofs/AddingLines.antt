-- The tokens of a line that adds a block, and what the line says.
use Rattle.std.proofs.Common.{◌≡◌, ℕ, ◌-◌, ◌<◌, ◌≤◌, List, [], ◌∷◌, length, codes, Option, Some, None, option_map, option_and_then, IfSome, Result, Ok, Err, IfOk, refl, ap, ◌∙◌, arith, IsUtf8, ℤ, pos, negsuc, sym}
use Rattle.std.specs.Int.{FitsUnsignedBits}
use Rattle.std.specs.Int.RustNames.{unsigned_abs}
use Rattle.std.proofs.lemmas.Bool.{le-leb, lt-ltb}
use Rattle.json.specs.Token.{Token}
use Rattle.json.specs.Json as json
use Rattle.json.specs.Json.{parse_map}
use Rattle.json.specs.Lex.{tokens}
use Rattle.json.proofs.Grammar.{left, skip_value-shorter}
use Rattle.serde_json.specs.Data.{Data, object, number, unsigned, Members, no_members, member, put}
use Rattle.serde_json.specs.Find.{as_i64}
use Rattle.serde_json.specs.Read.{converted, of_json, number_of, read}
use Rattle.fc_spec.specs.documents.BlockReading.{block_of}
use Rattle.fc_spec.specs.documents.Document.{Block}
use Rattle.fc_spec.specs.documents.Schema.{Schema}
use Rattle.fc_spec.specs.scripts.LineReading.{added_shard, add_of}
use Rattle.fc_spec.specs.scripts.Script.{add}
use Rattle.fc_docs.specs.Direct.{GivesBlock, Spells}
use Rattle.fc_docs.proofs.JsonTokens.{converted_some, member_read, members_over, object_opened, token_alone}
use Rattle.fc_docs.proofs.Naturals.{unsigned_from}
use Rattle.fc_lines.specs.AddedTokens.{GivesAdded, GivesShard, GivesShardBehind, SaysAdd, SpellsMembers, add_members}
use Rattle.fc_lines.specs.AskedLines.{asked_on}
use Rattle.fc_lines.proofs.CutLines.{json_of_read}

-- a value takes at least one token
spells_shorter : (levels : ℕ) (old new : List Token) (d : Data) → Spells levels old new d → length new < length old
spells_shorter levels old new d spells =
    let j = converted_some of_json (json.value levels old) d new (spells levels (omega arith)) in
    skip_value-shorter levels old new (ap left j.1)

-- ---- members

pub member_first : (levels : ℕ) (k : List ℕ) (old middle new : List Token) (d : Data) (found all : Members) → levels ≤ 4
    → Spells levels old middle d → SpellsMembers middle new (put k d found) all → SpellsMembers (Token.key k ∷ old) new found all
member_first levels k old middle new d found all few spells more depth n deep enough =
    let shorter = spells_shorter levels old middle d spells in
    let longer : length old < n = omega arith in
    member_read (json.value depth) found n k (Token.key k ∷ old) old middle d (omega arith) refl (spells depth (omega arith))
    ∙ more depth (n - 1) deep (omega arith)

pub members_ended : (new : List Token) (found : Members) → SpellsMembers (Token.end_object ∷ new) new found found
members_ended new found depth n deep enough = members_over (json.value depth) found n (Token.end_object ∷ new) new enough refl

-- ---- shards

-- an integer that fits 32 bits without a sign
pub natural_is : (z : ℤ) (n : ℕ) → FitsUnsignedBits 32 z → n ≡ unsigned_abs z → z ≡ pos n
natural_is (pos m) n fits is = ap pos (sym is)
natural_is (negsuc m) n fits is = absurd fits

pub shard_given : (shards n : ℕ) (digits : List ℕ) (new : List Token) → option_and_then as_i64 (number_of digits) ≡ Some (pos n) → n < shards
    → GivesShard shards (Token.number digits ∷ new) new n
shard_given shards n digits new is below = record {
  said = number (unsigned n);
  spells = λ depth deep. token_alone depth (Token.number digits) new (number (unsigned n)) (ap (option_map number) (unsigned_from digits n is));
  is = rw (lt-ltb n shards below) refl;
  below = below;
}

pub no_shard : (s : Schema) (new : List Token) → 0 < s.shards → GivesShardBehind s (Token.end_object ∷ new) new 0
no_shard s new some = record { said = None; spells = λ doc. members_ended new _; is = refl; below = some }

pub one_shard : (s : Schema) (n : ℕ) (old new : List Token) → GivesShard s.shards old (Token.end_object ∷ new) n
    → GivesShardBehind s (Token.key (codes "shard") ∷ old) new n
one_shard s n old new given = record {
  said = Some given.said;
  spells = λ doc. member_first 0 (codes "shard") old (Token.end_object ∷ new) new given.said _ _ (omega arith) given.spells (members_ended new _);
  is = given.is;
  below = given.below;
}

-- ---- blocks

pub document_first : (s : Schema) (n : ℕ) (b : Block) (old middle new : List Token) → GivesBlock s old middle b → GivesShardBehind s middle new n
    → GivesAdded s (Token.key (codes "doc") ∷ old) new n b
document_first s n b old middle new given behind = record {
  doc = given.said;
  said = behind.said;
  spells = member_first 4 (codes "doc") old middle new given.said no_members _ (omega arith) given.spells (behind.spells given.said);
  shard = behind.is;
  below = behind.below;
  block = given.block;
  valid = given.valid;
}

pub document_behind : (s : Schema) (n : ℕ) (b : Block) (old middle new : List Token) → GivesShard s.shards old (Token.key (codes "doc") ∷ middle) n
    → GivesBlock s middle (Token.end_object ∷ new) b → GivesAdded s (Token.key (codes "shard") ∷ old) new n b
document_behind s n b old middle new shard given = record {
  doc = given.said;
  said = Some shard.said;
  spells = member_first 0 (codes "shard") old (Token.key (codes "doc") ∷ middle) new shard.said no_members _ (omega arith) shard.spells
      (member_first 4 (codes "doc") middle (Token.end_object ∷ new) new given.said _ _ (omega arith) given.spells (members_ended new _));
  shard = shard.is;
  below = shard.below;
  block = given.block;
  valid = given.valid;
}

-- ---- lines

add_of-members : (s : Schema) (doc : Data) (said : Option Data) (n : ℕ) (b : Block) → added_shard s said ≡ Ok n → block_of s doc ≡ Ok b → add_of s (add_members doc said) ≡ Ok (add n b)
add_of-members s doc None n b shard block = let none : 0 ≡ n = cc in rw block (ap (λ k. Ok (add k b)) none)
add_of-members s doc (Some d) n b shard block = rw (shard, block) refl

pub line_of_tokens : (s : Schema) (n : ℕ) (b : Block) (old : List Token) → GivesAdded s old (Token.end_object ∷ []) n b
    → SaysAdd s (Token.begin_object ∷ Token.key (codes "add") ∷ Token.begin_object ∷ old) n b
line_of_tokens s n b old given =
    let ms = add_members given.doc given.said in
    let inner : converted of_json (json.value 126 (Token.begin_object ∷ old)) ≡ Some (object ms, Token.end_object ∷ []) =
    object_opened 126 old (omega arith) ∙ ap (parse_map object) (given.spells 125 (length old) (omega arith) (omega arith)) in
    let all : List Token = Token.key (codes "add") ∷ Token.begin_object ∷ old in
    let outer = member_read (json.value 126) no_members (length all) (codes "add") all (Token.begin_object ∷ old) (Token.end_object ∷ []) (object ms) (omega arith) refl inner in
    let ended = members_over (json.value 126) (member (codes "add") (object ms) no_members) (length all - 1) (Token.end_object ∷ []) [] (omega arith) refl in
    record {
      said = object (member (codes "add") (object ms) no_members);
      spells = object_opened 127 all (omega arith) ∙ ap (parse_map object) (outer ∙ ended);
      line = add_of-members s given.doc given.said n b given.shard given.block;
      below = given.below;
      valid = given.valid;
    }

whole_read : (text : List ℕ) (d : Data) → converted of_json (json.value 127 (tokens text)) ≡ Some (d, []) → read text ≡ Some d
whole_read text d e = let j = converted_some of_json (json.value 127 (tokens text)) d [] e in rw j.1 j.2

pub line_asked : (s : Schema) (n : ℕ) (b : Block) (text : List ℕ) → length text ≤ 1_048_576 → IsUtf8 text → SaysAdd s (tokens text) n b
    → asked_on s text ≡ Ok (add n b)
line_asked s n b text short utf8 says =
    rw (le-leb (length text) 1_048_576 short, json_of_read text says.said utf8 (whole_read text says.said says.spells), says.line) refl

pub added_asked : {A E : Type 0} (view : A → Block) (s : Schema) (text : List ℕ) (answer : Result (Option (ℕ × A)) E) → length text ≤ 1_048_576 → IsUtf8 text
    → IfOk answer (λ found. IfSome found (λ added. SaysAdd s (tokens text) added.0 (view added.1)))
    → IfOk answer (λ found. IfSome found (λ added. asked_on s text ≡ Ok (add added.0 (view added.1))))
added_asked view s text (Ok None) short utf8 says = tt
added_asked view s text (Ok (Some added)) short utf8 says = line_asked s added.0 (view added.1) text short utf8 says
added_asked view s text (Err e) short utf8 says = tt
