-- Lines of no form, and shards that are none.
use Rattle.std.specs.Prelude.{◌≡◌, refl, [], ◌∷◌, ◌++◌, codes, Ok}
use Rattle.std.specs.Str.{is_utf8, chars}
use Rattle.serde_json.specs.Data.{null}
use Rattle.fc_spec.specs.documents.Schema.{string}
use Rattle.fc_spec.specs.scripts.Script.{asks}
use Rattle.fc_spec.specs.scripts.ScriptFault.{not_json, no_schema, unknown_line, bad_shard}
use Rattle.fc_spec.specs.scripts.ScriptLines.{lines_of}
use Rattle.fc_spec.specs.scripts.ScriptReading.{script}
use Rattle.fc_rows.proofs.Words.{written}
use Rattle.fc_rows.proofs.scripts.Scripts.{lines, has_fault, one, two}

-- a form feed is no blank
pub a_form_feed : has_fault (lines (one ∷ (32 ∷ 12 ∷ []) ∷ [])) 2 not_json
unfolding written is_utf8 chars
a_form_feed = refl

-- a CR ends no line
pub a_return_inside : has_fault (one ++ 13 ∷ codes "{\"sync\":{}}") 1 not_json
unfolding written is_utf8 chars
a_return_inside = refl

-- names are as they stand, and no other line is known
pub other_names :
    has_fault (lines (one ∷ codes "{\"Add\":{\"doc\":{\"id\":\"a\"}}}" ∷ [])) 2 unknown_line
    × has_fault (lines (one ∷ codes "{\"Commit\":{}}" ∷ [])) 2 unknown_line
    × has_fault (lines (one ∷ codes "{\"Sync\":{}}" ∷ [])) 2 unknown_line
    × has_fault (lines (one ∷ codes "{\"Search\":{\"request\":{}}}" ∷ [])) 2 unknown_line
    × has_fault (lines (one ∷ codes "{\"Delete\":{\"id\":\"a\"}}" ∷ [])) 2 unknown_line
unfolding written is_utf8 chars
other_names = (refl, refl, refl, refl, refl)

-- the first line that says something is an object of the one member `schema`
pub commit_first : has_fault (lines (codes "{\"commit\":{}}" ∷ one ∷ [])) 1 no_schema
unfolding written is_utf8 chars
commit_first = refl

-- a text of JSON with a byte that is no UTF-8
pub byte_in_a_text : has_fault (lines (one ∷ (34 ∷ 255 ∷ 34 ∷ []) ∷ [])) 2 not_json
unfolding written is_utf8 chars
byte_in_a_text = refl

-- an LF ends a line, and begins none
pub ends_of_lines : (lines_of [] ≡ []) × (lines_of (codes "a\n") ≡ codes "a" ∷ []) × (lines_of (codes "\n\na") ≡ [] ∷ [] ∷ codes "a" ∷ [])
ends_of_lines = (refl, refl, refl)

pub sync_of_a_list : has_fault (lines (one ∷ codes "{\"sync\":[]}" ∷ [])) 2 unknown_line
unfolding written is_utf8 chars
sync_of_a_list = refl

pub search_of_another_member : has_fault (lines (one ∷ codes "{\"search\":{\"request\":{},\"limit\":1}}" ∷ [])) 2 unknown_line
unfolding written is_utf8 chars
search_of_another_member = refl

-- what a request asks is read later: null is a value too
pub search_of_null : script (lines (two ∷ codes "{\"search\":{\"request\":null}}" ∷ []))
    ≡ Ok (record { schema = record { shards = 2; fields = record { name = codes "id"; kind = string } ∷ [] }; lines = asks (codes "main") null ∷ [] })
unfolding written is_utf8 chars
search_of_null = refl

-- null is no shard
pub commit_of_null : has_fault (lines (two ∷ codes "{\"commit\":{\"shard\":null}}" ∷ [])) 2 bad_shard
unfolding written is_utf8 chars
commit_of_null = refl

-- a shard is tested before the document
pub shard_before_document : has_fault (lines (two ∷ codes "{\"add\":{\"doc\":{},\"shard\":2}}" ∷ [])) 2 bad_shard
unfolding written is_utf8 chars
shard_before_document = refl
