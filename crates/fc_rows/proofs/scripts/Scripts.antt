-- Scripts as bytes spell them, and the first fault of others.
use Rattle.std.specs.Prelude.{◌≡◌, refl, negsuc, pos, ℕ, List, [], ◌∷◌, ◌++◌, codes, replicate, None, Some, Ok, Err}
use Rattle.std.specs.Str.{is_utf8, chars}
use Rattle.serde_json.specs.Data.{object, number, unsigned, no_members}
use Rattle.fc_spec.specs.documents.Val.{Text, long}
use Rattle.fc_spec.specs.documents.Schema.{string}
use Rattle.fc_spec.specs.scripts.Script.{add, commit, sync, asks}
use Rattle.fc_spec.specs.documents.DocFault.{no_id, wrong_type}
use Rattle.fc_spec.specs.scripts.ScriptFault.{LineFault, not_json, no_schema, unknown_line, bad_schema, bad_shard, bad_document, field_total, too_many_documents}
use Rattle.fc_spec.specs.documents.Document.{Document}
use Rattle.fc_spec.specs.scripts.ScriptTotals.{absolute_total}
use Rattle.fc_spec.specs.scripts.ScriptReading.{script_of, script}
use Rattle.fc_rows.proofs.Words.{written, said}

-- lines, each with its LF
abbrev pub lines : List Text → Text
lines [] = []
lines (l ∷ ls) = l ++ 10 ∷ lines ls

abbrev pub has_fault : Text → ℕ → LineFault → Type 0
has_fault bytes n e = script bytes ≡ Err (record { line = n; fault = e })

-- one shard, and a field of integers
abbrev pub one : Text
one = codes "{\"schema\":{\"shards\":1,\"fields\":{\"n\":\"plongs\"}}}"

-- two shards, and `id` alone
abbrev pub two : Text
two = codes "{\"schema\":{\"shards\":2,\"fields\":{}}}"

-- ---- no line at all
pub no_bytes : has_fault (lines ([])) 0 no_schema
no_bytes = refl

pub blank_lines_alone : has_fault (lines (codes " \t" ∷ codes "\r" ∷ [])) 0 no_schema
unfolding written is_utf8 chars
blank_lines_alone = refl

-- ---- the first line that is not blank is a schema
pub a_list_first : has_fault (lines (codes "[]" ∷ [])) 1 no_schema
unfolding written is_utf8 chars
a_list_first = refl

pub blank_lines_count : has_fault (lines ([] ∷ codes "  " ∷ codes "7" ∷ [])) 3 no_schema
unfolding written is_utf8 chars
blank_lines_count = refl

pub a_second_member_beside_the_schema : has_fault (lines (codes "{\"schema\":{\"shards\":1,\"fields\":{}},\"more\":1}" ∷ [])) 1 no_schema
unfolding written is_utf8 chars
a_second_member_beside_the_schema = refl

pub no_text_of_json : has_fault (lines (codes "{" ∷ [])) 1 not_json
unfolding written is_utf8 chars
no_text_of_json = refl

pub earlier_line_first : has_fault (lines (one ∷ codes "{]" ∷ codes "x" ∷ [])) 2 not_json
unfolding written is_utf8 chars
earlier_line_first = refl

pub schema_without_fields : has_fault (lines (codes "{\"schema\":{\"shards\":1}}" ∷ [])) 1 bad_schema
unfolding written is_utf8 chars
schema_without_fields = refl

pub schema_no_object : has_fault (lines (codes "{\"schema\":[]}" ∷ [])) 1 bad_schema
unfolding written is_utf8 chars
schema_no_object = refl

pub a_second_schema : has_fault (lines (one ∷ one ∷ [])) 2 unknown_line
unfolding written is_utf8 chars
a_second_schema = refl

pub a_list : has_fault (lines (one ∷ codes "[]" ∷ [])) 2 unknown_line
unfolding written is_utf8 chars
a_list = refl

pub an_empty_object : has_fault (lines (one ∷ codes "{}" ∷ [])) 2 unknown_line
unfolding written is_utf8 chars
an_empty_object = refl

pub two_members : has_fault (lines (one ∷ codes "{\"sync\":{},\"commit\":{}}" ∷ [])) 2 unknown_line
unfolding written is_utf8 chars
two_members = refl

pub sync_of_null : has_fault (lines (one ∷ codes "{\"sync\":null}" ∷ [])) 2 unknown_line
unfolding written is_utf8 chars
sync_of_null = refl

pub sync_of_something : has_fault (lines (one ∷ codes "{\"sync\":{\"shard\":0}}" ∷ [])) 2 unknown_line
unfolding written is_utf8 chars
sync_of_something = refl

pub commit_of_a_list : has_fault (lines (one ∷ codes "{\"commit\":[]}" ∷ [])) 2 unknown_line
unfolding written is_utf8 chars
commit_of_a_list = refl

pub commit_of_another_member : has_fault (lines (one ∷ codes "{\"commit\":{\"shards\":0}}" ∷ [])) 2 unknown_line
unfolding written is_utf8 chars
commit_of_another_member = refl

-- ---- the form is tested before the shard
pub add_without_doc : has_fault (lines (one ∷ codes "{\"add\":{\"shard\":9}}" ∷ [])) 2 unknown_line
unfolding written is_utf8 chars
add_without_doc = refl

pub add_of_another_member : has_fault (lines (one ∷ codes "{\"add\":{\"doc\":{},\"shard\":9,\"boost\":1}}" ∷ [])) 2 unknown_line
unfolding written is_utf8 chars
add_of_another_member = refl

pub search_without_request : has_fault (lines (one ∷ codes "{\"search\":{\"session\":\"a\"}}" ∷ [])) 2 unknown_line
unfolding written is_utf8 chars
search_without_request = refl

pub session_no_text : has_fault (lines (one ∷ codes "{\"search\":{\"request\":{},\"session\":7}}" ∷ [])) 2 unknown_line
unfolding written is_utf8 chars
session_no_text = refl

pub session_null : has_fault (lines (one ∷ codes "{\"search\":{\"request\":{},\"session\":null}}" ∷ [])) 2 unknown_line
unfolding written is_utf8 chars
session_null = refl

pub session_empty : has_fault (lines (one ∷ codes "{\"search\":{\"request\":{},\"session\":\"\"}}" ∷ [])) 2 unknown_line
unfolding written is_utf8 chars
session_empty = refl

pub session_of_65_bytes : has_fault (lines (one ∷ codes "{\"search\":{\"request\":{},\"session\":\"sssssssssssssssssssssssssssssssssssssssssssssssssssssssssssssssss\"}}" ∷ [])) 2 unknown_line
unfolding written is_utf8 chars
session_of_65_bytes = refl

pub shard_too_high : has_fault (lines (two ∷ codes "{\"commit\":{\"shard\":2}}" ∷ [])) 2 bad_shard
unfolding written is_utf8 chars
shard_too_high = refl

pub shard_below_zero : has_fault (lines (two ∷ codes "{\"commit\":{\"shard\":-1}}" ∷ [])) 2 bad_shard
unfolding written is_utf8 chars
shard_below_zero = refl

pub shard_with_a_point : has_fault (lines (two ∷ codes "{\"commit\":{\"shard\":1.0}}" ∷ [])) 2 bad_shard
unfolding written is_utf8 chars
shard_with_a_point = refl

-- ---- a shard is tested before the document, and null is none
pub shard_null : has_fault (lines (two ∷ codes "{\"add\":{\"doc\":{},\"shard\":null}}" ∷ [])) 2 bad_shard
unfolding written is_utf8 chars
shard_null = refl

pub bad_document_by_its_detail : has_fault (lines (one ∷ codes "{\"add\":{\"doc\":{}}}" ∷ [])) 2 (bad_document no_id)
unfolding written is_utf8 chars
bad_document_by_its_detail = refl

pub doc_null : has_fault (lines (one ∷ codes "{\"add\":{\"doc\":null}}" ∷ [])) 2 (bad_document wrong_type)
unfolding written is_utf8 chars
doc_null = refl

pub sum_too_high : has_fault (lines (one ∷ codes "{\"add\":{\"doc\":{\"id\":\"a\",\"n\":9223372036854775807}}}" ∷ codes "{\"add\":{\"doc\":{\"id\":\"b\",\"n\":-1}}}" ∷ [])) 3 field_total
unfolding written is_utf8 chars
sum_too_high = refl

pub sum_over_children : has_fault (lines (one ∷ codes "{\"add\":{\"doc\":{\"id\":\"a\",\"n\":[1,9223372036854775806],\"_childDocuments_\":[{\"id\":\"b\",\"n\":-1}]}}}" ∷ [])) 2 field_total
unfolding written is_utf8 chars
sum_over_children = refl

pub least_number_alone : has_fault (lines (one ∷ codes "{\"add\":{\"doc\":{\"id\":\"a\",\"n\":-9223372036854775808}}}" ∷ [])) 2 field_total
unfolding written is_utf8 chars
least_number_alone = refl

-- ---- what is taken, and where the last line needs no LF
pub shards_and_sessions : script (lines (two ∷ codes "{\"add\":{\"shard\":1,\"doc\":{\"id\":\"a\"}}}" ∷ codes "{\"add\":{\"doc\":{\"id\":\"b\"}}}" ∷ codes "\r" ∷ codes "{\"commit\":{\"shard\":1}}" ∷ codes "{\"commit\":{}}" ∷ codes "{\"sync\":{}}" ∷ []) ++ codes "{\"search\":{\"request\":{}}}")
    ≡ Ok (record {
      schema = record { shards = 2; fields = record { name = codes "id"; kind = string } ∷ [] };
      lines = add 1 (record { children = []; parent = said "a" ∷ [] }) ∷ add 0 (record { children = []; parent = said "b" ∷ [] }) ∷ commit (Some 1) ∷ commit None ∷ sync ∷ asks (codes "main") (object no_members) ∷ [];
    })
unfolding written is_utf8 chars
shards_and_sessions = refl

-- ---- a schema alone is a script
pub schema_alone : script two ≡ Ok (record { schema = record { shards = 2; fields = record { name = codes "id"; kind = string } ∷ [] }; lines = [] })
unfolding written is_utf8 chars
schema_alone = refl

-- ---- the limits, small ones
pub third_document : script_of (record { documents = 2; values = 9 }) (lines (two ∷ codes "{\"add\":{\"doc\":{\"id\":\"a\",\"_childDocuments_\":[{\"id\":\"b\"}]}}}" ∷ codes "{\"add\":{\"doc\":{\"id\":\"c\"}}}" ∷ [])) ≡ Err (record { line = 3; fault = too_many_documents })
unfolding written is_utf8 chars
third_document = refl

-- equal items are one value
pub fourth_value : script_of (record { documents = 9; values = 3 }) (lines (one ∷ codes "{\"add\":{\"doc\":{\"id\":\"a\",\"n\":[5,5,\"05\",6]}}}" ∷ codes "{\"add\":{\"doc\":{\"id\":\"b\"}}}" ∷ [])) ≡ Err (record { line = 3; fault = too_many_documents })
unfolding written is_utf8 chars
fourth_value = refl

-- ---- sums are over each field by itself, of absolute values
abbrev pair : List Document
pair = (said "1" ∷ [] ∷ (long (negsuc 4) ∷ long (pos 2) ∷ []) ∷ []) ∷ (said "2" ∷ [] ∷ (long (pos 9) ∷ []) ∷ []) ∷ []

pub sum_of_a_field : absolute_total pair 2 ≡ 16
sum_of_a_field = refl

pub no_sum_of_texts : absolute_total pair 0 ≡ 0
no_sum_of_texts = refl

-- ---- a sum before the number of documents
pub sum_before_number : script_of (record { documents = 0; values = 9 }) (lines (one ∷ codes "{\"add\":{\"doc\":{\"id\":\"a\",\"n\":[1,9223372036854775807]}}}" ∷ [])) ≡ Err (record { line = 2; fault = field_total })
unfolding written is_utf8 chars
sum_before_number = refl

-- ---- the last member of a name counts
pub second_shard_counts : has_fault (lines (two ∷ codes "{\"commit\":{\"shard\":0,\"shard\":2}}" ∷ [])) 2 bad_shard
unfolding written is_utf8 chars
second_shard_counts = refl

-- ---- bytes that are no text
pub no_text_at_all : has_fault (lines (two ∷ (123 ∷ 255 ∷ 125 ∷ []) ∷ [])) 2 not_json
unfolding written is_utf8 chars
no_text_at_all = refl

-- ---- a session of 64 bytes
pub longest_session : script (lines (two ∷ codes "{\"search\":{\"request\":7,\"session\":\"ssssssssssssssssssssssssssssssssssssssssssssssssssssssssssssssss\"}}" ∷ []))
    ≡ Ok (record { schema = record { shards = 2; fields = record { name = codes "id"; kind = string } ∷ [] }; lines = asks (replicate 64 115) (number (unsigned 7)) ∷ [] })
unfolding written is_utf8 chars
longest_session = refl
