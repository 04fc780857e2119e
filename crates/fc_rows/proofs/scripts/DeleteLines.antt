-- Lines that delete, as bytes spell them, and their faults.
use Rattle.std.specs.Prelude.{◌≡◌, refl, [], ◌∷◌, codes, Ok}
use Rattle.std.specs.Str.{is_utf8, chars}
use Rattle.fc_spec.specs.documents.Schema.{string}
use Rattle.fc_spec.specs.scripts.Script.{add, delete}
use Rattle.fc_spec.specs.scripts.ScriptFault.{unknown_line, bad_shard}
use Rattle.fc_spec.specs.scripts.ScriptReading.{script}
use Rattle.fc_rows.proofs.Words.{written, said}
use Rattle.fc_rows.proofs.scripts.Scripts.{lines, has_fault, one, two}

-- the shard is 0 where none is named, and a number stands for its decimal text
pub forms : script (lines (two ∷ codes "{\"delete\":{\"id\":\"7\",\"shard\":1}}" ∷ codes "{\"delete\":{\"id\":-7}}" ∷ codes "{\"delete\":{\"id\":\"\"}}" ∷ []))
    ≡ Ok (record {
      schema = record { shards = 2; fields = record { name = codes "id"; kind = string } ∷ [] };
      lines = delete 1 (codes "7") ∷ delete 0 (codes "-7") ∷ delete 0 [] ∷ [];
    })
unfolding written is_utf8 chars
forms = refl

-- an id may stand in several lines
pub id_again : script (lines (two ∷ codes "{\"add\":{\"doc\":{\"id\":\"a\"}}}" ∷ codes "{\"add\":{\"doc\":{\"id\":\"a\",\"_childDocuments_\":[{\"id\":\"a\"}]}}}" ∷ []))
    ≡ Ok (record {
      schema = record { shards = 2; fields = record { name = codes "id"; kind = string } ∷ [] };
      lines = add 0 (record { children = []; parent = said "a" ∷ [] }) ∷ add 0 (record { children = (said "a" ∷ []) ∷ []; parent = said "a" ∷ [] }) ∷ [];
    })
unfolding written is_utf8 chars
id_again = refl

pub no_id : has_fault (lines (one ∷ codes "{\"delete\":{}}" ∷ [])) 2 unknown_line
unfolding written is_utf8 chars
no_id = refl

pub id_of_no_text : has_fault (lines (one ∷ codes "{\"delete\":{\"id\":null}}" ∷ [])) 2 unknown_line × has_fault (lines (one ∷ codes "{\"delete\":{\"id\":1.5}}" ∷ [])) 2 unknown_line
    × has_fault (lines (one ∷ codes "{\"delete\":{\"id\":9223372036854775808}}" ∷ [])) 2 unknown_line
unfolding written is_utf8 chars
id_of_no_text = (refl, refl, refl)

pub another_member : has_fault (lines (one ∷ codes "{\"delete\":{\"id\":\"a\",\"query\":\"*:*\"}}" ∷ [])) 2 unknown_line
unfolding written is_utf8 chars
another_member = refl

pub shard_past_the_last : has_fault (lines (one ∷ codes "{\"delete\":{\"id\":\"a\",\"shard\":1}}" ∷ [])) 2 bad_shard
unfolding written is_utf8 chars
shard_past_the_last = refl

-- the id is looked at before the shard
pub id_before_shard : has_fault (lines (one ∷ codes "{\"delete\":{\"id\":[],\"shard\":1}}" ∷ [])) 2 unknown_line
unfolding written is_utf8 chars
id_before_shard = refl
