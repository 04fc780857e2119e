-- What a line after the schema says, by itself. Guide: Indexing with Update Handlers; JSON Request API.
use Rattle.std.specs.Prelude.{ℕ, [], ◌∷◌, length, codes, ◌&&◌, nat_le, nat_lt, Option, None, Some, option_map, ok_or, Result, Ok, Err, if◌then◌else◌}
use Rattle.serde_json.specs.Data.{Data, number, string, Members}
use Rattle.serde_json.specs.Find.{get_member, as_object, as_str, as_i64}
use Rattle.fc_spec.specs.documents.Val.{Text, same_text}
use Rattle.fc_spec.specs.documents.Schema.{Schema}
use Rattle.fc_spec.specs.scripts.JsonObjects.{natural_in, only_names, sole_member}
use Rattle.fc_spec.specs.documents.BlockReading.{block_of}
use Rattle.fc_spec.specs.documents.IntegerTexts.{decimal_text}
use Rattle.fc_spec.specs.scripts.ScriptFault.{LineFault, unknown_line, bad_shard, bad_document}
use Rattle.fc_spec.specs.scripts.Script.{Line, add, delete, commit, sync, asks}
use Rattle.fc_spec.specs.words.Walks.{◌>>=◌, unless, with_fault}

-- a shard's number: a whole number from 0 below so many shards
abbrev pub shard_of : ℕ → Data → Result ℕ LineFault
shard_of shards d = do
  n ← ok_or (natural_in d) bad_shard
  _ ← unless (nat_lt n shards) bad_shard
  Ok n

-- the shard of a block or of an id is 0 where none is named
abbrev pub added_shard : Schema → Option Data → Result ℕ LineFault
added_shard s None = Ok 0
added_shard s (Some d) = shard_of s.shards d

-- every shard is committed where none is named
abbrev pub committed_shard : Schema → Option Data → Result (Option ℕ) LineFault
committed_shard s None = Ok None
committed_shard s (Some d) = do
  n ← shard_of s.shards d
  Ok (Some n)

-- a session is a text of 1 to 64 bytes, and `main` where none is named
abbrev pub session_of : Option Data → Result Text LineFault
session_of None = Ok (codes "main")
session_of (Some d) = do
  t ← ok_or (as_str d) unknown_line
  _ ← unless (nat_le 1 (length t) && nat_le (length t) 64) unknown_line
  Ok t

-- `{"add":{"doc":D,"shard":N}}`
abbrev pub add_of : Schema → Members → Result (Line Data) LineFault
add_of s ms = do
  _ ← unless (only_names (codes "doc" ∷ codes "shard" ∷ []) ms) unknown_line
  doc ← ok_or (get_member (codes "doc") ms) unknown_line
  shard ← added_shard s (get_member (codes "shard") ms)
  block ← with_fault bad_document (block_of s doc)
  Ok (add shard block)

-- the id that a line deletes: a text, or a whole number of 64 bits signed, which stands for its decimal text
abbrev pub deleted_id : Data → Option Text
deleted_id (string t) = Some t
deleted_id (number n) = option_map decimal_text (as_i64 n)
deleted_id _ = None

-- `{"delete":{"id":I,"shard":N}}`
abbrev pub delete_of : Schema → Members → Result (Line Data) LineFault
delete_of s ms = do
  _ ← unless (only_names (codes "id" ∷ codes "shard" ∷ []) ms) unknown_line
  d ← ok_or (get_member (codes "id") ms) unknown_line
  id ← ok_or (deleted_id d) unknown_line
  shard ← added_shard s (get_member (codes "shard") ms)
  Ok (delete shard id)

-- `{"commit":{"shard":N}}`
abbrev pub commit_of : Schema → Members → Result (Line Data) LineFault
commit_of s ms = do
  _ ← unless (only_names (codes "shard" ∷ []) ms) unknown_line
  shard ← committed_shard s (get_member (codes "shard") ms)
  Ok (commit shard)

-- `{"sync":{}}`
abbrev pub sync_of : Members → Result (Line Data) LineFault
sync_of ms = do
  _ ← unless (only_names [] ms) unknown_line
  Ok sync

-- `{"search":{"request":R,"session":"S"}}`; what R asks is read later
abbrev pub search_of : Members → Result (Line Data) LineFault
search_of ms = do
  _ ← unless (only_names (codes "request" ∷ codes "session" ∷ []) ms) unknown_line
  r ← ok_or (get_member (codes "request") ms) unknown_line
  session ← session_of (get_member (codes "session") ms)
  Ok (asks session r)

-- by the name of the line's only member
abbrev pub named_line : Schema → Text → Members → Result (Line Data) LineFault
named_line s name ms =
    if same_text name (codes "add") then add_of s ms
    else (if same_text name (codes "delete") then delete_of s ms
    else (if same_text name (codes "commit") then commit_of s ms
    else (if same_text name (codes "sync") then sync_of ms
    else (if same_text name (codes "search") then search_of ms
    else Err unknown_line))))

-- what a line says, or its fault: it is an object of one object
abbrev pub line_said : Schema → Data → Result (Line Data) LineFault
line_said s d = do
  found ← ok_or (sole_member d) unknown_line
  ms ← ok_or (as_object found.1) unknown_line
  named_line s found.0 ms
