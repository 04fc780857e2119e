-- The searches of a script that bytes spell ask valid requests.
use Rattle.std.proofs.Common.{ℕ, List, [], ◌∷◌, ◌++◌, length, Bool, true, false, cond, Option, None, Some, IfSome, All, IfOk, Result, Err, ok_or}
use Rattle.std.specs.Prelude.{codes, nat_le}
use Rattle.std.proofs.lemmas.List.Elements.{All-nil, All-push, All-weaker}
use Rattle.std.proofs.lemmas.Result.{IfOk-at_ok}
use Rattle.serde_json.specs.Data.{Data, null, boolean, number, string, array, object, Members, no_members, member}
use Rattle.serde_json.specs.Find.{get_member, as_object}
use Rattle.fc_spec.specs.documents.Val.{Text, same_text}
use Rattle.fc_spec.specs.documents.Schema.{Schema}
use Rattle.fc_spec.specs.scripts.JsonObjects.{only_names, sole_member}
use Rattle.fc_spec.specs.scripts.JsonValues.{HasNumbers, MembersHaveNumbers, HasAscendingKeys, MembersHaveAscendingKeys}
use Rattle.fc_spec.specs.documents.BlockReading.{block_of}
use Rattle.fc_spec.specs.scripts.ScriptFault.{LineFault, not_json, unknown_line, bad_document, long_line, too_long}
use Rattle.fc_spec.specs.scripts.ScriptLines.{json_of}
use Rattle.fc_spec.specs.scripts.Script.{Line, add, delete, commit, sync, asks, Script}
use Rattle.fc_spec.specs.scripts.ScriptTotals.{Limits}
use Rattle.fc_spec.specs.scripts.LineReading.{added_shard, committed_shard, session_of, add_of, commit_of, sync_of, search_of, named_line, line_said, deleted_id, delete_of}
use Rattle.fc_spec.specs.scripts.ScriptReading.{line_limit, script_limit, value_on, schema_on, check_last, with_line, Numbered, numbered_lines, at_line, with_lines, script_of_lines, script_of}
use Rattle.fc_spec.specs.laws.RequestLaws.{AsksValid, ScriptsAskValid}
use Rattle.fc_spec.specs.words.Walks.{unless, with_fault}
use Rattle.fc_spec.proofs.words.ReadingWords.{going_on, whatever, seen, there}
use Rattle.fc_spec.proofs.scripts.JsonMembers.{member_numbers, member_keys}
use Rattle.fc_spec.proofs.scripts.JsonTexts.{IsJson, json_is}
use Rattle.fc_spec.proofs.requests.ValidWalk.{read_are_valid_whole}

-- what is asked is such data as JSON texts are
abbrev pub AsksJson : Line Data → Type 0
AsksJson (asks session d) = IsJson d
AsksJson (add shard block) = Unit {0}
AsksJson (delete shard id) = Unit {0}
AsksJson (commit shard) = Unit {0}
AsksJson sync = Unit {0}

-- ---- one line

record HoldsJson (ms : Members) : Type 0 where
  numbers : MembersHaveNumbers ms
  keys : MembersHaveAscendingKeys ms

of_members : (k : Text) (ms : Members) → HoldsJson ms → IfSome (get_member k ms) IsJson
of_members k ms h = both (get_member k ms) (member_numbers k ms h.numbers) (member_keys k ms h.keys)
  where
    both : (o : Option Data) → IfSome o HasNumbers → IfSome o HasAscendingKeys → IfSome o IsJson
    both None a b = tt
    both (Some d) a b = record { numbers = a; keys = b }

of_object : (d : Data) → IsJson d → IfSome (as_object d) HoldsJson
of_object (object ms) h = record { numbers = h.numbers; keys = (h.keys).1 }
of_object null h = tt
of_object (boolean b) h = tt
of_object (number n) h = tt
of_object (string t) h = tt
of_object (array ds) h = tt

-- a name and a value of which that holds
abbrev NamesJson : Text × Data → Type 0
NamesJson found = IsJson found.1

of_sole : (d : Data) → IsJson d → IfSome (sole_member d) NamesJson
of_sole (object no_members) h = tt
of_sole (object (member k d no_members)) h = record { numbers = (h.numbers).0; keys = ((h.keys).1).0 }
of_sole (object (member k d (member l e ms))) h = tt
of_sole null h = tt
of_sole (boolean b) h = tt
of_sole (number n) h = tt
of_sole (string t) h = tt
of_sole (array ds) h = tt

add_asks : (s : Schema) (ms : Members) → IfOk (add_of s ms) AsksJson
add_asks s ms =
    whatever AsksJson (unless (only_names (codes "doc" ∷ codes "shard" ∷ []) ms) unknown_line) _ (λ u. whatever AsksJson (ok_or (get_member (codes "doc") ms) unknown_line) _
    (λ doc. whatever AsksJson (added_shard s (get_member (codes "shard") ms)) _ (λ shard. whatever AsksJson (with_fault bad_document (block_of s doc)) _ (λ block. tt))))

delete_asks : (s : Schema) (ms : Members) → IfOk (delete_of s ms) AsksJson
delete_asks s ms =
    whatever AsksJson (unless (only_names (codes "id" ∷ codes "shard" ∷ []) ms) unknown_line) _ (λ u. whatever AsksJson (ok_or (get_member (codes "id") ms) unknown_line) _
    (λ d. whatever AsksJson (ok_or (deleted_id d) unknown_line) _ (λ id. whatever AsksJson (added_shard s (get_member (codes "shard") ms)) _ (λ shard. tt))))

commit_asks : (s : Schema) (ms : Members) → IfOk (commit_of s ms) AsksJson
commit_asks s ms = whatever AsksJson (unless (only_names (codes "shard" ∷ []) ms) unknown_line) _ (λ u. whatever AsksJson (committed_shard s (get_member (codes "shard") ms)) _ (λ shard. tt))

sync_asks : (ms : Members) → IfOk (sync_of ms) AsksJson
sync_asks ms = whatever AsksJson (unless (only_names [] ms) unknown_line) _ (λ u. tt)

search_asks : (ms : Members) → HoldsJson ms → IfOk (search_of ms) AsksJson
search_asks ms h =
    whatever AsksJson (unless (only_names (codes "request" ∷ codes "session" ∷ []) ms) unknown_line) _
    (λ u. going_on AsksJson IsJson (ok_or (get_member (codes "request") ms) unknown_line) _ (there IsJson (get_member (codes "request") ms) unknown_line (of_members (codes "request") ms h))
    (λ d k. whatever AsksJson (session_of (get_member (codes "session") ms)) _ (λ session. k)))

one_of : (b : Bool) (x y : Result (Line Data) LineFault) → IfOk x AsksJson → IfOk y AsksJson → IfOk (cond b x y) AsksJson
one_of true x y h k = h
one_of false x y h k = k

named_asks : (s : Schema) (name : Text) (ms : Members) → HoldsJson ms → IfOk (named_line s name ms) AsksJson
named_asks s name ms h =
    one_of (same_text name (codes "add")) (add_of s ms) _ (add_asks s ms)
    (one_of (same_text name (codes "delete")) (delete_of s ms) _ (delete_asks s ms)
    (one_of (same_text name (codes "commit")) (commit_of s ms) _ (commit_asks s ms)
    (one_of (same_text name (codes "sync")) (sync_of ms) _ (sync_asks ms) (one_of (same_text name (codes "search")) (search_of ms) (Err unknown_line) (search_asks ms h) tt))))

pub line_asks : (s : Schema) (d : Data) → IsJson d → IfOk (line_said s d) AsksJson
line_asks s d h =
    going_on AsksJson NamesJson (ok_or (sole_member d) unknown_line) _ (there NamesJson (sole_member d) unknown_line (of_sole d h))
    (λ found k. going_on AsksJson HoldsJson (ok_or (as_object found.1) unknown_line) _ (there HoldsJson (as_object found.1) unknown_line (of_object found.1 k)) (λ ms l. named_asks s found.0 ms l))

-- ---- all lines

pub value_is : (l : Text) → IfOk (value_on l) IsJson
value_is l = whatever IsJson (unless (nat_le (length l) line_limit) long_line) _ (λ u. there IsJson (json_of l) not_json (json_is l))

line_goes_on : (limits : Limits) (s : Schema) (earlier : List (Line Data)) (l : Text) → All AsksJson earlier → IfOk (with_line limits s earlier l) (All AsksJson)
line_goes_on limits s earlier l all =
    going_on (All AsksJson) IsJson (value_on l) _ (value_is l)
    (λ d h. going_on (All AsksJson) AsksJson (line_said s d) _ (line_asks s d h)
    (λ now k. whatever (All AsksJson) (check_last limits s (earlier ++ now ∷ []) now) _ (λ u. All-push AsksJson earlier now all k)))

lines_go_on : (limits : Limits) (s : Schema) (earlier : List (Line Data)) (ls : List Numbered) → All AsksJson earlier → IfOk (with_lines limits s earlier ls) (All AsksJson)
lines_go_on limits s earlier [] all = all
lines_go_on limits s earlier (l ∷ ls) all =
    going_on (All AsksJson) (All AsksJson) (at_line l.0 (with_line limits s earlier l.1)) _ (seen (All AsksJson) _ (with_line limits s earlier l.1) (line_goes_on limits s earlier l.1 all)) (λ now h. lines_go_on limits s now ls h)

-- a script whose searches ask such data
abbrev ScriptAsksJson : Script Data → Type 0
ScriptAsksJson S = All AsksJson S.lines

script_asks : (limits : Limits) (ls : List Numbered) → IfOk (script_of_lines limits ls) ScriptAsksJson
script_asks limits [] = tt
script_asks limits (l ∷ ls) =
    whatever ScriptAsksJson (at_line l.0 (schema_on l.1)) _ (λ s. going_on ScriptAsksJson (All AsksJson) (with_lines limits s [] ls) _ (lines_go_on limits s [] ls (All-nil AsksJson)) (λ lines h. h))

bytes_ask : (limits : Limits) (bytes : List ℕ) → IfOk (script_of limits bytes) ScriptAsksJson
bytes_ask limits bytes = whatever ScriptAsksJson (unless (nat_le (length bytes) script_limit) (record { line = 0; fault = too_long })) _ (λ u. script_asks limits (numbered_lines bytes))

pub asks_valid : (s : Schema) (line : Line Data) → AsksJson line → AsksValid s line
asks_valid s (asks session d) h = λ r e. read_are_valid_whole s d r h.numbers h.keys e
asks_valid s (add shard block) h = tt
asks_valid s (delete shard id) h = tt
asks_valid s (commit shard) h = tt
asks_valid s sync h = tt

pub scripts_ask_valid : ScriptsAskValid
scripts_ask_valid limits bytes S e = All-weaker AsksJson (AsksValid S.schema) (asks_valid S.schema) S.lines (IfOk-at_ok ScriptAsksJson e (bytes_ask limits bytes))
