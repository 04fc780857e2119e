-- The lines that a run writes, each with its LF.
use Rattle.std.specs.Prelude.{ℕ, List, [], ◌∷◌, ◌++◌, codes}
use Rattle.serde_json.specs.Data.{string, array, object, Items, no_items, item, Members, no_members, put}
use Rattle.serde_json.specs.Written.{compact_text}
use Rattle.fc_spec.specs.documents.Val.{Text}
use Rattle.fc_spec.specs.replies.Reply.{Bucket}
use Rattle.fc_spec.specs.replies.Json.{natural_data, bucket_data}
use Rattle.fc_spec.specs.documents.DocFault.{detail_of}
use Rattle.fc_spec.specs.scripts.ScriptFault.{LineFault, bad_document, ScriptFault, line_fault_name, line_fault_number}
use Rattle.fc_spec.specs.requests.RequestFault.{RequestFault, fault_name, fault_number}

-- numbers as the items of an array
abbrev pub numbers_data : List ℕ → Items
numbers_data [] = no_items
numbers_data (n ∷ ns) = item (natural_data n) (numbers_data ns)

-- texts as the items of an array
abbrev pub texts_data : List Text → Items
texts_data [] = no_items
texts_data (t ∷ ts) = item (string t) (texts_data ts)

-- an object as a line
abbrev pub line_of : Members → Text
line_of ms = compact_text (object ms) ++ 10 ∷ []

-- the reply line of a search: its facets, the generation of each shard, its session
abbrev pub reply_line : Bucket → List ℕ → Text → Text
reply_line tree generations session =
    line_of (put (codes "facets") (bucket_data tree) (put (codes "generations") (array (numbers_data generations)) (put (codes "session") (string session) no_members)))

-- the error line of a search whose request has a fault
abbrev pub error_line : RequestFault → Text → Text
error_line f session =
    line_of (put (codes "error") (string (fault_name f.fault)) (put (codes "facet") (array (texts_data f.at))
    (put (codes "number") (natural_data (fault_number f.fault)) (put (codes "session") (string session) no_members))))

-- with the detail of a bad document
abbrev pub put_detail : LineFault → Members → Members
put_detail (bad_document d) ms = put (codes "detail") (string (detail_of d)) ms
put_detail _ ms = ms

-- the fault line of a refused script
abbrev pub fault_line : ScriptFault → Text
fault_line f =
    line_of (put_detail f.fault (put (codes "error") (string (line_fault_name f.fault)) (put (codes "line") (natural_data f.line)
    (put (codes "number") (natural_data (line_fault_number f.fault)) no_members))))
