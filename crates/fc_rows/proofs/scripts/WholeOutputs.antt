-- Whole outputs of scripts: each reply line by the generations that it shows.
use Rattle.std.specs.Prelude.{List, [], ◌∷◌, None, Result, Ok, refl, codes}
use Rattle.fc_spec.specs.requests.Request.{no_nodes, Request}
use Rattle.fc_spec.specs.requests.RequestFault.{RequestFault}
use Rattle.fc_spec.specs.scripts.Script.{Line, add, commit, sync, asks, Script}
use Rattle.fc_spec.specs.scripts.Outputs.{IsOutput}
use Rattle.fc_rows.proofs.Words.{written, labelled, asking}
use Rattle.fc_rows.proofs.scripts.Sessions.{one_shard}
use Rattle.fc_rows.proofs.replies.TwoDocuments.{request}

abbrev pub script_of : List (Line (Result Request RequestFault)) → Script (Result Request RequestFault)
script_of lines = record { schema = one_shard; lines = lines }

-- the two documents in index order
abbrev pub two_documents : Script (Result Request RequestFault)
two_documents = script_of (add 0 (labelled "1" "b") ∷ add 0 (labelled "2" "a") ∷ commit None ∷ sync ∷ asks (codes "a") (Ok request) ∷ [])

pub one_line : IsOutput two_documents (codes "{\"facets\":{\"cats\":{\"buckets\":[{\"count\":1,\"val\":\"a\"},{\"count\":1,\"val\":\"b\"}]},\"count\":2},\"generations\":[1],\"session\":\"a\"}\n")
unfolding written
one_line = (1 ∷ [], [], refl, refl, refl)

-- no search, no line
pub no_line : IsOutput (script_of []) []
no_line = refl

-- a request of nothing but the count
abbrev pub counting : Result Request RequestFault
counting = Ok (asking no_nodes)

-- two generations, one after the other
abbrev pub growing : Script (Result Request RequestFault)
growing = script_of
    (add 0 (labelled "1" "a") ∷ commit None ∷ sync ∷ asks (codes "a") counting ∷ sync
    ∷ add 0 (labelled "2" "b") ∷ commit None ∷ sync ∷ asks (codes "a") counting ∷ [])

pub two_lines : IsOutput growing (codes "{\"facets\":{\"count\":1},\"generations\":[1],\"session\":\"a\"}\n{\"facets\":{\"count\":2},\"generations\":[2],\"session\":\"a\"}\n")
unfolding written
two_lines = (1 ∷ [], codes "{\"facets\":{\"count\":2},\"generations\":[2],\"session\":\"a\"}\n", refl, refl, (2 ∷ [], [], refl, refl, refl))
