-- Blocks that later lines overwrite or delete: what generations hold, and what searches write.
use Rattle.std.specs.Prelude.{◌≡◌, List, [], ◌∷◌, None, Result, Ok, refl, codes}
use Rattle.fc_spec.specs.documents.Document.{Op, adding, deleting}
use Rattle.fc_spec.specs.documents.Operations.{after_ops}
use Rattle.fc_spec.specs.requests.Request.{terms, no_nodes, facet, Request}
use Rattle.fc_spec.specs.requests.RequestFault.{RequestFault}
use Rattle.fc_spec.specs.queries.Query.{all}
use Rattle.fc_spec.specs.scripts.Script.{add, delete, commit, sync, asks, Script, batch_of, generation}
use Rattle.fc_spec.specs.scripts.ScriptTotals.{documents_added}
use Rattle.fc_spec.specs.scripts.Outputs.{IsOutput}
use Rattle.fc_rows.proofs.Words.{written, BothSay, said, labelled, terms_on, named, asking}
use Rattle.fc_rows.proofs.scripts.Sessions.{one_shard}
use Rattle.fc_rows.proofs.replies.Families.{child, parent_of_brand, family, is_parent}

-- the document with the id 1 is added once more, and then the one with 2 is deleted
abbrev pub counts : Result Request RequestFault
counts = Ok (asking (facet (named "c" (terms (terms_on 1))) no_nodes no_nodes))

abbrev pub script : Script (Result Request RequestFault)
script = record {
  schema = one_shard;
  lines =
      add 0 (labelled "1" "a") ∷ add 0 (labelled "2" "b") ∷ commit None ∷ add 0 (labelled "1" "c") ∷ commit None ∷ sync ∷ asks (codes "a") counts
      ∷ delete 0 (codes "2") ∷ commit None ∷ sync ∷ asks (codes "a") counts ∷ [];
}

-- the block that overwrites stands last
pub overwritten : generation script.lines 0 2 ≡ labelled "2" "b" ∷ labelled "1" "c" ∷ []
overwritten = refl

pub deleted : generation script.lines 0 3 ≡ labelled "1" "c" ∷ []
deleted = refl

-- an earlier generation stays what it is
pub earlier : generation script.lines 0 1 ≡ labelled "1" "a" ∷ labelled "2" "b" ∷ []
earlier = refl

pub batch_of_a_deletion : batch_of script.lines 0 2 ≡ deleting (codes "2") ∷ []
batch_of_a_deletion = refl

-- each document that is added counts
pub all_count : documents_added script.lines ≡ (said "1" ∷ said "a" ∷ []) ∷ (said "2" ∷ said "b" ∷ []) ∷ (said "1" ∷ said "c" ∷ []) ∷ []
all_count = refl

pub output : IsOutput script
    (codes "{\"facets\":{\"c\":{\"buckets\":[{\"count\":1,\"val\":\"b\"},{\"count\":1,\"val\":\"c\"}]},\"count\":2},\"generations\":[2],\"session\":\"a\"}\n{\"facets\":{\"c\":{\"buckets\":[{\"count\":1,\"val\":\"c\"}]},\"count\":1},\"generations\":[3],\"session\":\"a\"}\n")
unfolding written
output = (2 ∷ [], codes "{\"facets\":{\"c\":{\"buckets\":[{\"count\":1,\"val\":\"c\"}]},\"count\":1},\"generations\":[3],\"session\":\"a\"}\n", refl, refl, (3 ∷ [], [], refl, refl, refl))

-- ---- only the parent's id counts, and children go with their parent
abbrev pub three : List Op
three =
    adding (family (child "11" "red" ∷ child "12" "blue" ∷ []) (parent_of_brand "1" "acme")) ∷ adding (family [] (parent_of_brand "2" "zen"))
    ∷ adding (family (child "31" "red" ∷ []) (parent_of_brand "3" "zen")) ∷ []

pub child_stays : after_ops (after_ops [] three) (deleting (codes "11") ∷ []) ≡ after_ops [] three
child_stays = refl

pub family_goes : after_ops (after_ops [] three) (deleting (codes "1") ∷ []) ≡ family [] (parent_of_brand "2" "zen") ∷ family (child "31" "red" ∷ []) (parent_of_brand "3" "zen") ∷ []
family_goes = refl

pub parents_left : BothSay (record { query = is_parent; filters = []; nodes = no_nodes }) (after_ops (after_ops [] three) (deleting (codes "1") ∷ []) ∷ []) (codes "{\"count\":2}")
unfolding written
parents_left = (refl, refl)

pub all_left : BothSay (record { query = all; filters = []; nodes = no_nodes }) (after_ops (after_ops [] three) (deleting (codes "1") ∷ []) ∷ []) (codes "{\"count\":3}")
unfolding written
all_left = (refl, refl)

-- within a batch the last operation of an id decides; the deletion of an id that nothing has deletes nothing
pub last_of_a_batch :
    after_ops [] (adding (labelled "1" "a") ∷ deleting (codes "1") ∷ adding (labelled "2" "b") ∷ adding (labelled "2" "c") ∷ deleting (codes "9") ∷ []) ≡ labelled "2" "c" ∷ []
last_of_a_batch = refl
