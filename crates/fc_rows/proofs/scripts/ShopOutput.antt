-- The shop's script, and its whole output.
use Rattle.std.specs.Prelude.{ℕ, List, [], ◌∷◌, ◌++◌, map, None, Result, Ok, refl, codes}
use Rattle.fc_spec.specs.documents.Document.{Block}
use Rattle.fc_spec.specs.documents.Schema.{string, strings, plong}
use Rattle.fc_spec.specs.requests.Request.{Request}
use Rattle.fc_spec.specs.requests.RequestFault.{RequestFault}
use Rattle.fc_spec.specs.scripts.Script.{Line, add, commit, sync, asks, Script}
use Rattle.fc_spec.specs.scripts.Outputs.{IsOutput}
use Rattle.fc_rows.proofs.Words.{written}
use Rattle.fc_rows.proofs.replies.Shop.{first_shard, second_shard, request}

abbrev pub adds : ℕ → List Block → List (Line (Result Request RequestFault))
adds shard blocks = map (add shard) blocks

abbrev pub script : Script (Result Request RequestFault)
script = record {
  schema = record {
    shards = 2;
    fields = record { name = codes "id"; kind = string } ∷ record { name = codes "brand"; kind = string }
        ∷ record { name = codes "color"; kind = strings } ∷ record { name = codes "price"; kind = plong } ∷ [];
  };
  lines = adds 0 first_shard ++ (adds 1 second_shard ++ commit None ∷ sync ∷ asks (codes "shop") (Ok request) ∷ []);
}

pub output : IsOutput script
    (codes "{\"facets\":{\"brands\":{\"buckets\":[{\"count\":2,\"total\":25,\"val\":\"acme\"},{\"count\":2,\"total\":145,\"val\":\"orb\"},{\"count\":2,\"total\":85,\"val\":\"zen\"}]},\"colors\":{\"buckets\":[{\"count\":4,\"val\":\"red\"},{\"count\":3,\"val\":\"blue\"},{\"count\":2,\"val\":\"green\"}]},\"count\":4,\"prices\":{\"buckets\":[{\"count\":2,\"makers\":{\"buckets\":[{\"count\":2,\"val\":\"acme\"}]},\"val\":0},{\"count\":2,\"makers\":{\"buckets\":[{\"count\":2,\"val\":\"zen\"}]},\"val\":40}]},\"total\":110},\"generations\":[1,1],\"session\":\"shop\"}\n")
unfolding written
output = (1 ∷ 1 ∷ [], [], refl, refl, refl)
