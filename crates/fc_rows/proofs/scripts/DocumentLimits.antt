-- The limits on sums, documents and values, at their value.
use Rattle.std.specs.Prelude.{◌≡◌, refl, negsuc, pos, [], ◌∷◌, codes, Ok}
use Rattle.std.specs.Str.{is_utf8, chars}
use Rattle.fc_spec.specs.documents.Val.{long}
use Rattle.fc_spec.specs.documents.Schema.{string, plongs}
use Rattle.fc_spec.specs.scripts.Script.{add}
use Rattle.fc_spec.specs.scripts.ScriptTotals.{script_limits}
use Rattle.fc_spec.specs.scripts.ScriptReading.{script_of, script}
use Rattle.fc_rows.proofs.Words.{written, said}
use Rattle.fc_rows.proofs.scripts.Scripts.{lines, one, two}

-- absolute values that add up to the greatest sum
pub greatest_sum : script (lines (one ∷ codes "{\"add\":{\"doc\":{\"id\":\"a\",\"n\":9223372036854775806,\"_childDocuments_\":[{\"id\":\"b\",\"n\":-1}]}}}" ∷ []))
    ≡ Ok (record {
      schema = record { shards = 1; fields = record { name = codes "id"; kind = string } ∷ record { name = codes "n"; kind = plongs } ∷ [] };
      lines = add 0 (record { children = (said "b" ∷ (long (negsuc 0) ∷ []) ∷ []) ∷ []; parent = said "a" ∷ (long (pos 9_223_372_036_854_775_806) ∷ []) ∷ [] }) ∷ [];
    })
unfolding written is_utf8 chars
greatest_sum = refl

-- what every script may have
pub of_every_script : script_limits ≡ record { documents = 1_048_576; values = 16_777_216 }
of_every_script = refl

-- two documents of one value each, where a script may have two of both
pub two_of_two : script_of (record { documents = 2; values = 2 }) (lines (two ∷ codes "{\"add\":{\"doc\":{\"id\":\"a\",\"_childDocuments_\":[{\"id\":\"b\"}]}}}" ∷ []))
    ≡ Ok (record { schema = record { shards = 2; fields = record { name = codes "id"; kind = string } ∷ [] }; lines = add 0 (record { children = (said "b" ∷ []) ∷ []; parent = said "a" ∷ [] }) ∷ [] })
unfolding written is_utf8 chars
two_of_two = refl
