-- A sum at the greatest number of 64 bits.
use Rattle.std.specs.Prelude.{pos, [], ◌∷◌, refl, codes}
use Rattle.fc_spec.specs.documents.World.{World}
use Rattle.fc_spec.specs.requests.Request.{sum, no_nodes, statistic, Request}
use Rattle.fc_rows.proofs.Words.{written, BothSay, said, numbered, alone, stat, asking}

-- fields: id, p
abbrev pub documents : World
documents = (alone (said "1" ∷ numbered (pos 9223372036854775806) ∷ []) ∷ alone (said "2" ∷ numbered (pos 1) ∷ []) ∷ []) ∷ []

abbrev pub request : Request
request = asking (statistic (codes "s") (stat sum 1) no_nodes)

pub wide_sum : BothSay request documents (codes "{\"count\":2,\"s\":9223372036854775807}")
unfolding written
wide_sum = (refl, refl)
