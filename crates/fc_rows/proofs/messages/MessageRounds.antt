-- The rounds of two levels of refining: who answers in which round, in how many bytes, and what they merge into.
use Rattle.std.specs.Prelude.{◌≡◌, [], ◌∷◌, refl, codes}
use Rattle.fc_spec.specs.messages.Rounds.{search_rounds, told_in}
use Rattle.fc_spec.specs.messages.Trace.{trace}
use Rattle.fc_spec.specs.messages.Merged.{merged}
use Rattle.fc_spec.specs.replies.Json.{facets_text}
use Rattle.fc_rows.proofs.Words.{written}
use Rattle.fc_rows.proofs.replies.NestedRefining.{request as nested, documents}

pub three_rounds : trace nested documents
    ≡ record { round = 1; shard = 0; length = 118 }
    ∷ record { round = 1; shard = 1; length = 118 }
    ∷ record { round = 2; shard = 1; length = 85 }
    ∷ record { round = 3; shard = 0; length = 43 }
    ∷ []
three_rounds = refl

pub merged_reply : facets_text (merged nested 2 (told_in nested.nodes (search_rounds nested documents)))
    ≡ codes "{\"cats\":{\"buckets\":[{\"count\":5,\"sizes\":{\"buckets\":[{\"count\":3,\"val\":\"l\"}]},\"val\":\"x\"}]},\"count\":8}"
unfolding written
merged_reply = refl
