-- What a probe lists once a search has ended.
use Rattle.std.proofs.Common.{◌≡◌, ◌≤◌, List, [], ◌∷◌, length, Some, ◌∙◌, ap, arith}
use Rattle.std.specs.Prelude.{All, option_map}
use Rattle.std.proofs.lemmas.List.Elements.{All-head}
use Rattle.std.proofs.lemmas.Option.{same_Some}
use Rattle.fc_spec.specs.documents.Schema.{Schema}
use Rattle.fc_spec.specs.documents.World.{World}
use Rattle.fc_spec.specs.laws.TraceLaws.{ValidWholeTracesAreListed}
use Rattle.fc_spec.specs.messages.Lengths.{Lengths, entries_up_to, no_lengths, put_all}
use Rattle.fc_spec.specs.messages.WholeTrace.{whole_trace}
use Rattle.fc_spec.specs.requests.Request.{Request}
use Rattle.fc_spec.specs.requests.ValidRequests.{IsValidRequest}
use Rattle.fc_spec.specs.scripts.WorldLimits.{IsWithinLimits}
use Rattle.fc_store.specs.Ends.{Pinning}

-- what holds of the schema of each reader holds of some schema
of_some : (P : Schema → Type 0) (rs : List Pinning) → 1 ≤ length rs → All (λ r. P r.schema) rs → (s : Schema) × P s
of_some P [] some all = absurd (omega arith)
of_some P (r ∷ rs) some all = (r.schema, All-head (λ r. P r.schema) r rs all)

-- it was told of nothing before, so it lists the trace
pub listed_trace : ValidWholeTracesAreListed → (r : Request) (W : World) (rs : List Pinning) (before after : Lengths) → 1 ≤ length rs → All (λ reader. IsValidRequest reader.schema r) rs → IsWithinLimits W
    → before ≡ no_lengths → Some after ≡ option_map (put_all (whole_trace r W)) (Some before) → entries_up_to 16 64 after ≡ whole_trace r W
listed_trace listed r W rs before after some valid within none told =
    ap (entries_up_to 16 64) (same_Some after (put_all (whole_trace r W) before) told ∙ ap (put_all (whole_trace r W)) none)
    ∙ listed schema.0 r W 16 64 schema.1 (omega arith) within.shards
  where
    schema : (s : Schema) × IsValidRequest s r
    schema = of_some (λ s. IsValidRequest s r) rs some valid
