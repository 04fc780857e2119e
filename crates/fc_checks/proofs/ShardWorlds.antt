-- Shards, one after another: the world of their generations.
use Rattle.std.proofs.Common.{◌≡◌, ◌+◌, List, [], ◌∷◌, ◌++◌, length, map, ◌∙◌, ap, append_assoc, length-append, subst, sym, arith}
use Rattle.std.specs.Prelude.{All}
use Rattle.std.proofs.lemmas.List.{get_or-append-add, map-append}
use Rattle.std.proofs.lemmas.List.Elements.{All-map, All-weaker}
use Rattle.fc_spec.specs.documents.Document.{Batch}
use Rattle.fc_spec.specs.documents.Schema.{Schema}
use Rattle.fc_spec.specs.documents.World.{World}
use Rattle.fc_spec.specs.requests.Request.{Request}
use Rattle.fc_spec.specs.requests.ValidRequests.{IsValidRequest}
use Rattle.fc_spec.specs.words.Lists.{joined}
use Rattle.fc_spec.specs.documents.Operations.{after_ops}
use Rattle.fc_round.specs.Askable.{world_of}
use Rattle.fc_search.specs.Schemas.{AreSame}
use Rattle.fc_store.specs.Generated.{Generated}
use Rattle.fc_checks.specs.Shards.{IsShardOf, world_left}

pub world_more : (gs after : List Generated) (g : Generated) (bs : List Batch) (rest : List (List Batch)) (whole : World) → after ≡ gs ++ g ∷ [] → g.blocks ≡ after_ops [] (joined bs)
    → world_of gs ++ world_left (bs ∷ rest) ≡ whole → world_of after ++ world_left rest ≡ whole
world_more gs after g bs rest whole pushed is so_far =
    ap (λ xs. world_of xs ++ world_left rest) pushed
    ∙ ap (λ xs. xs ++ world_left rest) (map-append (λ g. g.blocks) gs (g ∷ []))
    ∙ append_assoc (world_of gs) (g.blocks ∷ []) (world_left rest)
    ∙ ap (λ blocks. world_of gs ++ blocks ∷ world_left rest) is
    ∙ so_far

-- the last shard
pub last_shard : (s : Schema) (front : List (List Batch)) (bs : List Batch) → All (IsShardOf s) (front ++ bs ∷ []) → IsShardOf s bs
last_shard s front bs all = subst (IsShardOf s) (get_or-append-add front (bs ∷ []) 0 bs) (all (length front + 0) bs (omega (arith, length-append front (bs ∷ []))))

-- what is valid for a schema is so for each generation of it
pub valid_for_each : (s : Schema) (r : Request) (gs : List Generated) → IsValidRequest s r → All (λ g. g.schema ≡ s) gs → All (λ g. IsValidRequest g.schema r) gs
valid_for_each s r gs valid of = All-weaker (λ g. g.schema ≡ s) (λ g. IsValidRequest g.schema r) (λ g is. subst (λ z. IsValidRequest z r) (sym is) valid) gs of

-- generations of one schema have the same
pub same_schema : (s : Schema) (gs : List Generated) → All (λ g. g.schema ≡ s) gs → AreSame (map (λ g. g.schema) gs)
same_schema s gs of = (s, All-map (λ z. z ≡ s) (λ (g : Generated). g.schema) gs of)
