-- Each generation by itself.
use Rattle.std.proofs.Common.{◌≡◌, ◌≤◌, ℕ, zero, suc, ◌<◌, List, [], ◌∷◌, map, length, get_or, Some, All, IsTrue, refl, sym, ◌∙◌, ap, subst, append-nil, arith}
use Rattle.std.specs.Prelude.{slice_get}
use Rattle.std.specs.Arc.{arc_value}
use Rattle.std.specs.declared.alloc.Global.{Global}
use Rattle.std.specs.declared.sync.Arc.{Arc}
use Rattle.std.proofs.lemmas.List.{get_or-map, length-map}
use Rattle.std.specs.List.{AllByRecursion}
use Rattle.fc_spec.specs.words.Lists.{joined}
use Rattle.fc_spec.specs.documents.Schema.{Schema}
use Rattle.fc_spec.specs.documents.Totals.{documents_in}
use Rattle.fc_spec.specs.documents.World.{World}
use Rattle.fc_spec.proofs.requests.Searchable.{searchable}
use Rattle.fc_spec.specs.requests.ValidRequests.{IsSearchable, IsValidRequest}
use Rattle.fc_spec.specs.scripts.ScriptTotals.{absolute_total, are_few, script_limits, total_limit}
use Rattle.fc_spec.specs.scripts.WorldLimits.{IsWithinLimits}
use Rattle.fc_jobs.proofs.SegmentLimits.{each_within}
use Rattle.fc_request.specs.RequestView.{request_view}
use Rattle.fc_request.specs.declared.request.Request.{Request}
use Rattle.fc_store.specs.Generated.{Generated}
use Rattle.fc_round.specs.Askable.{AreAskable, IsAskable, world_of}

-- the shards' blocks together, as those of one
within_together : (W : World) → IsWithinLimits W → IsWithinLimits (joined W ∷ [])
within_together W limits = record {
  shards = omega arith;
  few = subst (λ blocks. IsTrue (are_few script_limits (documents_in blocks))) (sym (append-nil (joined W))) limits.few;
  sums = λ field. subst (λ blocks. absolute_total (documents_in blocks) field ≤ total_limit) (sym (append-nil (joined W))) (limits.sums field);
}

within_at : (gs : List Generated) (k : ℕ) (d : Generated) → AllByRecursion (λ blocks. IsWithinLimits (blocks ∷ [])) (world_of gs) → k < length gs → IsWithinLimits ((get_or gs k d).blocks ∷ [])
within_at [] k d all below = absurd (omega (arith, below))
within_at (g ∷ gs) zero d all below = all.0
within_at (g ∷ gs) (suc k) d all below = within_at gs k d all.1 (omega (arith, below))

pub each_askable : (request : Request) (gs : List Generated) → AreAskable request gs → All (IsAskable request) gs
each_askable request gs all = λ k d below. record {
  root = all.root;
  valid = all.valid k d below;
  limits = within_at gs k d (each_within (world_of gs) (within_together (world_of gs) all.limits)) below;
}

-- the blocks of the shard with this number
pub blocks_at : (gs : List Generated) (k : ℕ) (d : Generated) → k < length gs → slice_get (world_of gs) k ≡ Some (get_or gs k d).blocks
blocks_at [] k d below = absurd (omega (arith, below))
blocks_at (g ∷ gs) zero d below = refl
blocks_at (g ∷ gs) (suc k) d below = blocks_at gs k d (omega (arith, below))

-- of a valid request a search can be made
pub all_searchable : (request : Request) (gs : List Generated) → All (λ g. IsValidRequest g.schema (request_view request)) gs → All (λ g. IsSearchable g.schema (request_view request)) gs
all_searchable request gs valid = λ k d below. searchable _ (request_view request) (valid k d below)

-- where there is a generation, it can by some schema
pub some_schema : (request : Request) (gs : List Generated) → All (λ g. IsSearchable g.schema (request_view request)) gs → 1 ≤ length gs → (s : Schema) × IsSearchable s (request_view request)
some_schema request [] valid some = absurd (omega (arith, some))
some_schema request (g ∷ gs) valid some = (g.schema, valid 0 g (omega (arith, some)))

-- the generation of the shard with this number, shared
pub own_askable : (request : Request) (gs : List (Arc Generated Global)) (k : ℕ) (g : Arc Generated Global) → AreAskable request (map (arc_value {X = Generated}) gs) → k < length gs → g ≡ get_or gs k g → IsAskable request (arc_value {X = Generated} g)
own_askable request gs k g all below is =
    subst (IsAskable request) (get_or-map (arc_value {X = Generated}) gs k g (arc_value {X = Generated} g) below ∙ ap (arc_value {X = Generated}) (sym is))
    (each_askable request (map (arc_value {X = Generated}) gs) all k (arc_value {X = Generated} g) (let long = length-map gs (arc_value {X = Generated}) in omega (arith, below, long)))

pub own_blocks : (gs : List (Arc Generated Global)) (k : ℕ) (g : Arc Generated Global) → k < length gs → g ≡ get_or gs k g → slice_get (world_of (map (arc_value {X = Generated}) gs)) k ≡ Some (arc_value {X = Generated} g).blocks
own_blocks gs k g below is =
    blocks_at (map (arc_value {X = Generated}) gs) k (arc_value {X = Generated} g) (let long = length-map gs (arc_value {X = Generated}) in omega (arith, below, long))
    ∙ ap (λ (x : Generated). Some x.blocks) (get_or-map (arc_value {X = Generated}) gs k g (arc_value {X = Generated} g) below ∙ ap (arc_value {X = Generated}) (sym is))

-- as many shards as generations
pub length-world : (gs : List (Arc Generated Global)) → length (world_of (map (arc_value {X = Generated}) gs)) ≡ length gs
length-world gs = length-map (map (arc_value {X = Generated}) gs) (λ g. g.blocks) ∙ length-map gs (arc_value {X = Generated})
