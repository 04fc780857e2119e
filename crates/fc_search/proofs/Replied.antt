-- What the reply is, once it can be made.
use Rattle.std.proofs.Common.{◌≡◌, suc, ◌<◌, ◌≤◌, ◌+◌, ◌-◌, ◌^◌, List, [], ◌∷◌, ◌++◌, map, length, All, true, cond, sym, ◌∙◌, ap, subst, arith}
use Rattle.std.specs.Arc.{arc_value}
use Rattle.std.specs.declared.alloc.Global.{Global}
use Rattle.std.specs.declared.sync.Arc.{Arc}
use Rattle.std.proofs.lemmas.List.{length-map}
use Rattle.fc_spec.specs.documents.Schema.{Schema}
use Rattle.fc_spec.specs.documents.World.{World}
use Rattle.fc_spec.specs.requests.Request.{Request}
use Rattle.fc_spec.specs.requests.ValidRequests.{IsSearchable}
use Rattle.fc_spec.specs.replies.Distributed.{distributed}
use Rattle.fc_spec.specs.replies.Reply.{Bucket}
use Rattle.fc_spec.specs.laws.Merging.{HasRoots, LacksNothing}
use Rattle.fc_spec.specs.laws.RequestLaws.{ValidHaveFewDepths}
use Rattle.fc_spec.specs.messages.Held.{Told}
use Rattle.fc_spec.specs.messages.Lacks.{terms_depth}
use Rattle.fc_spec.specs.messages.Merged.{merged}
use Rattle.fc_spec.specs.messages.Rounds.{SentMessage, told_in, rounds_from}
use Rattle.fc_spec.specs.messages.Trace.{Sent, entry_of, trace}
use Rattle.fc_request.specs.RequestView.{request_view}
use Rattle.fc_request.specs.declared.request.Request as code
use Rattle.fc_store.specs.Generated.{Generated}
use Rattle.fc_refine.specs.CountableRanges.{AreCountable}
use Rattle.fc_coord.specs.State.{State}
use Rattle.fc_coord.specs.Keeps.{Keeps}
use Rattle.fc_round.specs.Askable.{AreAskable}
use Rattle.fc_search.specs.Hearing.{HasHeard, IsHearing, WasTold, awaited_messages}
use Rattle.fc_search.specs.SearchLaws.{AreMergingLaws}

merges_whole : (laws : AreMergingLaws) (r : Request) (W : World) (s : State) (sent : List SentMessage) → WasTold r W s sent → s.ready ≡ true → merged s.request (length s.asks) (told_in r.nodes sent) ≡ distributed r W
merges_whole laws r W s sent told ready =
    let A = told_in r.nodes sent in
    let ended = told.kept.ended ready in
    let roots : HasRoots (length W) A = subst (λ n. HasRoots n A) told.shards ended.1 in
    let nothing : LacksNothing r (length W) A = subst (λ n. LacksNothing r n A) told.shards (subst (λ x. LacksNothing x (length s.asks) A) told.request ended.2) in
    (λ j. merged (told.request j) (told.shards j) A) ∙ laws.merges r W sent told.answers roots nothing

pub replied : (laws : AreMergingLaws) (r : Request) (W : World) (s : State) (b : Bucket) → IsHearing r W s → s.ready ≡ true → ((A : List Told) → Keeps s A → b ≡ merged s.request (length s.asks) A) → b ≡ distributed r W
replied laws r W s b (sent, told) ready is = is (told_in r.nodes sent) told.kept ∙ merges_whole laws r W s sent told ready

-- and what was told in the end is the trace
pub traced : (r : Request) (W : World) (s : State) (es : List Sent) → HasHeard r W s es → s.ready ≡ true → es ≡ trace r W
traced r W s es (sent, told, entries) ready = sym entries ∙ ap (map entry_of) (sym (ap (λ b. cond b sent (rounds_from r W (terms_depth r.nodes + 1 - s.round) (suc s.round) (sent ++ awaited_messages r W s))) ready) ∙ told.rounds)

-- where there is a generation, a search can be made by some schema
some_schema : (request : code.Request) (gs : List (Arc Generated Global)) → AreAskable request (map (arc_value {X = Generated}) gs) → 1 ≤ length gs → (s : Schema) × IsSearchable s (request_view request)
some_schema request gs askable some = go (map (arc_value {X = Generated}) gs) askable.valid (let long = length-map gs (arc_value {X = Generated}) in omega (arith, long, some))
  where
    go : (all : List Generated) → All (λ g. IsSearchable g.schema (request_view request)) all → 1 ≤ length all → (s : Schema) × IsSearchable s (request_view request)
    go [] valid any = absurd (omega (arith, any))
    go (g ∷ all) valid any = (g.schema, valid 0 g (omega arith))

-- what a coordinator asks of a request
pub begins_well : (laws : AreMergingLaws) (request : code.Request) (gs : List (Arc Generated Global)) → AreAskable request (map (arc_value {X = Generated}) gs) → 1 ≤ length gs → AreCountable (request_view request).nodes × (terms_depth (request_view request).nodes + 1 < 2 ^ 32)
begins_well laws request gs askable some =
    let schema = some_schema request gs askable some in
    (laws.countable schema.0 (request_view request) schema.1, let few = laws.few schema.0 (request_view request) schema.1 in omega (arith, few))

-- few terms facets stand around each other
pub few_depths : (depths : ValidHaveFewDepths) (request : code.Request) (gs : List (Arc Generated Global)) → AreAskable request (map (arc_value {X = Generated}) gs) → 1 ≤ length gs → terms_depth (request_view request).nodes ≤ 8
few_depths depths request gs askable some = let schema = some_schema request gs askable some in depths schema.0 (request_view request) schema.1
