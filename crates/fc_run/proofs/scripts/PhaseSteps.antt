-- The searches of a phase over its generations, and the lines that a phase adds.
use Rattle.std.proofs.Common.{◌≡◌, ℕ, ◌+◌, List, ◌∷◌, [], ◌++◌, map, Result, Ok, Err, IfOk, refl, sym, subst, append_assoc, append-nil}
use Rattle.std.specs.Prelude.{All}
use Rattle.std.specs.List.{enumerate_from, zip}
use Rattle.std.proofs.lemmas.List.Elements.{All-map, All-weaker}
use Rattle.fc_spec.specs.documents.Document.{Batch}
use Rattle.fc_spec.specs.documents.Schema.{Schema}
use Rattle.fc_spec.specs.documents.Val.{Text}
use Rattle.fc_spec.specs.replies.Replied.{replied}
use Rattle.fc_spec.specs.requests.ValidRequests.{IsValidRequest}
use Rattle.fc_spec.specs.scripts.SearchLines.{SearchLine, AreLinesOfAll, ArePhaseLines}
use Rattle.fc_request.specs.RequestView.{request_view}
use Rattle.fc_request.specs.declared.fault.RequestFault.{RequestFault}
use Rattle.fc_request.specs.declared.request.Request.{Request}
use Rattle.fc_script.specs.PartsView.{phase_view, search_view}
use Rattle.fc_script.specs.SoundScripts.{IsSoundSearch}
use Rattle.fc_script.specs.declared.script.Phase.{Phase}
use Rattle.fc_script.specs.declared.script.Search.{Search}
use Rattle.fc_store.specs.Generated.{Generated}
use Rattle.fc_run.specs.Generations.{generation_at, generations_at}
use Rattle.fc_run.specs.Runnable.{IsSearchOf}

-- ---- searches

request_of : (s : Schema) (gs : List Generated) (a : Result Request RequestFault) → All (λ g. g.schema ≡ s) gs → IfOk a (λ r. IsValidRequest s (request_view r))
    → IfOk a (λ r. All (λ g. IsValidRequest g.schema (request_view r)) gs)
request_of s gs (Ok r) same valid =
    All-weaker (λ g. g.schema ≡ s) (λ g. IsValidRequest g.schema (request_view r)) (λ g is. subst (λ t. IsValidRequest t (request_view r)) (sym is) valid) gs same
request_of s gs (Err f) same valid = tt

pub searches_of : (s : Schema) (shards : List (List Batch)) (numbers : List ℕ) (gs : List Generated) (n : ℕ) (qs : List Search) → gs ≡ generations_at s shards numbers
    → All (IsSoundSearch s n) qs → All (IsSearchOf gs n) qs
searches_of s shards numbers gs n qs is sound =
    All-weaker (IsSoundSearch s n) (IsSearchOf gs n) (λ q here. record { session = here.session; request = request_of s gs q.request schemas here.request; root = here.root }) qs sound
  where
    schemas : All (λ g. g.schema ≡ s) gs
    schemas = subst (All (λ g. g.schema ≡ s)) (sym is) (All-map (λ g. g.schema ≡ s) (λ x. generation_at s x.0 x.1) (zip shards numbers) (λ k d below. refl))

-- ---- lines

-- the lines of a phase, behind those of the phases before it
pub lines_more : (shards : List (List Batch)) (before : List ℕ) (ss : List Text) (i : ℕ) (p : Phase) (ps : List Phase) (lines own : List SearchLine) (Whole : List SearchLine → Type 0)
    → ArePhaseLines replied shards p.commits.items (λ session. before) (map (search_view ss i) p.searches.items) own
    → ((ls : List SearchLine) → AreLinesOfAll replied shards before (map (phase_view ss) (enumerate_from i (p ∷ ps))) ls → Whole (lines ++ ls))
    → (ls : List SearchLine) → AreLinesOfAll replied shards p.commits.items (map (phase_view ss) (enumerate_from (i + 1) ps)) ls → Whole ((lines ++ own) ++ ls)
lines_more shards before ss i p ps lines own Whole are so_far ls more = subst Whole (sym (append_assoc lines own ls)) (so_far (own ++ ls) (own, ls, refl, are, more))

pub lines_done : (lines : List SearchLine) (Whole : List SearchLine → Type 0) → Whole (lines ++ []) → Whole lines
lines_done lines Whole is = subst Whole (append-nil lines) is
