-- The requests of a script that was read are spread.
use Rattle.std.proofs.Common.{◌≡◌, ℕ, ◌+◌, List, [], ◌∷◌, map, length, All, Result, Ok, Err, IfOk, subst, sym}
use Rattle.std.specs.Arc.{arc_value}
use Rattle.std.specs.List.{enumerate_from}
use Rattle.std.proofs.lemmas.List.Elements.{All-append, All-head, All-map, All-nil, All-tail, All-weaker}
use Rattle.fc_spec.specs.documents.Schema.{Schema}
use Rattle.fc_spec.specs.documents.Val.{Text}
use Rattle.fc_spec.specs.laws.ScriptLaws.{StandByPhase}
use Rattle.fc_spec.specs.requests.Spread.{IsSpread}
use Rattle.fc_spec.specs.requests.ValidRequests.{IsValidRequest}
use Rattle.fc_spec.specs.scripts.AskedScripts.{Asked, AskedScript}
use Rattle.fc_spec.specs.scripts.Phases as definition
use Rattle.fc_spec.specs.scripts.Phases.{searches}
use Rattle.fc_spec.specs.scripts.ScriptParts.{parts_of}
use Rattle.fc_spec.specs.scripts.ScriptTotals.{script_limits}
use Rattle.fc_spec.specs.words.Lists.{joined}
use Rattle.fc_request.specs.RequestView.{request_view}
use Rattle.fc_request.specs.declared.fault.RequestFault.{RequestFault}
use Rattle.fc_request.specs.declared.request.Request.{Request}
use Rattle.fc_lines.specs.LineView.{asked_view}
use Rattle.fc_script.specs.PartsView.{parts_view, phase_view, search_view}
use Rattle.fc_script.specs.SoundScripts.{IsSound, IsSoundSearch}
use Rattle.fc_script.specs.declared.script.Phase.{Phase}
use Rattle.fc_script.specs.declared.script.Script.{Script}

abbrev pub IsSpreadSearch : definition.Search Asked → Type 0
IsSpreadSearch q = IfOk q.request IsSpread

spread_request : (s : Schema) (a : Result Request RequestFault) → IfOk a (λ r. IsValidRequest s (request_view r)) → IfOk (asked_view a) IsSpread
spread_request s (Ok r) valid = valid.spread
spread_request s (Err f) valid = tt

phases_spread : (s : Schema) (sessions : ℕ) (ss : List Text) (i : ℕ) (ps : List Phase) → All (λ p. All (IsSoundSearch s sessions) p.searches.items) ps
    → All IsSpreadSearch (joined (map (λ p. p.searches) (map (phase_view ss) (enumerate_from i ps))))
phases_spread s sessions ss i [] sound = All-nil IsSpreadSearch
phases_spread s sessions ss i (p ∷ ps) sound =
    All-append IsSpreadSearch (map (search_view ss i) p.searches.items) (joined (map (λ q. q.searches) (map (phase_view ss) (enumerate_from (i + 1) ps))))
    (All-map IsSpreadSearch (search_view ss i) p.searches.items
    (All-weaker (IsSoundSearch s sessions) (λ q. IsSpreadSearch (search_view ss i q)) (λ q here. spread_request s q.request here.request) p.searches.items (All-head (λ q. All (IsSoundSearch s sessions) q.searches.items) p ps sound)))
    (phases_spread s sessions ss (i + 1) ps (All-tail (λ q. All (IsSoundSearch s sessions) q.searches.items) p ps sound))

-- since each search is one of a phase
pub searches_spread : StandByPhase → (S : AskedScript) (s : Script) → parts_of S ≡ parts_view s → IsSound script_limits s → All IsSpreadSearch (searches S.lines)
searches_spread by_phase S s is sound =
    subst (All IsSpreadSearch) (by_phase S)
    (subst (λ parts. All IsSpreadSearch (joined (map (λ p. p.searches) parts.phases))) (sym is)
    (phases_spread (arc_value s.schema) (length s.sessions.items) s.sessions.items 0 s.phases.items (λ k d below. (sound.phases k d below).searches)))
