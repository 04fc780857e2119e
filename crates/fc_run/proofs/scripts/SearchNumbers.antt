-- A script that was read has few searches.
use Rattle.std.proofs.Common.{◌≡◌, ℕ, ◌+◌, ◌≤◌, List, [], ◌∷◌, length, map, Result, Ok, Err, IfOk, refl, ap, arith}
use Rattle.std.specs.List.{enumerate_from}
use Rattle.std.proofs.lemmas.List.{length-append, length-map}
use Rattle.fc_spec.specs.documents.Val.{Text}
use Rattle.fc_spec.specs.laws.ScriptLaws.{StandByPhase, SearchesAreFew}
use Rattle.fc_spec.specs.scripts.AskedScripts.{AskedScript, asked_script}
use Rattle.fc_spec.specs.scripts.Phases.{searches}
use Rattle.fc_spec.specs.scripts.ScriptFault.{ScriptFault}
use Rattle.fc_spec.specs.scripts.ScriptParts.{parts_of}
use Rattle.fc_spec.specs.scripts.ScriptReading.{script_limit}
use Rattle.fc_spec.specs.scripts.ScriptTotals.{script_limits}
use Rattle.fc_spec.specs.words.Lists.{joined}
use Rattle.fc_script.specs.PartsView.{parts_view, phase_view, search_view}
use Rattle.fc_script.specs.declared.script.Phase.{Phase}
use Rattle.fc_script.specs.declared.script.Script.{Script}
use Rattle.fc_run.specs.Runnable.{searches_in}

view_searches : (ss : List Text) (n : ℕ) (ps : List Phase) → length (joined (map (λ p. p.searches) (map (phase_view ss) (enumerate_from n ps)))) ≡ length (searches_in ps)
view_searches ss n [] = refl
view_searches ss n (p ∷ ps) =
    let own = length-map p.searches.items (search_view ss n) in
    let rest = view_searches ss (n + 1) ps in
    let viewed = length-append (map (search_view ss n) p.searches.items) (joined (map (λ p. p.searches) (map (phase_view ss) (enumerate_from (n + 1) ps)))) in
    let all = length-append p.searches.items (searches_in ps) in
    omega (arith, own, rest, viewed, all)

pub few_searches : StandByPhase → (S : AskedScript) (s : Script) → parts_of S ≡ parts_view s → length (searches S.lines) ≤ script_limit → length (searches_in s.phases.items) ≤ 67_108_864
few_searches by_phase S s is few =
    let stand = ap length (by_phase S) in
    let parts = ap (λ parts. length (joined (map (λ p. p.searches) parts.phases))) is in
    let viewed = view_searches s.sessions.items 0 s.phases.items in
    omega (arith, stand, parts, viewed, few)

pub few_spelled : SearchesAreFew → (bytes : List ℕ) → IfOk (asked_script bytes) (λ S. length (searches S.lines) ≤ script_limit)
few_spelled few bytes = go (asked_script bytes) refl
  where
    go : (spelled : Result AskedScript ScriptFault) → asked_script bytes ≡ spelled → IfOk spelled (λ S. length (searches S.lines) ≤ script_limit)
    go (Ok S) is = few script_limits bytes S is
    go (Err f) is = tt
