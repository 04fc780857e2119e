-- What is left of a script has some lines: those over the numbers at the ends of its phases.
use Rattle.std.proofs.Common.{ℕ, ◌+◌, List, [], ◌∷◌, ◌++◌, Bool, true, false, map, None, Some, Ok, Err, refl, arith}
use Rattle.std.specs.Prelude.{if◌then◌else◌}
use Rattle.std.specs.List.{enumerate_from}
use Rattle.fc_spec.specs.documents.Document.{Batch}
use Rattle.fc_spec.specs.documents.Val.{Text, same_text}
use Rattle.fc_spec.specs.messages.WholeTrace.{whole_trace}
use Rattle.fc_spec.specs.scripts.AskedScripts.{Asked}
use Rattle.fc_spec.specs.scripts.Lines.{reply_line, error_line}
use Rattle.fc_spec.specs.scripts.Outputs.{Replies}
use Rattle.fc_spec.specs.scripts.Phases.{Search}
use Rattle.fc_spec.specs.scripts.PinnedWorlds.{world_at}
use Rattle.fc_spec.specs.scripts.SearchLines.{least_after, SearchLine, AreLinesOfAll, ArePhaseLines, IsLineOver}
use Rattle.fc_script.specs.PartsView.{phase_view, search_view}
use Rattle.fc_script.specs.declared.script.Phase.{Phase}
use Rattle.fc_run.specs.Runnable.{AreRising, commits_in}
use Rattle.fc_run.proofs.scripts.Carried.{Below}

-- what a session was shown is no more than what the phase has
least_below : (high g : List ℕ) (least : Text → List ℕ) (session c : Text) → Below g high → ((c : Text) → Below (least c) high) → Below (least_after least session g c) high
least_below high g least session c here all = go (same_text session c)
  where
    go : (b : Bool) → Below (if b then g else least c) high
    go true = here
    go false = all c

module _ (reply : Replies) (shards : List (List Batch)) where
  line_there : (high from : List ℕ) (session : Text) (a : Asked) (Then : List ℕ → List SearchLine → Type 0) → Below from high → ((g : List ℕ) → Below g high → (ls : List SearchLine) × Then g ls)
      → (l : SearchLine) × (ls : List SearchLine) × IsLineOver reply shards from high session a (λ g. Then g ls) l
  line_there high from session (Ok r) Then below next =
      let more = next high (λ i. omega arith) in (
        record { text = reply_line (reply r (world_at shards high)) high session; sent = Some (whole_trace r (world_at shards high)) },
        more.0,
        (high, record { count = refl; above = below; below = λ i. omega arith }, refl, refl, more.1),
      )
  line_there high from session (Err f) Then below next =
      let more = next from below in (record { text = error_line f session; sent = None }, more.0, (refl, refl, more.1))

  lines_there : (high : List ℕ) (least : Text → List ℕ) (qs : List (Search Asked)) → ((c : Text) → Below (least c) high) → (ls : List SearchLine) × ArePhaseLines reply shards high least qs ls
  lines_there high least [] below = ([], tt)
  lines_there high least (q ∷ qs) below =
      let all = line_there high (least q.session) q.session q.request (λ g ls. ArePhaseLines reply shards high (least_after least q.session g) qs ls) (below q.session)
      (λ g here. lines_there high (least_after least q.session g) qs (λ c. least_below high g least q.session c here below)) in (all.0 ∷ all.1, all.2)

  pub rest_there : (ss : List Text) (done : ℕ) (before : List ℕ) (left : List Phase) → AreRising before (commits_in left)
      → (ls : List SearchLine) × AreLinesOfAll reply shards before (map (phase_view ss) (enumerate_from done left)) ls
  rest_there ss done before [] rising = ([], refl)
  rest_there ss done before (p ∷ ps) rising =
      let own = lines_there p.commits.items (λ session. before) (map (search_view ss done) p.searches.items) (λ c. rising.0) in
      let rest = rest_there ss (done + 1) p.commits.items ps rising.1 in (
        own.0 ++ rest.0,
        (own.0, rest.0, refl, own.1, rest.1),
      )
