-- The lines of a script that was read, with the replies of a single index where nothing is cut off.
use Rattle.std.proofs.Common.{◌≡◌, ℕ, List, [], ◌∷◌, Bool, true, false, Ok, Err, IsTrue, refl, ◌∙◌, ap}
use Rattle.std.specs.Prelude.{if◌then◌else◌}
use Rattle.fc_spec.specs.documents.Document.{Batch}
use Rattle.fc_spec.specs.documents.Val.{Text}
use Rattle.fc_spec.specs.documents.World.{World, single}
use Rattle.fc_spec.specs.laws.FoldedNumbers.{FoldsSingleIndex}
use Rattle.fc_spec.specs.replies.Replied.{replied}
use Rattle.fc_spec.specs.replies.Exact.{exact}
use Rattle.fc_spec.specs.replies.Folded.{folded}
use Rattle.fc_spec.specs.requests.Request as definition
use Rattle.fc_spec.specs.requests.Shape.{no_limits}
use Rattle.fc_spec.specs.scripts.AskedScripts.{Asked}
use Rattle.fc_spec.specs.scripts.Lines.{reply_line}
use Rattle.fc_spec.specs.scripts.Phases.{Phase, Search}
use Rattle.fc_spec.specs.scripts.PinnedWorlds.{world_at}
use Rattle.fc_spec.specs.scripts.SearchLines.{least_after, SearchLine, AreLinesOfParts, AreLinesOfAll, ArePhaseLines, IsLineOver}
use Rattle.fc_script.specs.PartsView.{parts_view}
use Rattle.fc_script.specs.declared.script.Script.{Script}
use Rattle.fc_run.specs.Outcome.{single_without_limits}

if_so : {X : Type 0} (b : Bool) (x y : X) → (IsTrue b → x ≡ y) → x ≡ (if b then y else x)
if_so true x y same = same refl
if_so false x y same = refl

module _ (single_index : FoldsSingleIndex) (shards : List (List Batch)) where
  same_reply : (r : definition.Request) (W : World) → replied r W ≡ single_without_limits r W
  same_reply r W = if_so (no_limits r.nodes) (replied r W) (folded r (exact r (single W))) (λ unlimited. single_index r W unlimited)

  same_line : (low high : List ℕ) (session : Text) (a : Asked) (Then Later : List ℕ → Type 0) (l : SearchLine) → ((g : List ℕ) → Then g → Later g)
      → IsLineOver replied shards low high session a Then l → IsLineOver single_without_limits shards low high session a Later l
  same_line low high session (Ok r) Then Later l next (g, between, text, sent, more) =
      (g, between, text ∙ ap (λ b. reply_line b g session) (same_reply r (world_at shards g)), sent, next g more)
  same_line low high session (Err f) Then Later l next (text, sent, more) = (text, sent, next low more)

  same_lines : (high : List ℕ) (least : Text → List ℕ) (qs : List (Search Asked)) (ls : List SearchLine) → ArePhaseLines replied shards high least qs ls → ArePhaseLines single_without_limits shards high least qs ls
  same_lines high least [] [] are = are
  same_lines high least [] (l ∷ ls) are = absurd are
  same_lines high least (q ∷ qs) [] are = absurd are
  same_lines high least (q ∷ qs) (l ∷ ls) are =
      same_line (least q.session) high q.session q.request (λ g. ArePhaseLines replied shards high (least_after least q.session g) qs ls)
      (λ g. ArePhaseLines single_without_limits shards high (least_after least q.session g) qs ls) l
      (λ g more. same_lines high (least_after least q.session g) qs ls more)
      are

  same_phases : (before : List ℕ) (ps : List (Phase Asked)) (ls : List SearchLine) → AreLinesOfAll replied shards before ps ls → AreLinesOfAll single_without_limits shards before ps ls
  same_phases before [] ls are = are
  same_phases before (p ∷ ps) ls (own, rest, is, lines, more) = (own, rest, is, same_lines p.commits (λ session. before) p.searches own lines, same_phases p.commits ps rest more)

pub same_parts : FoldsSingleIndex → (s : Script) (ls : List SearchLine) → AreLinesOfParts replied (parts_view s) ls → AreLinesOfParts single_without_limits (parts_view s) ls
same_parts single_index s ls are = same_phases single_index (parts_view s).batches _ (parts_view s).phases ls are
