-- What was sent for the lines of a phase ascends.
use Rattle.std.proofs.Common.{ℕ, List, [], ◌∷◌, Option, IfSome, Ok, Err, All, sym, subst}
use Rattle.std.proofs.lemmas.List.Elements.{All-nil, All-cons}
use Rattle.fc_spec.specs.documents.Document.{Batch}
use Rattle.fc_spec.specs.documents.Val.{Text}
use Rattle.fc_spec.specs.messages.Trace.{Sent}
use Rattle.fc_spec.specs.laws.TraceLaws.{Ascend}
use Rattle.fc_spec.specs.laws.PhaseLaws.{SentAscends}
use Rattle.fc_spec.specs.scripts.AskedScripts.{Asked}
use Rattle.fc_spec.specs.scripts.Outputs.{Replies}
use Rattle.fc_spec.specs.scripts.Phases.{Search}
use Rattle.fc_spec.specs.scripts.PinnedWorlds.{world_at}
use Rattle.fc_spec.specs.scripts.SearchLines.{least_after, SearchLine, IsLineOver, ArePhaseLines, sent_for}
use Rattle.fc_spec.proofs.messages.WholeTraces.{whole_traces_ascend}

module _ (reply : Replies) (shards : List (List Batch)) (high : List ℕ) where
  abbrev AscendsIf : Option (List Sent) → Type 0
  AscendsIf sent = IfSome sent Ascend

  line_ascends : (low : List ℕ) (session : Text) (a : Asked) (Then : List ℕ → Type 0) (l : SearchLine) (more : List (Option (List Sent)))
      → ((g : List ℕ) → Then g → All AscendsIf more) → IsLineOver reply shards low high session a Then l → All AscendsIf (l.sent ∷ more)
  line_ascends low session (Ok r) Then l more next (g, between, is, sent, then) = All-cons AscendsIf l.sent more (subst AscendsIf (sym sent) (whole_traces_ascend r (world_at shards g))) (next g then)
  line_ascends low session (Err f) Then l more next (is, sent, then) = All-cons AscendsIf l.sent more (subst AscendsIf (sym sent) tt) (next low then)

  lines_ascend : (least : Text → List ℕ) (qs : List (Search Asked)) (ls : List SearchLine) → ArePhaseLines reply shards high least qs ls → All AscendsIf (sent_for ls)
  lines_ascend least [] [] are = All-nil AscendsIf
  lines_ascend least [] (l ∷ ls) are = absurd are
  lines_ascend least (q ∷ qs) [] are = absurd are
  lines_ascend least (q ∷ qs) (l ∷ ls) are =
      line_ascends (least q.session) q.session q.request (λ g. ArePhaseLines reply shards high (least_after least q.session g) qs ls) l (sent_for ls)
      (λ g then. lines_ascend (least_after least q.session g) qs ls then) are

pub sent_ascends : SentAscends
sent_ascends reply shards high least qs ls are = lines_ascend reply shards high least qs ls are
