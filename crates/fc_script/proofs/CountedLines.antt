-- One line more behind the others: its block and its session.
use Rattle.std.proofs.Common.{◌≡◌, ℕ, List, [], ◌∷◌, ◌++◌, None, refl, ◌∙◌, ap, append-nil}
use Rattle.std.specs.List.{filter_map}
use Rattle.std.proofs.lemmas.List.Elements.{filter_map-append}
use Rattle.fc_spec.specs.documents.Val.{Text}
use Rattle.fc_spec.specs.documents.Document.{Block}
use Rattle.fc_spec.specs.scripts.AskedScripts.{Asked, AskedLine}
use Rattle.fc_spec.specs.scripts.Script.{add, asks}
use Rattle.fc_spec.specs.scripts.ScriptTotals.{added, session_in, sessions, first_ones}
use Rattle.fc_script.specs.Sessions.{with_session}
use Rattle.fc_script.proofs.SessionOrder.{first_ones-append}

-- ---- blocks

pub added-add : (ls : List AskedLine) (s : ℕ) (b : Block) → filter_map added (ls ++ add s b ∷ []) ≡ filter_map added ls ++ b ∷ []
added-add ls s b = filter_map-append added ls (add s b ∷ [])

pub added-other : (ls : List AskedLine) (l : AskedLine) → added l ≡ None → filter_map added (ls ++ l ∷ []) ≡ filter_map added ls
added-other ls l none = filter_map-append added ls (l ∷ []) ∙ ap (λ bs. filter_map added ls ++ bs) (rw none refl) ∙ append-nil (filter_map added ls)

-- ---- sessions

pub sessions-search : (ls : List AskedLine) (session : Text) (a : Asked) → sessions (ls ++ asks session a ∷ []) ≡ with_session (sessions ls) session
sessions-search ls session a = ap first_ones (filter_map-append session_in ls (asks session a ∷ [])) ∙ first_ones-append (filter_map session_in ls) session

pub sessions-other : (ls : List AskedLine) (l : AskedLine) → session_in l ≡ None → sessions (ls ++ l ∷ []) ≡ sessions ls
sessions-other ls l none = ap first_ones (filter_map-append session_in ls (l ∷ []) ∙ ap (λ ts. filter_map session_in ls ++ ts) (rw none refl) ∙ append-nil (filter_map session_in ls))
