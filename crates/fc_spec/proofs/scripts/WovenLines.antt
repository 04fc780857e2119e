-- The lines of sessions, woven, are the lines of their phase.
use Rattle.std.proofs.Common.{◌≡◌, ℕ, List, [], ◌∷◌, Bool, true, false, Ok, Err, drop, slice_index_or, refl, sym, ap, subst}
use Rattle.fc_spec.specs.documents.Document.{Batch}
use Rattle.fc_spec.specs.documents.Val.{Text, same_text}
use Rattle.fc_spec.specs.laws.PhaseLaws.{SessionsWeave}
use Rattle.fc_spec.specs.scripts.AskedScripts.{Asked}
use Rattle.fc_spec.specs.scripts.Outputs.{Replies}
use Rattle.fc_spec.specs.scripts.Phases.{Search}
use Rattle.fc_spec.specs.scripts.SearchLines.{least_after, asked_by, SearchLine, IsLineOver, ArePhaseLines, AreSessionLines, no_line, without_first, woven}
use Rattle.fc_spec.proofs.words.Texts.{same_itself, equal}

asked_own : (q : Search Asked) (qs : List (Search Asked)) → asked_by q.session (q ∷ qs) ≡ q.request ∷ asked_by q.session qs
asked_own q qs = rw (same_itself q.session) refl

asked_other : (session : Text) (q : Search Asked) (qs : List (Search Asked)) → same_text q.session session ≡ false → asked_by session (q ∷ qs) ≡ asked_by session qs
asked_other session q qs other = rw other refl

module _ (reply : Replies) (shards : List (List Batch)) (high : List ℕ) where
  -- what holds then, seen otherwise
  line_then : (low : List ℕ) (session : Text) (a : Asked) (Then Other : List ℕ → Type 0) (l : SearchLine)
      → ((g : List ℕ) → Then g → Other g) → IsLineOver reply shards low high session a Then l → IsLineOver reply shards low high session a Other l
  line_then low session (Ok r) Then Other l next (g, between, is, sent, then) = (g, between, is, sent, next g then)
  line_then low session (Err f) Then Other l next (is, sent, then) = (is, sent, next low then)

  -- each session has its lines
  abbrev EachHas : (Text → List ℕ) → List (Search Asked) → (Text → List SearchLine) → Type 0
  EachHas least qs lines = (session : Text) → AreSessionLines reply shards high session (least session) (asked_by session qs) (lines session)

  -- behind the first line of a session
  left : (least : Text → List ℕ) (q : Search Asked) (qs : List (Search Asked)) (lines : Text → List SearchLine) (l : SearchLine) (ls : List SearchLine) (g : List ℕ)
      → lines q.session ≡ l ∷ ls → EachHas least (q ∷ qs) lines → AreSessionLines reply shards high q.session g (asked_by q.session qs) ls → EachHas (least_after least q.session g) qs (without_first lines q.session)
  left least q qs lines l ls g is each own session = go (same_text q.session session) refl
    where
      rest : ls ≡ drop 1 (lines q.session)
      rest = ap (drop 1) (sym is)

      go : (b : Bool) → same_text q.session session ≡ b → AreSessionLines reply shards high session (least_after least q.session g session) (asked_by session qs) (without_first lines q.session session)
      go true e =
          rw e
          (subst (λ c. AreSessionLines reply shards high c g (asked_by c qs) (drop 1 (lines c))) (equal q.session session e)
          (subst (AreSessionLines reply shards high q.session g (asked_by q.session qs)) rest own))
      go false e = rw e (subst (λ asked. AreSessionLines reply shards high session (least session) asked (lines session)) (asked_other session q qs e) (each session))

  weave_one : (least : Text → List ℕ) (q : Search Asked) (qs : List (Search Asked)) (lines : Text → List SearchLine) (own : List SearchLine)
      → lines q.session ≡ own → EachHas least (q ∷ qs) lines → AreSessionLines reply shards high q.session (least q.session) (q.request ∷ asked_by q.session qs) own
      → ((now : Text → List ℕ) (then : Text → List SearchLine) → EachHas now qs then → ArePhaseLines reply shards high now qs (woven then qs))
      → ArePhaseLines reply shards high least (q ∷ qs) (slice_index_or own 0 no_line ∷ woven (without_first lines q.session) qs)
  weave_one least q qs lines [] is each has next = absurd has
  weave_one least q qs lines (l ∷ ls) is each has next =
      line_then (least q.session) q.session q.request
      (λ g. AreSessionLines reply shards high q.session g (asked_by q.session qs) ls)
      (λ g. ArePhaseLines reply shards high (least_after least q.session g) qs (woven (without_first lines q.session) qs))
      l
      (λ g then. next (least_after least q.session g) (without_first lines q.session) (left least q qs lines l ls g is each then))
      has

  weave : (least : Text → List ℕ) (qs : List (Search Asked)) (lines : Text → List SearchLine) → EachHas least qs lines → ArePhaseLines reply shards high least qs (woven lines qs)
  weave least [] lines each = tt
  weave least (q ∷ qs) lines each =
      weave_one least q qs lines (lines q.session) refl each
      (subst (λ asked. AreSessionLines reply shards high q.session (least q.session) asked (lines q.session)) (asked_own q qs) (each q.session))
      (λ now then has. weave now qs then has)

pub sessions_weave : SessionsWeave
sessions_weave reply shards high least qs lines each = weave reply shards high least qs lines each
