-- Lines woven by the numbers of sessions are woven by their names.
use Rattle.std.proofs.Common.{◌≡◌, ℕ, ◌<◌, ◌⊎◌, inl, inr, List, [], ◌∷◌, Bool, true, false, length, map, drop, set, get_or, slice_index_or, refl, sym, ◌∙◌, ap, subst}
use Rattle.std.specs.Prelude.{All, if◌then◌else◌}
use Rattle.std.proofs.lemmas.List.{length-set}
use Rattle.std.proofs.lemmas.List.Elements.{All-head, All-tail}
use Rattle.fc_spec.specs.documents.Val.{Text, same_text}
use Rattle.fc_spec.specs.replies.Replied.{replied}
use Rattle.fc_spec.specs.scripts.SearchLines.{asked_by, ArePhaseLines, AreSessionLines, SearchLine, no_line, without_first, woven}
use Rattle.fc_spec.proofs.words.Texts.{equal}
use Rattle.fc_spec.specs.laws.PhaseLaws.{SessionsWeave}
use Rattle.fc_script.specs.PartsView.{search_view}
use Rattle.fc_script.specs.declared.script.Search.{Search}
use Rattle.fc_store.specs.Ends.{Pinning}
use Rattle.fc_work.specs.Pinned.{charters_of, least_of, most_of}
use Rattle.fc_work.specs.Woven.{lines_at, woven_by}
use Rattle.fc_work.proofs.EndedLines.{AreLinesAt}
use Rattle.fc_work.proofs.Numbered.{AreApart, IsBelow, asked_at, asks, orders, asked_none, find_name, lines_of, lines_of-at, lines_of-none, lines_of-set}

-- without the first line of a session
without_is : (names : List Text) (lines : List (List SearchLine)) (i : ℕ) → AreApart names → length lines ≡ length names → i < length names
    → without_first (lines_of names lines) (get_or names i []) ≡ lines_of names (set lines i (drop 1 (lines_at lines i)))
without_is names lines i apart same below = λ k c. here c k
  where
    x : List SearchLine
    x = drop 1 (lines_at lines i)

    here : (c : Text) → without_first (lines_of names lines) (get_or names i []) c ≡ lines_of names (set lines i x) c
    here c = go (same_text (get_or names i []) c) refl ∙ sym (lines_of-set names lines i x c apart same below)
      where
        go : (b : Bool) → same_text (get_or names i []) c ≡ b
            → (if same_text (get_or names i []) c then drop 1 (lines_of names lines c) else lines_of names lines c) ≡ (if same_text (get_or names i []) c then x else lines_of names lines c)
        go true e = rw e (ap (drop 1) (ap (lines_of names lines) (sym (equal (get_or names i []) c e)) ∙ lines_of-at names lines i apart same below))
        go false e = rw e refl

pub woven_is : (names : List Text) (lines : List (List SearchLine)) (p : ℕ) (qs : List Search) → AreApart names → length lines ≡ length names → All (IsBelow (length names)) qs
    → woven_by lines (map (λ q. q.session) qs) ≡ woven (lines_of names lines) (map (search_view names p) qs)
woven_is names lines p [] apart same all = refl
woven_is names lines p (q ∷ qs) apart same all =
    let i = q.session in
    let below = All-head (IsBelow (length names)) q qs all in
    let rest = set lines i (drop 1 (lines_at lines i)) in
    let long = length-set lines i (drop 1 (lines_at lines i)) in
    (λ k. slice_index_or (sym (lines_of-at names lines i apart same below) k) 0 no_line ∷ woven_is names rest p qs apart (long ∙ same) (All-tail (IsBelow (length names)) q qs all) k)
    ∙ ap (λ left. slice_index_or (lines_of names lines (get_or names i [])) 0 no_line ∷ woven left (map (search_view names p) qs)) (sym (without_is names lines i apart same below))

-- the lines of all sessions, woven, are those of the phase
module _ (weave : SessionsWeave) (names : List Text) (readers : List Pinning) (lines : List (List SearchLine)) (p : ℕ) (qs : List Search) (apart : AreApart names) (same : length lines ≡ length names)
    (all : All (IsBelow (length names)) qs) (each : (c : ℕ) → c < length names → AreLinesAt (orders qs) (asks qs) names readers c (lines_at lines c)) where
  of_session : (c : Text) → AreSessionLines replied (charters_of readers) (most_of readers) c (least_of readers) (asked_by c (map (search_view names p) qs)) (lines_of names lines c)
  of_session c = go (find_name names c)
    where
      go : ((i : ℕ) × (i < length names) × (get_or names i [] ≡ c)) ⊎ ((i : ℕ) → i < length names → same_text (get_or names i []) c ≡ false)
          → AreSessionLines replied (charters_of readers) (most_of readers) c (least_of readers) (asked_by c (map (search_view names p) qs)) (lines_of names lines c)
      go (inl (i, below, is)) =
          subst (λ t. AreSessionLines replied (charters_of readers) (most_of readers) t (least_of readers) (asked_by t (map (search_view names p) qs)) (lines_of names lines t)) is
          (subst (λ asked. AreSessionLines replied (charters_of readers) (most_of readers) (get_or names i []) (least_of readers) asked (lines_of names lines (get_or names i []))) (sym (asked_at names p i qs apart below all))
          (subst (AreLinesAt (orders qs) (asks qs) names readers i) (sym (lines_of-at names lines i apart same below)) (each i below)))
      go (inr none) =
          subst (λ asked. AreSessionLines replied (charters_of readers) (most_of readers) c (least_of readers) asked (lines_of names lines c)) (sym (asked_none names p c qs all none))
          (subst (AreSessionLines replied (charters_of readers) (most_of readers) c (least_of readers) []) (sym (lines_of-none names lines c none)) tt)

  pub phase_lines : ArePhaseLines replied (charters_of readers) (most_of readers) (λ session. least_of readers) (map (search_view names p) qs) (woven_by lines (map (λ q. q.session) qs))
  phase_lines =
      subst (ArePhaseLines replied (charters_of readers) (most_of readers) (λ session. least_of readers) (map (search_view names p) qs)) (sym (woven_is names lines p qs apart same all))
      (weave replied (charters_of readers) (most_of readers) (λ session. least_of readers) (map (search_view names p) qs) (lines_of names lines) of_session)
