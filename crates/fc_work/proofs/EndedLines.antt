-- The lines of each session, by its number, once all workers have ended.
use Rattle.std.proofs.Common.{◌≡◌, ℕ, ◌<◌, ◌⊎◌, inl, inr, List, [], ◌∷◌, ◌==◌, Bool, true, false, length, map, set, get_or, refl, sym, ◌∙◌, ap, subst, zero-add, arith}
use Rattle.std.specs.Prelude.{All, Result}
use Rattle.std.specs.List.{list_any}
use Rattle.std.proofs.lemmas.Bool.{eqb-true, eqb-false}
use Rattle.std.proofs.lemmas.List.{get_or-set_same, get_or-set_other, length-set}
use Rattle.std.proofs.lemmas.List.Elements.{All-nil, All-cons, All-head, All-tail}
use Rattle.std.proofs.lemmas.List.FromFn.{get_or-map-range_with_len, length-map-range_with_len}
use Rattle.fc_spec.specs.documents.Val.{Text}
use Rattle.fc_spec.specs.replies.Replied.{replied}
use Rattle.fc_spec.specs.scripts.SearchLines.{AreSessionLines, SearchLine}
use Rattle.fc_request.specs.declared.fault.RequestFault.{RequestFault}
use Rattle.fc_request.specs.declared.request.Request.{Request}
use Rattle.fc_lines.specs.LineView.{asked_view}
use Rattle.fc_store.specs.Ends.{Pinning}
use Rattle.fc_store.specs.Generated.{Generated}
use Rattle.fc_work.specs.Ends.{Ends, nothing, with_end, with_ends}
use Rattle.fc_work.specs.Pinned.{charters_of, least_of, most_of}
use Rattle.fc_work.specs.Opened.{sessions_in}
use Rattle.fc_work.specs.SearchLineView.{line_views}
use Rattle.fc_work.specs.Seated.{seat_for}
use Rattle.fc_work.specs.Sharing.{asking_of}
use Rattle.fc_work.specs.Working.{asked_of}
use Rattle.fc_work.specs.Woven.{lines_at}
use Rattle.fc_work.specs.declared.session_worker.SessionWorker.{SessionWorker}
use Rattle.fc_work.specs.declared.worker.Worker.{Worker}
use Rattle.fc_work.specs.declared.worker.Worker.TheVariants.{Index, Session}
use Rattle.fc_work.proofs.Asking.{HasNumber, asks_nothing, is_asking}
use Rattle.fc_work.proofs.Works.{AllHaveLines, HasLines}

-- the lines of workers are put at their sessions, one after another
abbrev pub placed : List SessionWorker → List (List SearchLine) → List (List SearchLine)
placed [] lines = lines
placed (w ∷ ws) lines = placed ws (set lines w.session (line_views w.lines.items))

pub ended_lines : (ws : List Worker) (e : Ends) → (with_ends ws e).lines ≡ placed (sessions_in ws) e.lines
ended_lines [] e = refl
ended_lines (Index w ∷ ws) e = ended_lines ws (with_end (Index w) e)
ended_lines (Session w ∷ ws) e = ended_lines ws (with_end (Session w) e)

pub placed_count : (ws : List SessionWorker) (lines : List (List SearchLine)) → length (placed ws lines) ≡ length lines
placed_count [] lines = refl
placed_count (w ∷ ws) lines = placed_count ws (set lines w.session (line_views w.lines.items)) ∙ length-set lines w.session (line_views w.lines.items)

pub ended_count : (ws : List Worker) (starts : List Generated) (n : ℕ) → length (with_ends ws (nothing starts n)).lines ≡ n
ended_count ws starts n =
    ap (λ lines. length lines) (ended_lines ws (nothing starts n)) ∙ placed_count (sessions_in ws) (nothing starts n).lines
    ∙ length-map-range_with_len (λ (k : ℕ). let none : List SearchLine = [] in none) 0 n

-- one of them is of the session of this number
abbrev pub Has : ℕ → List SessionWorker → Type 0
Has c [] = ⊥
Has c (w ∷ ws) = (w.session ≡ c) ⊎ Has c ws

-- what holds of each one's lines, and of those before where there is none, holds at the session
module _ (P : ℕ → List SearchLine → Type 0) (c : ℕ) where
  step : (w : SessionWorker) (ws : List SessionWorker) (lines : List (List SearchLine)) → c < length lines → P w.session (line_views w.lines.items)
      → (b : Bool) → (w.session == c) ≡ b → (Has c (w ∷ ws) ⊎ P c (lines_at lines c)) → Has c ws ⊎ P c (lines_at (set lines w.session (line_views w.lines.items)) c)
  step w ws lines below own true e here =
      let same = eqb-true w.session c e in
      inr (subst (P c) (sym (ap (λ k. get_or (set lines k (line_views w.lines.items)) c []) same ∙ get_or-set_same lines c (line_views w.lines.items) [] below)) (subst (λ k. P k (line_views w.lines.items)) same own))
  step w ws lines below own false e (inl (inl same)) = absurd (eqb-false w.session c e same)
  step w ws lines below own false e (inl (inr more)) = inl more
  step w ws lines below own false e (inr is) =
      inr (subst (P c) (sym (get_or-set_other lines w.session c (line_views w.lines.items) [] (λ same. eqb-false w.session c e (sym same)))) is)

  pub at_session : (ws : List SessionWorker) (lines : List (List SearchLine)) → c < length lines → All (λ w. P w.session (line_views w.lines.items)) ws
      → (Has c ws ⊎ P c (lines_at lines c)) → P c (lines_at (placed ws lines) c)
  at_session [] lines below all (inl none) = absurd none
  at_session [] lines below all (inr is) = is
  at_session (w ∷ ws) lines below all here =
      at_session ws (set lines w.session (line_views w.lines.items)) (let long = length-set lines w.session (line_views w.lines.items) in omega (arith, long, below))
      (All-tail (λ w. P w.session (line_views w.lines.items)) w ws all)
      (step w ws lines below (All-head (λ w. P w.session (line_views w.lines.items)) w ws all) (w.session == c) refl here)

-- ---- from what sessions ask

module _ (order : List ℕ) (asked : List (Result Request RequestFault)) (names : List Text) (readers : List Pinning) where
  -- the lines are those of what the session of a number asks
  abbrev pub AreLinesAt : ℕ → List SearchLine → Type 0
  AreLinesAt c lines = AreSessionLines replied (charters_of readers) (most_of readers) (get_or names c []) (least_of readers) (map asked_view (asked_of c order asked)) lines

  abbrev AreAllAt : List SessionWorker → Type 0
  AreAllAt ws = All (λ w. AreLinesAt w.session (line_views w.lines.items)) ws

  abbrev HaveLines : List ℕ → List SessionWorker → Type 0
  HaveLines ns ws = AllHaveLines order asked (map (seat_for names readers) ns) ws

  lines_of_one : (n : ℕ) (w : SessionWorker) → HasLines order asked (seat_for names readers n) w → AreLinesAt w.session (line_views w.lines.items)
  lines_of_one n w has = subst (λ c. AreLinesAt c (line_views w.lines.items)) (sym has.session) has.lines

  all_at : (ns : List ℕ) (ws : List SessionWorker) → HaveLines ns ws → AreAllAt ws
  all_at [] [] has = All-nil (λ w. AreLinesAt w.session (line_views w.lines.items))
  all_at [] (w ∷ ws) has = absurd has
  all_at (n ∷ ns) [] has = absurd has
  all_at (n ∷ ns) (w ∷ ws) has = All-cons (λ w. AreLinesAt w.session (line_views w.lines.items)) w ws (lines_of_one n w has.0) (all_at ns ws has.1)

  has_at : (ns : List ℕ) (ws : List SessionWorker) (c : ℕ) → HaveLines ns ws → HasNumber c ns → Has c ws
  has_at [] ws c has is = absurd is
  has_at (n ∷ ns) [] c has is = absurd has
  has_at (n ∷ ns) (w ∷ ws) c has (inl same) = inl (has.0.session ∙ same)
  has_at (n ∷ ns) (w ∷ ws) c has (inr more) = inr (has_at ns ws c has.1 more)

  nothing_at : (starts : List Generated) (n c : ℕ) → c < n → lines_at (nothing starts n).lines c ≡ []
  nothing_at starts n c below = get_or-map-range_with_len (λ k. []) 0 n c c [] below (zero-add c)

  lines_here : (starts : List Generated) (ws : List SessionWorker) (c : ℕ) → HaveLines (asking_of order (length names)) ws → c < length names
      → (b : Bool) → list_any (λ s. s == c) order ≡ b → Has c ws ⊎ AreLinesAt c (lines_at (nothing starts (length names)).lines c)
  lines_here starts ws c has below true e = inl (has_at (asking_of order (length names)) ws c has (is_asking order (length names) c below e))
  lines_here starts ws c has below false e =
      inr
      (subst (AreLinesAt c) (sym (nothing_at starts (length names) c below))
      (subst (λ asks. AreSessionLines replied (charters_of readers) (most_of readers) (get_or names c []) (least_of readers) (map asked_view asks) []) (sym (asks_nothing c order asked e)) tt))

  pub lines_by_number : (starts : List Generated) (workers : List Worker) → HaveLines (asking_of order (length names)) (sessions_in workers)
      → (c : ℕ) → c < length names → AreLinesAt c (lines_at (with_ends workers (nothing starts (length names))).lines c)
  lines_by_number starts workers has c below =
      subst (λ all. AreLinesAt c (lines_at all c)) (sym (ended_lines workers (nothing starts (length names))))
      (at_session AreLinesAt c (sessions_in workers) (nothing starts (length names)).lines
      (let long = length-map-range_with_len (λ (k : ℕ). let none : List SearchLine = [] in none) 0 (length names) in omega (arith, long, below))
      (all_at (asking_of order (length names)) (sessions_in workers) has)
      (lines_here starts (sessions_in workers) c has below (list_any (λ s. s == c) order) refl))
