-- Workers are put behind others, and readers are handed out.
use Rattle.std.proofs.Common.{◌≡◌, ℕ, ◌+◌, ◌-◌, ◌<◌, ◌≤◌, inl, inr, List, [], ◌∷◌, ◌++◌, ◌==◌, true, cond, not, length, map, drop, set, get_or, Vec, Global, sym, ◌∙◌, ap, append_assoc, append-nil, arith}
use Rattle.std.specs.Prelude.{All}
use Rattle.std.specs.List.{filter}
use Rattle.std.proofs.lemmas.Bool.{cases_lt, ne_eqb}
use Rattle.std.proofs.lemmas.List.{drop_more, get_or-set_other, get_or-set_same, map-append}
use Rattle.std.proofs.lemmas.List.Elements.{filter-append, filter_map-append}
use Rattle.fc_spec.specs.documents.Val.{Text}
use Rattle.fc_store.specs.Charters.{last_number}
use Rattle.fc_store.specs.Ends.{Pinning}
use Rattle.fc_work.specs.Opened.{Place, commits_some, has_commits, index_in, indexes_in, place_for, place_in, session_in, sessions_in}
use Rattle.fc_work.specs.Seated.{Seat, seat_for, seat_in}
use Rattle.fc_work.specs.declared.index_worker.IndexWorker.{IndexWorker}
use Rattle.fc_work.specs.declared.session_worker.SessionWorker.{SessionWorker}
use Rattle.fc_work.specs.declared.stores.Opening.{Opening}
use Rattle.fc_work.specs.declared.worker.Worker.{Worker}
use Rattle.fc_work.specs.declared.worker.Worker.TheVariants.{Index, Session}

-- ---- the worker of a shard

pub index_sessions : (ws vs : List Worker) (w : IndexWorker) → vs ≡ ws ++ Index w ∷ [] → sessions_in vs ≡ sessions_in ws
index_sessions ws vs w is = ap sessions_in is ∙ filter_map-append session_in ws (Index w ∷ []) ∙ append-nil (sessions_in ws)

leaves : (m n : ℕ) → n ≡ m → (n ≡ 0 → ⊥) → not (m == 0) ≡ true
leaves m n same some = ap not (ne_eqb m 0 (λ none. some (same ∙ none)))

pub index_places : (ws vs : List Worker) (w : IndexWorker) (left : ℕ) → vs ≡ ws ++ Index w ∷ [] → left ≡ last_number w.writer.charter - w.writer.number → (left ≡ 0 → ⊥)
    → map place_in (indexes_in vs) ≡ map place_in (indexes_in ws) ++ map place_in (cond (has_commits w) (w ∷ []) [])
index_places ws vs w left is same some =
    ap (map place_in) (ap indexes_in is ∙ filter_map-append index_in ws (Index w ∷ [])) ∙ map-append place_in (indexes_in ws) (w ∷ [])
    ∙ ap (λ b. map place_in (indexes_in ws) ++ map place_in (cond b (w ∷ []) [])) (sym (leaves (last_number w.writer.charter - w.writer.number) left same some))

-- those of one store more
pub places_more : (before : List Place) (now after : List Place) (done : List Opening) (o : Opening) → now ≡ before ++ map place_for (filter commits_some done)
    → after ≡ now ++ map place_for (filter commits_some (o ∷ [])) → after ≡ before ++ map place_for (filter commits_some (done ++ o ∷ []))
places_more before now after done o so_far more =
    more ∙ ap (λ ps. ps ++ map place_for (filter commits_some (o ∷ []))) so_far
    ∙ append_assoc before (map place_for (filter commits_some done)) (map place_for (filter commits_some (o ∷ [])))
    ∙ ap (λ ps. before ++ ps) (sym (ap (map place_for) (filter-append commits_some done (o ∷ [])) ∙ map-append place_for (filter commits_some done) (filter commits_some (o ∷ []))))

-- ---- readers

abbrev Readers : Type 0
Readers = Vec Pinning Global

pub given_next : (seats initial : List Readers) (i : ℕ) (before after : Readers) (reader x : Pinning) (own : List Pinning) → i < length seats → i < length initial → before ≡ get_or seats i before
    → get_or seats i before ≡ get_or initial i before → All (λ seat. seat.items ≡ own) initial → after.items ≡ before.items ++ reader ∷ [] → reader ≡ x
    → ((k : ℕ) (d : Readers) → k < i → (get_or seats k d).items ≡ own ++ x ∷ []) → (k : ℕ) (d : Readers) → k < i + 1 → (get_or (set seats i after) k d).items ≡ own ++ x ∷ []
given_next seats initial i before after reader x own within there is same free more one so_far k d below =
    elim (cases_lt k i) [
      | inl less ↦ ap (λ (s : Readers). s.items) (get_or-set_other seats i k after d (λ e. omega (arith, e, less))) ∙ so_far k d less
      | inr most ↦
          let at : k ≡ i = omega (arith, most, below) in
          ap (λ j. (get_or (set seats i after) j d).items) at ∙ ap (λ (s : Readers). s.items) (get_or-set_same seats i after d within)
          ∙ more ∙ (λ j. (ap (λ (s : Readers). s.items) (is ∙ same) ∙ free i before there) j ++ one j ∷ [])
    ]

pub others_next : (seats : List Readers) (i : ℕ) (after : Readers) (k : ℕ) (d : Readers) → i + 1 ≤ k → get_or (set seats i after) k d ≡ get_or seats k d
others_next seats i after k d above = get_or-set_other seats i k after d (λ e. omega (arith, e, above))

-- ---- the worker of a session

pub session_indexes : (ws vs : List Worker) (w : SessionWorker) → vs ≡ ws ++ Session w ∷ [] → indexes_in vs ≡ indexes_in ws
session_indexes ws vs w is = ap indexes_in is ∙ filter_map-append index_in ws (Session w ∷ []) ∙ append-nil (indexes_in ws)

pub session_seats : (names : List Text) (readers : List Pinning) (before : List Seat) (sessions : List ℕ) (i c : ℕ) (ws vs : List Worker) (w : SessionWorker) (popped : Readers)
    → i < length sessions → c ≡ get_or sessions i 0 → vs ≡ ws ++ Session w ∷ [] → seat_in w ≡ seat_for names popped.items c → popped.items ≡ readers
    → map seat_in (sessions_in ws) ++ map (seat_for names readers) (drop i sessions) ≡ before
    → map seat_in (sessions_in vs) ++ map (seat_for names readers) (drop (i + 1) sessions) ≡ before
session_seats names readers before sessions i c ws vs w popped below at is seat own so_far =
    ap (λ seats. seats ++ map (seat_for names readers) (drop (i + 1) sessions))
    (ap (map seat_in) (ap sessions_in is ∙ filter_map-append session_in ws (Session w ∷ [])) ∙ map-append seat_in (sessions_in ws) (w ∷ []))
    ∙ append_assoc (map seat_in (sessions_in ws)) (seat_in w ∷ []) (map (seat_for names readers) (drop (i + 1) sessions))
    ∙ ap (λ seats. map seat_in (sessions_in ws) ++ seats)
    ((λ j. (seat ∙ ap (λ rs. seat_for names rs c) own ∙ ap (seat_for names readers) at) j ∷ map (seat_for names readers) (drop (i + 1) sessions)) ∙ sym (ap (map (seat_for names readers)) (drop_more sessions i 0 below)))
    ∙ so_far
