-- A phase's workers: that they can do their work, and what it makes of the phase.
use Rattle.std.proofs.Common.{◌≡◌, ℕ, ◌<◌, ◌≤◌, List, [], ◌∷◌, length, map, sym, ◌∙◌, ap, subst, arith}
use Rattle.std.specs.Prelude.{All, AllPairs, Result, false}
use Rattle.std.proofs.lemmas.List.{get_or-map, length-map}
use Rattle.std.proofs.lemmas.List.Elements.{All-nil, All-cons, All-head, All-map, All-tail, All-weaker}
use Rattle.fc_spec.specs.documents.Val.{Text, same_text}
use Rattle.fc_spec.specs.replies.Replied.{replied}
use Rattle.fc_spec.specs.scripts.PinnedWorlds.{world_added}
use Rattle.fc_spec.specs.scripts.WorldLimits.{IsWithinLimits}
use Rattle.fc_spec.specs.laws.PhaseLaws.{SessionsWeave}
use Rattle.fc_spec.specs.scripts.SearchLines.{ArePhaseLines}
use Rattle.fc_request.specs.declared.fault.RequestFault.{RequestFault}
use Rattle.fc_request.specs.declared.request.Request.{Request}
use Rattle.fc_script.specs.PartsView.{search_view}
use Rattle.fc_script.specs.declared.script.Search.{Search}
use Rattle.fc_search.specs.Schemas.{AreSame}
use Rattle.fc_store.specs.Ends.{Pinning}
use Rattle.fc_store.specs.Generated.{Generated}
use Rattle.fc_work.specs.Ends.{Ends, IsCalm, ends_of, nothing, with_ends}
use Rattle.fc_work.specs.Opened.{AreNumbered, pinning_in, sessions_in, start_in}
use Rattle.fc_work.specs.Phased.{AreMade, AreWorked, IsSearchBy, readers_in, whole_in}
use Rattle.fc_work.specs.Pinned.{charters_of, least_of, most_of}
use Rattle.fc_work.specs.SearchLineView.{line_views}
use Rattle.fc_work.specs.Seated.{Seat, seat_for, seat_in}
use Rattle.fc_work.specs.Sharing.{asking_of}
use Rattle.fc_work.specs.Working.{AreReady, CanAsk, CanWork}
use Rattle.fc_work.specs.Woven.{woven_by}
use Rattle.fc_work.specs.declared.ended.Ended.{Ended}
use Rattle.fc_work.specs.declared.stores.Opening.{Opening}
use Rattle.fc_work.specs.declared.worker.Worker.{Worker}
use Rattle.fc_work.specs.declared.worker.Worker.TheVariants.{Index, Session}
use Rattle.fc_work.proofs.EndedLines.{ended_count, lines_by_number}
use Rattle.fc_work.proofs.Numbered.{IsBelow, asks, orders}
use Rattle.fc_work.proofs.Wholes.{all_whole}
use Rattle.fc_work.proofs.Works.{all_have_lines, all_works, AllHaveLines, ended_generations, last_are, put_all, whole_at}
use Rattle.fc_work.proofs.WovenTexts.{phase_lines}

-- ---- they can

all_back : {X Y : Type 0} (P : Y → Type 0) (f : X → Y) (xs : List X) → All P (map f xs) → All (λ x. P (f x)) xs
all_back P f xs all k d below =
    let long = length-map xs f in
    subst P (get_or-map f xs k d (f d) below) (all k (f d) (omega (arith, long, below)))

module _ (order : List ℕ) (asked : List (Result Request RequestFault)) where
  abbrev IsSeatReady : Seat → Type 0
  IsSeatReady s = AreReady s.readers × All (CanAsk s.readers) asked

  each_can : (ws : List Worker) → All (λ w. IsSeatReady (seat_in w)) (sessions_in ws) → All (CanWork order asked) ws
  each_can [] sessions = All-nil (CanWork order asked)
  each_can (Index w ∷ ws) sessions = All-cons (CanWork order asked) (Index w) ws tt (each_can ws sessions)
  each_can (Session w ∷ ws) sessions =
      let here = All-head (λ w. IsSeatReady (seat_in w)) w (sessions_in ws) sessions in
      All-cons (CanWork order asked) (Session w) ws (record { readers = here.0; ask = here.1 })
      (each_can ws (All-tail (λ w. IsSeatReady (seat_in w)) w (sessions_in ws) sessions))

  pub can_work : (os : List Opening) (names : List Text) (ws : List Worker) → AreMade os names order ws → AreReady (readers_in os) → All (CanAsk (readers_in os)) asked → All (CanWork order asked) ws
  can_work os names ws made ready ask =
      each_can ws
      (all_back IsSeatReady seat_in (sessions_in ws) (subst (All IsSeatReady) (sym made.seats)
      (All-map IsSeatReady (seat_for names (readers_in os)) (asking_of order (length names)) (λ k d below. (ready, ask)))))

-- ---- what they have done

pub ended_whole : (os : List Opening) (names : List Text) (order : List ℕ) (asked : List (Result Request RequestFault)) (ws : List Worker) → AreWorked os names order asked ws → All IsCalm ws
    → AreNumbered os → (with_ends ws (nothing (map start_in os) (length names))).generations ≡ map whole_in os
ended_whole os names order asked ws are calm numbered =
    ended_generations ws (nothing (map start_in os) (length names))
    ∙ ap (λ lasting. put_all lasting (map start_in os))
    (last_are order asked are.before ws (all_works order asked are.before ws are.worked) calm ∙ ap (map whole_at) are.made.indexes)
    ∙ all_whole os numbered

pub ended_phase : SessionsWeave → (os : List Opening) (names : List Text) (qs : List Search) (ws : List Worker) (p : ℕ) → AreWorked os names (orders qs) (asks qs) ws → All IsCalm ws
    → AllPairs (λ a b. same_text a b ≡ false) names → All (IsSearchBy (length names) (readers_in os)) qs
    → ArePhaseLines replied (charters_of (readers_in os)) (most_of (readers_in os)) (λ session. least_of (readers_in os)) (map (search_view names p) qs)
    (woven_by (with_ends ws (nothing (map start_in os) (length names))).lines (orders qs))
ended_phase weave os names qs ws p are calm apart by =
    phase_lines weave names (readers_in os) (with_ends ws (nothing (map start_in os) (length names))).lines p qs apart (ended_count ws (map start_in os) (length names))
    (All-weaker (IsSearchBy (length names) (readers_in os)) (IsBelow (length names)) (λ q is. is.session) qs by)
    (lines_by_number (orders qs) (asks qs) names (readers_in os) (map start_in os) ws
    (subst (λ seats. AllHaveLines (orders qs) (asks qs) seats (sessions_in ws)) are.made.seats
    (all_have_lines (orders qs) (asks qs) are.before ws (all_works (orders qs) (asks qs) are.before ws are.worked) calm)))

-- ---- what is known of its searches

pub orders_below : (n : ℕ) (readers : List Pinning) (qs : List Search) (order : List ℕ) → order ≡ orders qs → All (IsSearchBy n readers) qs → All (λ s. s < n) order
orders_below n readers qs order is by =
    subst (All (λ s. s < n)) (sym is) (All-map (λ s. s < n) (λ q. q.session) qs (All-weaker (IsSearchBy n readers) (λ q. q.session < n) (λ q here. here.session) qs by))

pub asks_can : (n : ℕ) (readers : List Pinning) (qs : List Search) (asked : List (Result Request RequestFault)) → asked ≡ asks qs → All (IsSearchBy n readers) qs → All (CanAsk readers) asked
asks_can n readers qs asked is by =
    subst (All (CanAsk readers)) (sym is) (All-map (CanAsk readers) (λ q. q.request) qs (All-weaker (IsSearchBy n readers) (λ q. CanAsk readers q.request) (λ q here. here.ask) qs by))

pub as_many : (qs : List Search) (order : List ℕ) (asked : List (Result Request RequestFault)) → order ≡ orders qs → asked ≡ asks qs → length order ≡ length asked
as_many qs order asked is are = ap (λ ns. length ns) is ∙ length-map qs (λ q. q.session) ∙ sym (length-map qs (λ q. q.request)) ∙ sym (ap (λ xs. length xs) are)

pub some_order : (qs : List Search) (order : List ℕ) → order ≡ orders qs → 1 ≤ length qs → 1 ≤ length order
some_order qs order is some = let long = ap (λ ns. length ns) is ∙ length-map qs (λ q. q.session) in omega (arith, long, some)

pub readers_ready : (os : List Opening) → 1 ≤ length os → AreSame (map (λ r. r.schema) (readers_in os)) → IsWithinLimits (world_added (charters_of (readers_in os))) → AreReady (readers_in os)
readers_ready os some schema within = record { some = (let long = length-map os pinning_in in omega (arith, long, some)); schema = schema; limits = within }

-- there is a place for the lines of each session
pub within_lines : (ended : Ended) (ws : List Worker) (starts : List Generated) (n : ℕ) (order : List ℕ) → ends_of ended ≡ with_ends ws (nothing starts n) → All (λ s. s < n) order
    → All (λ s. s < length ended.lines.items) order
within_lines ended ws starts n order is below =
    let long : length ended.lines.items ≡ n = sym (length-map ended.lines.items (λ own. line_views own.items)) ∙ ap (λ e. length e.lines) is ∙ ended_count ws starts n in
    subst (λ m. All (λ s. s < m) order) (sym long) below

-- ---- the whole phase

-- workers have worked, and ended without wanting memory
pub phase_ended : (os : List Opening) (names : List Text) (qs : List Search) (order : List ℕ) (asked : List (Result Request RequestFault)) (ws : List Worker) (first ended : Ends)
    → first ≡ nothing (map start_in os) (length names) → ended ≡ with_ends ws first → AreWorked os names order asked ws → All IsCalm ws → AreNumbered os → ended.generations ≡ map whole_in os
phase_ended os names qs order asked ws first ended begun is are calm numbered =
    ap (λ e. e.generations) (is ∙ ap (with_ends ws) begun) ∙ ended_whole os names order asked ws are calm numbered

pub phase_woven : SessionsWeave → (os : List Opening) (names : List Text) (qs : List Search) (order : List ℕ) (asked : List (Result Request RequestFault)) (ws : List Worker) (first ended : Ends) (p : ℕ)
    → first ≡ nothing (map start_in os) (length names) → ended ≡ with_ends ws first → order ≡ orders qs → asked ≡ asks qs → AreWorked os names order asked ws → All IsCalm ws
    → AllPairs (λ a b. same_text a b ≡ false) names → All (IsSearchBy (length names) (readers_in os)) qs
    → ArePhaseLines replied (charters_of (readers_in os)) (most_of (readers_in os)) (λ session. least_of (readers_in os)) (map (search_view names p) qs) (woven_by ended.lines order)
phase_woven weave os names qs order asked ws first ended p begun is ordered asks_are are calm apart by =
    subst (ArePhaseLines replied (charters_of (readers_in os)) (most_of (readers_in os)) (λ session. least_of (readers_in os)) (map (search_view names p) qs))
    (λ i. woven_by ((sym (ap (λ e. e.lines) (is ∙ ap (with_ends ws) begun))) i) (sym ordered i))
    (ended_phase weave os names qs ws p (subst (λ o. AreWorked os names o (asks qs) ws) ordered (subst (λ a. AreWorked os names order a ws) asks_are are)) calm apart by)
