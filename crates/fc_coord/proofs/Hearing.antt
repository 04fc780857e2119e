-- What a message of an awaited shard adds to what is kept.
use Rattle.std.proofs.Common.{◌≡◌, ◌≢◌, ◌⊎◌, ℕ, zero, suc, List, [], ◌∷◌, ◌++◌, append_assoc, map, length, Bool, true, false, ◌&&◌, ◌||◌, ◌==◌, ◌<◌, Option, None, Some, is_some, IsTrue, refl, sym, ◌∙◌, ap, subst, inl, inr, arith}
use Rattle.std.specs.Prelude.{slice_set, ◌↔◌}
use Rattle.std.specs.List.{AllByRecursion, filter, list_any}
use Rattle.std.proofs.lemmas.Bool.{false≢true, and_parts, eq-eqb, cases_eq}
use Rattle.fc_spec.specs.requests.Request.{Nodes, Request}
use Rattle.fc_spec.specs.requests.Ranks.{offered_bound}
use Rattle.fc_spec.specs.messages.Message.{Partials, no_partials, partial, Want, way_of, Ask, first, more}
use Rattle.fc_spec.specs.messages.MessageShape.{wants_fit, is_shaped}
use Rattle.fc_spec.specs.messages.Target.{target_of, target_nodes}
use Rattle.fc_spec.specs.messages.Held.{Told, held, told_wants, told_by}
use Rattle.fc_spec.specs.messages.Lacks.{Lack, lacks}
use Rattle.fc_spec.specs.messages.Rounds.{wants_of}
use Rattle.fc_spec.specs.laws.LacksLaws.{names_keys, IsThere, IsFitting, TellOnce, way_depth, AreOfOthers}
use Rattle.fc_spec.specs.laws.SumsLaw.{SumsFit}
use Rattle.fc_told.specs.Adding.{all_added}
use Rattle.fc_told.specs.Fitting.{all_fit}
use Rattle.fc_refine.specs.Named.{NamesKeys}
use Rattle.fc_told.specs.Telling.{TellsMore, FitsExactly}
use Rattle.fc_spec.proofs.words.Members.{Member, filter_member, member_of_filter, all_from_members, each_member}
use Rattle.fc_spec.proofs.words.AlikeLists.{member_map}
use Rattle.fc_spec.proofs.messages.HeldFurther.{all_append, held_among_more, held_among_later, told_held}
use Rattle.fc_spec.proofs.messages.FittingBuckets.{shaped_are_fitting}
use Rattle.fc_spec.proofs.messages.LacksThere.{lacks_are_there}
use Rattle.fc_spec.proofs.messages.LacksDeep.{lack_is_deep}
use Rattle.fc_spec.proofs.messages.ToldOnce.{told_want, first_tell_once, rounds_tell_once}
use Rattle.fc_spec.proofs.messages.Ways.{none_not_some}
use Rattle.fc_coord.specs.State.{State, ask_at, is_awaited, told_for, told_of, is_shaped_for, is_fitting, Fits, heard}
use Rattle.fc_coord.specs.Keeps.{Round, roots, lacking_at, depth_of, ask_in, Begins, IsAnswered, AreAnswered, IsRooted, Keeps}
use Rattle.fc_coord.specs.View.{KeepsAt}

-- ---- the asks, once a shard is heard

pub length-heard : (asks : List (Option Ask)) (i : ℕ) → length (slice_set asks i None) ≡ length asks
length-heard [] i = refl
length-heard (x ∷ xs) zero = refl
length-heard (x ∷ xs) (suc i) = ap suc (length-heard xs i)

-- whoever is asked then is another, and was asked the same before
still_asked : (asks : List (Option Ask)) (i j : ℕ) (ask : Ask) → ask_at (slice_set asks i None) j ≡ Some ask → (j ≢ i) × (ask_at asks j ≡ Some ask)
still_asked [] i j ask e = absurd (none_not_some ask e)
still_asked (x ∷ xs) zero zero ask e = absurd (none_not_some ask e)
still_asked (x ∷ xs) zero (suc j) ask e = (λ h. absurd (omega arith), e)
still_asked (x ∷ xs) (suc i) zero ask e = (λ h. absurd (omega arith), e)
still_asked (x ∷ xs) (suc i) (suc j) ask e = let r = still_asked xs i j ask e in (λ h. r.0 (omega arith), r.1)

-- whoever is another is asked the same
asked_still : (asks : List (Option Ask)) (i j : ℕ) → j ≢ i → ask_at (slice_set asks i None) j ≡ ask_at asks j
asked_still [] i j other = refl
asked_still (x ∷ xs) zero zero other = absurd (other refl)
asked_still (x ∷ xs) zero (suc j) other = refl
asked_still (x ∷ xs) (suc i) zero other = refl
asked_still (x ∷ xs) (suc i) (suc j) other = asked_still xs i j (λ h. other (omega arith))

-- where nobody is asked, no shard is
pub none_asked : (asks : List (Option Ask)) (i : ℕ) → list_any is_some asks ≡ false → is_some (ask_at asks i) ≡ false
none_asked [] i none = refl
none_asked (None ∷ xs) zero none = refl
none_asked (None ∷ xs) (suc i) none = none_asked xs i none
none_asked (Some a ∷ xs) i none = absurd (false≢true (sym none))

-- ---- what is told in a round

-- by the shard that is asked
told_own : (nodes : Nodes) (i : ℕ) (ask : Ask) (m : Partials) → AllByRecursion (λ t. t.shard ≡ i) (told_by nodes i ask m)
told_own nodes i first no_partials = tt
told_own nodes i first (partial key stats rows rest) = (refl, tt)
told_own nodes i (more ws) m = all_from_members (λ t. t.shard ≡ i) (told_wants nodes i ws m) (λ t there. (told_want nodes i ws m t there).2)

others_more : (j : ℕ) (B T : List Told) (i : ℕ) → AreOfOthers j B → AllByRecursion (λ t. t.shard ≡ i) T → j ≢ i → AreOfOthers j (B ++ T)
others_more j B T i b t apart = all_append (λ u. u.shard ≢ j) B T b (all_from_members (λ u. u.shard ≢ j) T (λ u m e. apart (sym e ∙ each_member (λ x. x.shard ≡ i) T u t m)))

-- what is wanted of a shard lacks there
lack_of : (i : ℕ) (all : List Lack) (w : Want) → Member w (wants_of i all) → (l : Lack) × Member l all × (w ≡ l.want)
lack_of i all w m =
    let r = member_map (λ (l : Lack). l.want) (filter (λ l. l.shard == i) all) w m in
    (r.0, (filter_member (λ (l : Lack). l.shard == i) all r.0 r.1).0, r.2)

-- and what lacks is wanted of its shard
pub want_there : (i : ℕ) (all : List Lack) (l : Lack) → Member l all → l.shard ≡ i → Member l.want (wants_of i all)
want_there i all l m e = go (filter (λ k. k.shard == i) all) (member_of_filter (λ k. k.shard == i) all l m (eq-eqb l.shard i e))
  where
    go : (ls : List Lack) → Member l ls → Member l.want (map (λ (k : Lack). k.want) ls)
    go [] n = absurd n
    go (k ∷ ks) (inl h) = inl (ap (λ (x : Lack). x.want) h)
    go (k ∷ ks) (inr n) = inr (go ks n)

-- at the depth of the round
told_depth : (r : Request) (n : ℕ) (before : List Told) (round : Round) (i : ℕ) (m : Partials) → AllByRecursion (λ t. way_depth r.nodes t.way ≡ depth_of round) (told_by r.nodes i (ask_in r n before round i) m)
told_depth r n before roots i no_partials = tt
told_depth r n before roots i (partial key stats rows rest) = (refl, tt)
told_depth r n before (lacking_at e) i m =
    let all = lacks r n before e in
    all_from_members (λ t. way_depth r.nodes t.way ≡ suc e) (told_wants r.nodes i (wants_of i all) m)
    (λ t there.
    let w = told_want r.nodes i (wants_of i all) m t there in
    let l = lack_of i all w.0 w.1 in
    ap (way_depth r.nodes) (w.3 ∙ ap way_of l.2) ∙ lack_is_deep r n before e l.0 l.1 ∙ omega arith)

-- of the right shape it tells of each want
wants_told : (nodes : Nodes) (i : ℕ) (ws : List Want) (m : Partials) (w : Want) → wants_fit offered_bound nodes ws m ≡ true → Member w ws → is_some (held (told_wants nodes i ws m) i (way_of w)) ≡ true
wants_told nodes i [] m w fit there = absurd there
wants_told nodes i (v ∷ ws) no_partials w fit there = absurd (false≢true fit)
wants_told nodes i (v ∷ ws) (partial k stats rows rest) w fit (inl e) =
    subst (λ u. is_some (held (told_wants nodes i (v ∷ ws) (partial k stats rows rest)) i (way_of u)) ≡ true) (sym e)
    (told_held (record { shard = i; way = way_of v; bucket = record { stats = stats; nodes = target_nodes (target_of nodes (way_of v)); rows = rows } }) (told_wants nodes i ws rest))
wants_told nodes i (v ∷ ws) (partial k stats rows rest) w fit (inr there) =
    held_among_later (record { shard = i; way = way_of v; bucket = record { stats = stats; nodes = target_nodes (target_of nodes (way_of v)); rows = rows } } ∷ []) (told_wants nodes i ws rest) i (way_of w)
    (wants_told nodes i ws rest w (and_parts _ (wants_fit offered_bound nodes ws rest) fit).1 there)

-- so of what the round asks for, each shard that is not awaited has told
still_answered : (r : Request) (n : ℕ) (before : List Told) (round : Round) (asks : List (Option Ask)) (here : List Told) (i : ℕ) (m : Partials) → is_shaped r (ask_in r n before round i) m ≡ true
    → AreAnswered r n before round asks here → AreAnswered r n before round (slice_set asks i None) (here ++ told_by r.nodes i (ask_in r n before round i) m)
still_answered r n before roots asks here i m shaped all = tt
still_answered r n before (lacking_at e) asks here i m shaped all = all_from_members (IsAnswered (slice_set asks i None) (here ++ told)) (lacks r n before e) (λ l there. one l there (cases_eq l.shard i) (each_member (IsAnswered asks here) (lacks r n before e) l all there))
  where
    told : List Told
    told = told_by r.nodes i (more (wants_of i (lacks r n before e))) m

    second : (a b : Bool) → b ≡ true → (a || b) ≡ true
    second true b h = refl
    second false b h = h

    one : (l : Lack) → Member l (lacks r n before e) → (l.shard ≡ i) ⊎ (l.shard ≢ i) → IsAnswered asks here l → IsAnswered (slice_set asks i None) (here ++ told) l
    one l there (inl own) h =
        second (is_some (ask_at (slice_set asks i None) l.shard)) (is_some (held (here ++ told) l.shard (way_of l.want)))
        (held_among_later here told l.shard (way_of l.want)
        (subst (λ k. is_some (held told k (way_of l.want)) ≡ true) (sym own) (wants_told r.nodes i (wants_of i (lacks r n before e)) m l.want shaped (want_there i (lacks r n before e) l there own))))
    one l there (inr other) h = go (is_some (ask_at asks l.shard)) refl h
      where
        go : (b : Bool) → is_some (ask_at asks l.shard) ≡ b → (b || is_some (held here l.shard (way_of l.want))) ≡ true → IsAnswered (slice_set asks i None) (here ++ told) l
        go true k f = ap (λ a. is_some a || is_some (held (here ++ told) l.shard (way_of l.want))) (asked_still asks i l.shard other) ∙ ap (λ b. b || is_some (held (here ++ told) l.shard (way_of l.want))) k
        go false k f = second (is_some (ask_at (slice_set asks i None) l.shard)) (is_some (held (here ++ told) l.shard (way_of l.want))) (held_among_more here told l.shard (way_of l.want) f)

-- the first message of a shard tells its root
root_told : (r : Request) (i : ℕ) (m : Partials) → is_shaped r first m ≡ true → is_some (held (told_by r.nodes i first m) i []) ≡ true
root_told r i no_partials shaped = absurd (false≢true shaped)
root_told r i (partial key stats rows rest) shaped = told_held (record { shard = i; way = []; bucket = record { stats = stats; nodes = r.nodes; rows = rows } }) []

-- so each shard that is not awaited has told its root
still_rooted : (r : Request) (n : ℕ) (before A : List Told) (round : Round) (asks : List (Option Ask)) (i j : ℕ) (m : Partials) → is_shaped r (ask_in r n before round i) m ≡ true → IsRooted round asks A j
    → IsRooted round (slice_set asks i None) (A ++ told_by r.nodes i (ask_in r n before round i) m) j
still_rooted r n before A (lacking_at e) asks i j m shaped h = held_among_more A (told_by r.nodes i (more (wants_of i (lacks r n before e))) m) j [] h
still_rooted r n before A roots asks i j m shaped h = one (cases_eq j i)
  where
    told : List Told
    told = told_by r.nodes i first m

    later : (a b : Bool) → b ≡ true → (a || b) ≡ true
    later true b e = refl
    later false b e = e

    one : (j ≡ i) ⊎ (j ≢ i) → IsRooted roots (slice_set asks i None) (A ++ told) j
    one (inl own) =
        later (is_some (ask_at (slice_set asks i None) j)) (is_some (held (A ++ told) j [])) (held_among_later A told j [] (subst (λ k. is_some (held told k []) ≡ true) (sym own) (root_told r i m shaped)))
    one (inr other) = go (is_some (ask_at asks j)) refl h
      where
        go : (b : Bool) → is_some (ask_at asks j) ≡ b → (b || is_some (held A j [])) ≡ true → IsRooted roots (slice_set asks i None) (A ++ told) j
        go true e f = ap (λ a. is_some a || is_some (held (A ++ told) j [])) (asked_still asks i j other) ∙ ap (λ b. b || is_some (held (A ++ told) j [])) e
        go false e f = later (is_some (ask_at (slice_set asks i None) j)) (is_some (held (A ++ told) j [])) (held_among_more A told j [] f)

-- no shard tells a bucket twice
once_more : (r : Request) (n : ℕ) (before here : List Told) (round : Round) (i : ℕ) (m : Partials) → TellOnce (before ++ here) → Begins r n before round → AreOfOthers i here → TellOnce ((before ++ here) ++ told_by r.nodes i (ask_in r n before round i) m)
once_more r n before here roots i m once begins others = (first_tell_once r.nodes (before ++ here) i m once (subst (λ B. AreOfOthers i (B ++ here)) (sym begins) others)).0
once_more r n before here (lacking_at e) i m once begins others = (rounds_tell_once r n before here e i m once begins.0 others).0

-- ---- the state

-- the told part of what is kept
pub once_told : (s : State) (A : List Told) (i : ℕ) (m : Partials) → Keeps s A → (ask : Ask) → ask_at s.asks i ≡ Some ask → TellOnce (A ++ told_by s.request.nodes i ask m)
once_told s A i m k ask at =
    let a = k.asked i ask at in
    subst TellOnce (λ j. (sym k.told j) ++ told_by s.request.nodes i (sym a.own j) m) (once_more s.request (length s.asks) k.before k.here k.asking i m (subst TellOnce k.told k.once) k.begins a.untold)

-- the test says what it means
fits_of_ask : (s : State) (A : List Told) (i : ℕ) (m : Partials) → FitsExactly → Keeps s A → (ask : Ask) → ask_at s.asks i ≡ Some ask
    → (IsTrue (is_shaped s.request ask m && all_fit s.tree (told_by s.request.nodes i ask m)) → IsTrue (is_shaped s.request ask m) × SumsFit (A ++ told_by s.request.nodes i ask m))
    × (IsTrue (is_shaped s.request ask m) × SumsFit (A ++ told_by s.request.nodes i ask m) → IsTrue (is_shaped s.request ask m && all_fit s.tree (told_by s.request.nodes i ask m)))
fits_of_ask s A i m exact k ask at = (
  λ h. let both = and_parts (is_shaped s.request ask m) (all_fit s.tree (told_by s.request.nodes i ask m)) h in
      (both.0, (exact s.request s.tree A i ask m both.0 k.tree k.sums (once_told s A i m k ask at)).0 both.1),
  λ h. ap (λ b. b && all_fit s.tree (told_by s.request.nodes i ask m)) h.0 ∙ (exact s.request s.tree A i ask m h.0 k.tree k.sums (once_told s A i m k ask at)).1 h.1,
)

asked_is : (o : Option Ask) → is_some o ≡ true → (ask : Ask) × (o ≡ Some ask)
asked_is None h = absurd (false≢true h)
asked_is (Some ask) h = (ask, refl)

pub fits_is_exact : (s : State) (A : List Told) (i : ℕ) (m : Partials) → FitsExactly → Keeps s A → IsTrue (is_awaited s i) → IsTrue (is_fitting s i m) ↔ Fits s A i m
fits_is_exact s A i m exact k awaited =
    let a = asked_is (ask_at s.asks i) awaited in
    let P : Option Ask → Type 0 = λ o. IsTrue (is_shaped_for s.request o m && all_fit s.tree (told_for s.request.nodes i o m)) ↔ IsTrue (is_shaped_for s.request o m) × SumsFit (A ++ told_for s.request.nodes i o m) in
    subst P (sym a.1) (fits_of_ask s A i m exact k a.0 a.1)

-- with the buckets of the message, once it is taken
abbrev heard_by : State → ℕ → List Told → State
heard_by s i T = record s { tree = all_added T s.tree; asks = slice_set s.asks i None }

keeps_told : (s : State) (A : List Told) (i : ℕ) (m : Partials) → TellsMore → FitsExactly → (k : Keeps s A) → (ask : Ask) → ask_at s.asks i ≡ Some ask → IsTrue (is_shaped s.request ask m) → SumsFit (A ++ told_by s.request.nodes i ask m)
    → KeepsAt (heard_by s i (told_by s.request.nodes i ask m)) (A ++ told_by s.request.nodes i ask m) (depth_of k.asking)
keeps_told s A i m tells exact k ask at shaped sums =
    let r = s.request in
    let n = length s.asks in
    let T = told_by r.nodes i ask m in
    let a = k.asked i ask at in
    let len = sym (length-heard s.asks i) in
    let shaped_own : is_shaped r (ask_in r n k.before k.asking i) m ≡ true = ap (λ x. is_shaped r x m) (sym a.own) ∙ shaped in
    let depths = subst (λ x. AllByRecursion (λ t. way_depth r.nodes t.way ≡ depth_of k.asking) (told_by r.nodes i x m)) (sym a.own) (told_depth r n k.before k.asking i m) in
    let answered = subst (λ x. AreAnswered r n k.before k.asking (slice_set s.asks i None) (k.here ++ told_by r.nodes i x m)) (sym a.own) (still_answered r n k.before k.asking s.asks k.here i m shaped_own k.answered) in
    let nobody = λ (ready : s.ready ≡ true). none_asked s.asks i (k.ended ready).0 in
    let rooted = λ (j : ℕ) (less : j < length (slice_set s.asks i None)). subst (λ x. IsRooted k.asking (slice_set s.asks i None) (A ++ told_by r.nodes i x m) j) (sym a.own)
    (still_rooted r n k.before A k.asking s.asks i j m shaped_own (k.rooted j (let same = length-heard s.asks i in omega arith))) in (
      record {
        before = k.before;
        here = k.here ++ T;
        asking = k.asking;
        told = ap (λ B. B ++ T) k.told ∙ append_assoc k.before k.here T;
        tree = tells r s.tree A i ask m shaped k.tree (once_told s A i m k ask at) sums;
        fitting = all_append (IsFitting offered_bound r) A T k.fitting (shaped_are_fitting offered_bound r i ask m shaped);
        sums = sums;
        once = once_told s A i m k ask at;
        begins = subst (λ z. Begins r z k.before k.asking) len k.begins;
        depths = all_append (λ t. way_depth r.nodes t.way ≡ depth_of k.asking) k.here T k.depths depths;
        asked = λ j other e.
            let old = still_asked s.asks i j other e in
            let own = k.asked j other old.1 in
            record { own = own.own ∙ ap (λ z. ask_in r z k.before k.asking j) len; untold = others_more j k.here T i own.untold (told_own r.nodes i ask m) old.0 };
        answered = subst (λ z. AreAnswered r z k.before k.asking (slice_set s.asks i None) (k.here ++ T)) len answered;
        rounds = k.rounds;
        rooted = rooted;
        ended = λ ready. absurd (false≢true (sym (nobody ready) ∙ ap is_some at));
      },
      refl,
    )

pub heard_keeps_at : (s : State) (A : List Told) (i : ℕ) (m : Partials) → TellsMore → FitsExactly → (k : Keeps s A) → IsTrue (is_awaited s i) → IsTrue (is_fitting s i m) → KeepsAt (heard s i m) (A ++ told_of s i m) (depth_of k.asking)
heard_keeps_at s A i m tells exact k awaited fits =
    let a = asked_is (ask_at s.asks i) awaited in
    let f : IsTrue (is_shaped s.request a.0 m && all_fit s.tree (told_by s.request.nodes i a.0 m)) = ap (λ o. is_shaped_for s.request o m && all_fit s.tree (told_for s.request.nodes i o m)) (sym a.1) ∙ fits in
    let both = (fits_of_ask s A i m exact k a.0 a.1).0 f in
    subst (λ o. KeepsAt (heard_by s i (told_for s.request.nodes i o m)) (A ++ told_for s.request.nodes i o m) (depth_of k.asking)) (sym a.1) (keeps_told s A i m tells exact k a.0 a.1 both.0 both.1)

pub heard_keeps : (s : State) (A : List Told) (i : ℕ) (m : Partials) → TellsMore → FitsExactly → Keeps s A → IsTrue (is_awaited s i) → IsTrue (is_fitting s i m) → Keeps (heard s i m) (A ++ told_of s i m)
heard_keeps s A i m tells exact k awaited fits = (heard_keeps_at s A i m tells exact k awaited fits).0

-- ---- what is asked is there

left_all : {X : Type 0} (P : X → Type 0) (xs ys : List X) → AllByRecursion P (xs ++ ys) → AllByRecursion P xs
left_all P [] ys all = tt
left_all P (x ∷ xs) ys all = (all.0, left_all P xs ys all.1)

ask_names : (r : Request) (n : ℕ) (before : List Told) (round : Round) (i : ℕ) → AllByRecursion (IsFitting offered_bound r) before → NamesKeys r.nodes (ask_in r n before round i)
ask_names r n before roots i fitting = tt
ask_names r n before (lacking_at e) i fitting =
    all_from_members (λ w. IsTrue (names_keys r.nodes (way_of w))) (wants_of i (lacks r n before e))
    (λ w there.
    let l = lack_of i (lacks r n before e) w there in
    let own = each_member (IsThere r n) (lacks r n before e) l.0 (lacks_are_there offered_bound r n before e fitting) l.1 in
    ap (λ v. names_keys r.nodes (way_of v)) l.2 ∙ own.keys)

pub asks_name_keys : (s : State) (A : List Told) (i : ℕ) (ask : Ask) → Keeps s A → ask_at s.asks i ≡ Some ask → NamesKeys s.request.nodes ask
asks_name_keys s A i ask k at =
    subst (NamesKeys s.request.nodes) (sym (k.asked i ask at).own)
    (ask_names s.request (length s.asks) k.before k.asking i (left_all (IsFitting offered_bound s.request) k.before k.here (subst (AllByRecursion (IsFitting offered_bound s.request)) k.told k.fitting)))
