-- What searches pin is legal, whatever the schedules.
use Rattle.std.proofs.Common.{◌≡◌, ℕ, zero, suc, ◌+◌, ◌<◌, ◌≤◌, List, [], ◌++◌, length, true, ◌&&◌, ◌==◌, nat_le, slice_index, ◌∙◌, ap, subst, add-one, arith}
use Rattle.std.specs.Prelude.{All}
use Rattle.std.specs.List.{list_all}
use Rattle.std.proofs.lemmas.Bool.{and_parts, and_from, le-leb, leb-true, eq-eqb}
use Rattle.std.proofs.lemmas.List.{get_or-map}
use Rattle.std.proofs.lemmas.List.Elements.{All-nil, All-append, All-map, All-weaker}
use Rattle.std.proofs.lemmas.List.Sums.{AllPass-from_list_all, list_all-from_AllPass}
use Rattle.std.proofs.lemmas.List.Folds.{list_all-append}
use Rattle.std.proofs.lemmas.List.FromFn.{length-map-range_with_len}
use Rattle.fc_spec.specs.words.Lists.{numbers_below}
use Rattle.fc_spec.specs.scripts.Script.{commits_up_to, commits_before}
use Rattle.fc_spec.specs.scripts.ScriptTotals.{sessions}
use Rattle.fc_spec.specs.scripts.Outputs.{legal_on, legal}
use Rattle.fc_spec.specs.scripts.PhaseCore.{Event, numbers_of, opening, pins_on, search_numbers, numbers_shown}
use Rattle.fc_spec.specs.scripts.AskedScripts.{AskedScript}
use Rattle.fc_spec.specs.laws.ScheduleLaw.{IsScheduleOf, HasFinished, IsFromBefore, PinsAreLegal, shown_before, RunsAreLegal, PhasesGoOn}
use Rattle.fc_spec.proofs.words.NumbersBelow.{all_below, below_all, at_number}
use Rattle.fc_spec.proofs.scripts.CommitOrder.{commits_are_before, commits_before_end}
use Rattle.fc_spec.proofs.scripts.RisingPins.{Rises, rises_at, rises_between, IsWithin, pins_rise, pins_end_within}

-- ---- one phase

opens_within : (S : AskedScript) (p s : ℕ) → s < S.schema.shards → IsWithin s (opening S p)
opens_within S p s below =
    let first = at_number (λ t. commits_before S.lines t p) S.schema.shards s below in
    let last = at_number (λ t. commits_up_to S.lines t p) S.schema.shards s below in
    omega (arith, first, last, commits_before_end S s p)

phase_pins : (S : AskedScript) (p : ℕ) (es : List Event) (c s : ℕ) → IsScheduleOf S p es → s < S.schema.shards → Rises (commits_before S.lines s p) (commits_up_to S.lines s p) (pins_on c s (opening S p) es)
phase_pins S p es c s ok below =
    subst (λ (z : ℕ × ℕ). Rises z.0 z.1 (pins_on c s (opening S p) es))
    (λ i. (at_number (λ t. commits_before S.lines t p) S.schema.shards s below i, at_number (λ t. commits_up_to S.lines t p) S.schema.shards s below i))
    (pins_rise c s (opening S p) es ok (opens_within S p s below))

-- what was legal in an earlier phase is no more than this phase begins with
from_before : (S : AskedScript) (p s : ℕ) (g : List ℕ) → s < S.schema.shards → IsFromBefore S p g → slice_index g s ≤ commits_before S.lines s p
from_before S p s g below was =
    let (q, earlier, later, ok) = was in
    let all = AllPass-from_list_all (legal_on S earlier q g) (numbers_below S.schema.shards) (and_parts (length g == S.schema.shards) (list_all (legal_on S earlier q g) (numbers_below S.schema.shards)) ok).1 in
    let here = below_all (λ t. legal_on S earlier q g t ≡ true) S.schema.shards s all below in
    let bounds = and_parts (nat_le (commits_before S.lines s q) (slice_index g s) && nat_le (slice_index g s) (commits_up_to S.lines s q)) (list_all (λ e. nat_le (slice_index e s) (slice_index g s)) earlier) here in
    let high = leb-true (slice_index g s) (commits_up_to S.lines s q) (and_parts (nat_le (commits_before S.lines s q) (slice_index g s)) (nat_le (slice_index g s) (commits_up_to S.lines s q)) bounds.0).1 in
    omega (arith, high, commits_are_before S s q p later)

-- a search of a session in a phase, of which it has finished more than k
module _ (S : AskedScript) (p : ℕ) (es : List Event) (c k : ℕ) (ok : IsScheduleOf S p es) (finished : HasFinished S p es c (k + 1)) where
  -- what it shows on a shard
  shown_on : (j s : ℕ) → s < S.schema.shards → slice_index (search_numbers S p es c j) s ≡ slice_index (pins_on c s (opening S p) es) j
  shown_on j s below = at_number (λ t. slice_index (pins_on c t (opening S p) es) j) S.schema.shards s below

  within_phase : (s : ℕ) → s < S.schema.shards → (commits_before S.lines s p ≤ slice_index (search_numbers S p es c k) s) × (slice_index (search_numbers S p es c k) s ≤ commits_up_to S.lines s p)
  within_phase s below =
      let pins = phase_pins S p es c s ok below in
      let here = rises_at (commits_before S.lines s p) (commits_up_to S.lines s p) (pins_on c s (opening S p) es) k (let long = finished s below in omega arith) pins in
      let is = shown_on k s below in
      (omega (arith, is, here.0), omega (arith, is, here.1))

  -- its earlier searches showed no more
  behind_earlier : (j s : ℕ) → j < k → s < S.schema.shards → slice_index (search_numbers S p es c j) s ≤ slice_index (search_numbers S p es c k) s
  behind_earlier j s before below =
      let pins = phase_pins S p es c s ok below in
      let rise = rises_between (commits_before S.lines s p) (commits_up_to S.lines s p) (pins_on c s (opening S p) es) j k (omega arith) (let long = finished s below in omega arith) pins in
      omega (arith, shown_on j s below, shown_on k s below, rise)

  module _ (earlier : List (List ℕ)) (were : All (IsFromBefore S p) earlier) where
    behind_all : (s : ℕ) → s < S.schema.shards → list_all (λ e. nat_le (slice_index e s) (slice_index (search_numbers S p es c k) s)) (earlier ++ numbers_shown S p es c k) ≡ true
    behind_all s below =
        let test = λ (e : List ℕ). nat_le (slice_index e s) (slice_index (search_numbers S p es c k) s) in
        let old = list_all-from_AllPass test earlier (All-weaker (IsFromBefore S p) (λ g. test g ≡ true)
        (λ g was. le-leb (slice_index g s) (slice_index (search_numbers S p es c k) s) (let low = from_before S p s g below was in let high = (within_phase s below).0 in omega arith)) earlier were) in
        let own = list_all-from_AllPass test (numbers_shown S p es c k) (All-map (λ g. test g ≡ true) (search_numbers S p es c) (numbers_below k)
        (all_below (λ j. test (search_numbers S p es c j) ≡ true) k (λ j before. le-leb (slice_index (search_numbers S p es c j) s) (slice_index (search_numbers S p es c k) s) (behind_earlier j s before below)))) in
        list_all-append test earlier (numbers_shown S p es c k) ∙ and_from (list_all test earlier) (list_all test (numbers_shown S p es c k)) old own

    legal_search : legal S (earlier ++ numbers_shown S p es c k) p (search_numbers S p es c k) ≡ true
    legal_search =
        let g = search_numbers S p es c k in
        let all = earlier ++ numbers_shown S p es c k in
        and_from (length g == S.schema.shards) (list_all (legal_on S all p g) (numbers_below S.schema.shards))
        (eq-eqb (length g) S.schema.shards (length-map-range_with_len (λ s. slice_index (pins_on c s (opening S p) es) k) 0 S.schema.shards))
        (list_all-from_AllPass (legal_on S all p g) (numbers_below S.schema.shards) (all_below (λ s. legal_on S all p g s ≡ true) S.schema.shards (λ s below.
        let bounds = within_phase s below in
        let low = le-leb (commits_before S.lines s p) (slice_index g s) bounds.0 in
        let high = le-leb (slice_index g s) (commits_up_to S.lines s p) bounds.1 in
        and_from (nat_le (commits_before S.lines s p) (slice_index g s) && nat_le (slice_index g s) (commits_up_to S.lines s p)) (list_all (λ e. nat_le (slice_index e s) (slice_index g s)) all)
        (and_from (nat_le (commits_before S.lines s p) (slice_index g s)) (nat_le (slice_index g s) (commits_up_to S.lines s p)) low high) (behind_all s below))))

pub pins_are_legal : PinsAreLegal
pins_are_legal S p es c k earlier ok finished were = legal_search S p es c k ok finished earlier were

-- ---- all phases

pub runs_are_legal : RunsAreLegal
runs_are_legal S schedules c finished ok done p k less = legal_search S p (schedules p) c k (ok p) (enough p k less) (shown_before S schedules c finished p) (were p)
  where
    enough : (q j : ℕ) → j < finished q → HasFinished S q (schedules q) c (j + 1)
    enough q j below s shard = let long = done q s shard in omega arith

    later : (q : ℕ) (g : List ℕ) → IsFromBefore S q g → IsFromBefore S (suc q) g
    later q g was = let (r, shown, before, legal_then) = was in (r, shown, omega arith, legal_then)

    were : (q : ℕ) → All (IsFromBefore S q) (shown_before S schedules c finished q)
    were zero = All-nil (IsFromBefore S zero)
    were (suc q) = All-append (IsFromBefore S (suc q)) (shown_before S schedules c finished q) (numbers_shown S q (schedules q) c (finished q))
        (All-weaker (IsFromBefore S q) (IsFromBefore S (suc q)) (later q) (shown_before S schedules c finished q) (were q))
        (All-map (IsFromBefore S (suc q)) (search_numbers S q (schedules q) c) (numbers_below (finished q)) (all_below (λ j. IsFromBefore S (suc q) (search_numbers S q (schedules q) c j)) (finished q) (λ j below.
        (q, shown_before S schedules c finished q ++ numbers_shown S q (schedules q) c j, omega arith, legal_search S q (schedules q) c j (ok q) (enough q j below) (shown_before S schedules c finished q) (were q)))))

-- ---- from a phase to the next

-- a session's numbers when a phase opens
numbers_at_opening : (S : AskedScript) (p c : ℕ) → c < length (sessions S.lines) → numbers_of (opening S p) c ≡ (opening S p).published
numbers_at_opening S p c there = get_or-map (λ session. (opening S p).published) (sessions S.lines) c [] [] there

pub phases_go_on : PhasesGoOn
phases_go_on S p es c s ok there below =
    let first = at_number (λ t. commits_before S.lines t p) S.schema.shards s below in
    let last = at_number (λ t. commits_up_to S.lines t p) S.schema.shards s below in
    let next = at_number (λ t. commits_before S.lines t (suc p)) S.schema.shards s below in
    let opens = ap (λ ns. slice_index ns s) (numbers_at_opening S p c there) in
    let opens_next = ap (λ ns. slice_index ns s) (numbers_at_opening S (suc p) c there) in
    let end = pins_end_within c s (opening S p) es ok (opens_within S p s below) (let within = opens_within S p s below in omega (arith, opens)) in
    rw add-one (omega (arith, end, last, next, opens_next))
