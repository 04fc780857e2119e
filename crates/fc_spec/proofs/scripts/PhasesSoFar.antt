-- The phases of a script are made from the lines up to their ends.
use Rattle.std.proofs.Common.{◌≡◌, ℕ, ◌+◌, ◌<◌, ◌≤◌, List, [], ◌∷◌, ◌++◌, map, Bool, true, false, ◌&&◌, ◌==◌, nat_le, count_by, Option, None, Some, refl, sym, ◌∙◌, ap, arith, append-nil}
use Rattle.std.specs.List.{cons_option, filter}
use Rattle.std.proofs.lemmas.Bool.{eq-eqb, ne_eqb, le-leb, lt-leb}
use Rattle.std.proofs.lemmas.List.Elements.{filter-append}
use Rattle.std.proofs.lemmas.List.FromFn.{map-range_with_len_more}
use Rattle.fc_spec.specs.documents.Schema.{Schema}
use Rattle.fc_spec.specs.words.Lists.{numbers_below}
use Rattle.fc_spec.specs.scripts.Script.{Line, add, delete, commit, sync, asks, is_sync, commits_shard, commits_up_to}
use Rattle.fc_spec.specs.scripts.Phases.{Search, search_at, searches, Phase, phase}
use Rattle.fc_spec.proofs.words.MappedLists.{map-same}
use Rattle.fc_spec.proofs.scripts.NumberedLines.{counted, counted_more, count_first, walk, walk-append, walk_count, walk_count-append, walked, walked_all, walked_more, one_more, filter_map_numbered, count_by_numbered}
use Rattle.fc_spec.proofs.scripts.BatchesSoFar.{commits_in, same_from}

-- how many phases have ended behind some lines: the number of the open one
abbrev pub ended : {A : Type 0} → List (Line A) → ℕ
ended lines = count_by is_sync lines

-- a phase of some lines
abbrev pub phase_in : {A : Type 0} → Schema → List (Line A) → ℕ → Phase A
phase_in s lines p = phase (record { schema = s; lines = lines }) p

-- the searches of a phase
abbrev pub searches_in : {A : Type 0} → ℕ → List (Search A) → List (Search A)
searches_in p qs = filter (λ q. q.phase == p) qs

-- ---- commits

-- the line commits the shard in one of the phases 0 to p
abbrev commits_by : {A : Type 0} → (s p c : ℕ) → Line A → Bool
commits_by s p c l = commits_shard s l && nat_le c p

up_to_walk : {A : Type 0} (s p : ℕ) (lines : List (Line A)) → commits_up_to lines s p ≡ walk_count (commits_by s p) is_sync 0 lines
up_to_walk s p lines = count_by_numbered (commits_by s p) is_sync [] lines

all_count : {A : Type 0} (s p c : ℕ) (xs : List (Line A)) → walked is_sync c xs ≤ p → walk_count (commits_by s p) is_sync c xs ≡ commits_in s xs
all_count s p c [] within = refl
all_count s p c (x ∷ xs) within =
    let grows = counted_more (is_sync x) c in
    let reach = walked_more is_sync (counted (is_sync x) c) xs in
    let soon : nat_le c p ≡ true = le-leb c p (omega arith) in
    ap (λ b. counted (commits_shard s x && b) (walk_count (commits_by s p) is_sync (counted (is_sync x) c) xs)) soon ∙ go (commits_shard s x) _ _ (all_count s p (counted (is_sync x) c) xs within)
    ∙ sym (count_first (commits_shard s) x xs)
  where
    go : (b : Bool) (m n : ℕ) → m ≡ n → counted (b && true) m ≡ counted b n
    go true m n same = ap (λ k. 1 + k) same
    go false m n same = same

-- up to the open phase all count
pub up_to_open : {A : Type 0} (s : ℕ) (lines : List (Line A)) → commits_up_to lines s (ended lines) ≡ commits_in s lines
up_to_open s lines = up_to_walk s (ended lines) lines ∙ all_count s (ended lines) 0 lines (let all = walked_all is_sync lines in omega arith)

at_most : {A : Type 0} (s p c : ℕ) (xs : List (Line A)) → walk_count (commits_by s p) is_sync c xs ≤ commits_in s xs
at_most s p c [] = omega arith
at_most s p c (x ∷ xs) =
    let first = count_first (commits_shard s) x xs in
    let least = go (commits_shard s x) (nat_le c p) _ _ (at_most s p (counted (is_sync x) c) xs) in
    omega arith
  where
    go : (a b : Bool) (m n : ℕ) → m ≤ n → counted (a && b) m ≤ counted a n
    go true true m n below = omega arith
    go true false m n below = omega arith
    go false b m n below = below

-- up to any phase no more than all
pub up_to_within : {A : Type 0} (s p : ℕ) (lines : List (Line A)) → commits_up_to lines s p ≤ commits_in s lines
up_to_within s p lines =
    let walks = up_to_walk s p lines in
    let most = at_most s p 0 lines in
    omega arith

-- with one more line
up_to_push : {A : Type 0} (s p : ℕ) (front : List (Line A)) (l : Line A) → commits_up_to (front ++ l ∷ []) s p ≡ commits_up_to front s p + counted (commits_by s p (ended front) l) 0
up_to_push s p front l =
    up_to_walk s p (front ++ l ∷ []) ∙ walk_count-append (commits_by s p) is_sync 0 front (l ∷ [])
    ∙ (λ i. sym (up_to_walk s p front) i + walk_count (commits_by s p) is_sync (walked_all is_sync front i) (l ∷ []))

up_to_kept : {A : Type 0} (s p : ℕ) (front : List (Line A)) (l : Line A) → commits_by s p (ended front) l ≡ false → commits_up_to (front ++ l ∷ []) s p ≡ commits_up_to front s p
up_to_kept s p front l none =
    let push = up_to_push s p front l ∙ (λ i. commits_up_to front s p + counted (none i) 0) in omega arith

-- ---- searches

searches_walk : {A : Type 0} (lines : List (Line A)) → searches lines ≡ walk search_at is_sync 0 lines
searches_walk lines = filter_map_numbered search_at is_sync [] lines

-- with one more line
pub searches_push : {A : Type 0} (front : List (Line A)) (l : Line A) → searches (front ++ l ∷ []) ≡ searches front ++ cons_option (search_at (ended front) l) []
searches_push front l =
    searches_walk (front ++ l ∷ []) ∙ walk-append search_at is_sync 0 front (l ∷ [])
    ∙ (λ i. sym (searches_walk front) i ++ cons_option (search_at (walked_all is_sync front i) l) [])

-- what a line asks is in its own phase
own_phase : {A : Type 0} (c : ℕ) (l : Line A) → searches_in c (cons_option (search_at c l) []) ≡ cons_option (search_at c l) []
own_phase c (add shard b) = refl
own_phase c (delete shard id) = refl
own_phase c (commit shard) = refl
own_phase c sync = refl
own_phase c (asks session a) = rw (eq-eqb c c refl) refl

other_phase : {A : Type 0} (c p : ℕ) (l : Line A) → (c ≡ p → ⊥) → searches_in p (cons_option (search_at c l) []) ≡ []
other_phase c p (add shard b) other = refl
other_phase c p (delete shard id) other = refl
other_phase c p (commit shard) other = refl
other_phase c p sync other = refl
other_phase c p (asks session a) other = rw (ne_eqb c p other) refl

one_search : {A : Type 0} (p : ℕ) (o : Option (Search A)) (qs : List (Search A)) → searches_in p (cons_option o qs) ≡ searches_in p (cons_option o []) ++ searches_in p qs
one_search p None qs = refl
one_search p (Some q) qs = filter-append (λ q. q.phase == p) (q ∷ []) qs

none_yet : {A : Type 0} (p c : ℕ) (xs : List (Line A)) → walked is_sync c xs < p → searches_in p (walk search_at is_sync c xs) ≡ []
none_yet p c [] fewer = refl
none_yet p c (x ∷ xs) fewer =
    let grows = counted_more (is_sync x) c in
    let reach = walked_more is_sync (counted (is_sync x) c) xs in
    one_search p (search_at c x) (walk search_at is_sync (counted (is_sync x) c) xs)
    ∙ (λ i. other_phase c p x (λ e. omega arith) i ++ none_yet p (counted (is_sync x) c) xs fewer i)

-- no search is in a phase that has not begun
pub none_beyond : {A : Type 0} (p : ℕ) (lines : List (Line A)) → ended lines < p → searches_in p (searches lines) ≡ []
none_beyond p lines fewer = ap (searches_in p) (searches_walk lines) ∙ none_yet p 0 lines (let all = walked_all is_sync lines in omega arith)

searches_push_in : {A : Type 0} (p : ℕ) (front : List (Line A)) (l : Line A) → searches_in p (searches (front ++ l ∷ [])) ≡ searches_in p (searches front) ++ searches_in p (cons_option (search_at (ended front) l) [])
searches_push_in p front l = ap (searches_in p) (searches_push front l) ∙ filter-append (λ q. q.phase == p) (searches front) (cons_option (search_at (ended front) l) [])

-- ---- one more line

ended_same : {A : Type 0} (front : List (Line A)) (l : Line A) → is_sync l ≡ false → ended (front ++ l ∷ []) ≡ ended front
ended_same front l goes_on = one_more is_sync front l ∙ (λ i. counted (goes_on i) (ended front))

ended_more : {A : Type 0} (front : List (Line A)) → ended (front ++ sync ∷ []) ≡ ended front + 1
ended_more front = let more = one_more is_sync front sync in omega arith

phase_same : {A : Type 0} (s : Schema) (front : List (Line A)) (l : Line A) (p : ℕ)
    → ((shard : ℕ) → commits_by shard p (ended front) l ≡ false) → searches_in p (cons_option (search_at (ended front) l) []) ≡ [] → phase_in s (front ++ l ∷ []) p ≡ phase_in s front p
phase_same s front l p commits asks_there = λ i. record { commits = numbers i; searches = found i }
  where
    numbers : map (λ shard. commits_up_to (front ++ l ∷ []) shard p) (numbers_below s.shards) ≡ map (λ shard. commits_up_to front shard p) (numbers_below s.shards)
    numbers = map-same _ _ (numbers_below s.shards) (λ shard. up_to_kept shard p front l (commits shard))

    found : searches_in p (searches (front ++ l ∷ [])) ≡ searches_in p (searches front)
    found = searches_push_in p front l ∙ (λ i. searches_in p (searches front) ++ asks_there i) ∙ append-nil (searches_in p (searches front))

-- a phase that has ended stays
pub phase_kept : {A : Type 0} (s : Schema) (front : List (Line A)) (l : Line A) (p : ℕ) → p < ended front → phase_in s (front ++ l ∷ []) p ≡ phase_in s front p
phase_kept s front l p before =
    phase_same s front l p (λ shard. ap (λ b. commits_shard shard l && b) (lt-leb (ended front) p before) ∙ go (commits_shard shard l)) (other_phase (ended front) p l (λ e. omega arith))
  where
    go : (b : Bool) → (b && false) ≡ false
    go true = refl
    go false = refl

phases_kept : {A : Type 0} (s : Schema) (front : List (Line A)) (l : Line A) → map (phase_in s (front ++ l ∷ [])) (numbers_below (ended front)) ≡ map (phase_in s front) (numbers_below (ended front))
phases_kept s front l = same_from (phase_in s (front ++ l ∷ [])) (phase_in s front) 0 (ended front) (λ p low high. phase_kept s front l p (omega arith))

-- the end of a phase makes a phase of the open one
pub phases_sync : {A : Type 0} (s : Schema) (front : List (Line A))
    → map (phase_in s (front ++ sync ∷ [])) (numbers_below (ended (front ++ sync ∷ []))) ≡ map (phase_in s front) (numbers_below (ended front)) ++ phase_in s front (ended front) ∷ []
phases_sync s front =
    (λ i. map (phase_in s (front ++ sync ∷ [])) (numbers_below (ended_more front i))) ∙ map-range_with_len_more (phase_in s (front ++ sync ∷ [])) 0 (ended front) (ended front) (omega arith)
    ∙ (λ i. phases_kept s front sync i ++ phase_same s front sync (ended front) (λ shard. refl) refl i ∷ [])

pub searches_sync : {A : Type 0} (front : List (Line A)) → searches_in (ended (front ++ sync ∷ [])) (searches (front ++ sync ∷ [])) ≡ []
searches_sync front =
    searches_push_in (ended (front ++ sync ∷ [])) front sync ∙ append-nil (searches_in (ended (front ++ sync ∷ [])) (searches front))
    ∙ none_beyond (ended (front ++ sync ∷ [])) front (let more = ended_more front in omega arith)

-- any other line ends no phase, and what it asks is in the open one
pub phases_other : {A : Type 0} (s : Schema) (front : List (Line A)) (l : Line A) → is_sync l ≡ false
    → map (phase_in s (front ++ l ∷ [])) (numbers_below (ended (front ++ l ∷ []))) ≡ map (phase_in s front) (numbers_below (ended front))
phases_other s front l goes_on = (λ i. map (phase_in s (front ++ l ∷ [])) (numbers_below (ended_same front l goes_on i))) ∙ phases_kept s front l

pub searches_other : {A : Type 0} (front : List (Line A)) (l : Line A) → is_sync l ≡ false
    → searches_in (ended (front ++ l ∷ [])) (searches (front ++ l ∷ [])) ≡ searches_in (ended front) (searches front) ++ cons_option (search_at (ended front) l) []
searches_other front l goes_on =
    (λ i. searches_in (ended_same front l goes_on i) (searches (front ++ l ∷ []))) ∙ searches_push_in (ended front) front l ∙ (λ i. searches_in (ended front) (searches front) ++ own_phase (ended front) l i)
