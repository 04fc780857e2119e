-- The batches of a shard are made from the lines up to their commits.
use Rattle.std.proofs.Common.{◌≡◌, ℕ, zero, suc, ◌+◌, ◌<◌, ◌≤◌, List, [], ◌∷◌, ◌++◌, map, take, true, false, cond, ◌==◌, count_by, Option, None, refl, sym, ◌∙◌, ap, arith, append-nil}
use Rattle.std.specs.List.{cons_option, range_with_len}
use Rattle.std.proofs.lemmas.Bool.{eq-eqb, ne_eqb}
use Rattle.std.proofs.lemmas.List.FromFn.{take-map-range_with_len, map-range_with_len_more}
use Rattle.std.proofs.lemmas.List.Sums.{sum_by-append}
use Rattle.fc_spec.specs.documents.Document.{Op}
use Rattle.fc_spec.specs.words.Lists.{numbers_below}
use Rattle.fc_spec.specs.scripts.Script.{Line, commits_shard, op_on, batch_of, stream}
use Rattle.fc_spec.proofs.scripts.NumberedLines.{counted, counted_more, walk, walked, walked_all, walked_more, walk-append, one_more, filter_map_numbered}

-- how many of the lines commit a shard
abbrev pub commits_in : {A : Type 0} → ℕ → List (Line A) → ℕ
commits_in s lines = count_by (commits_shard s) lines

-- what a line behind exactly j commits does to it
abbrev op_in : {A : Type 0} → (s j c : ℕ) → Line A → Option Op
op_in s j c l = cond (c == j) (op_on s l) None

batch_walk : {A : Type 0} (s : ℕ) (lines : List (Line A)) (j : ℕ) → batch_of lines s j ≡ walk (op_in s j) (commits_shard s) 0 lines
batch_walk s lines j = filter_map_numbered (op_in s j) (commits_shard s) [] lines

apart : {A : Type 0} (s j c : ℕ) (l : Line A) → (c ≡ j → ⊥) → op_in s j c l ≡ None
apart s j c l other = rw (ne_eqb c j other) refl

-- behind more commits
later : {A : Type 0} (s j c : ℕ) (xs : List (Line A)) → j < c → walk (op_in s j) (commits_shard s) c xs ≡ []
later s j c [] more = refl
later s j c (x ∷ xs) more =
    rw (apart s j c x (λ e. omega arith)) (later s j (counted (commits_shard s x) c) xs (let grows = counted_more (commits_shard s x) c in omega arith))

-- before as many
sooner : {A : Type 0} (s j c : ℕ) (xs : List (Line A)) → walked (commits_shard s) c xs < j → walk (op_in s j) (commits_shard s) c xs ≡ []
sooner s j c [] fewer = refl
sooner s j c (x ∷ xs) fewer =
    let grows = counted_more (commits_shard s x) c in
    let reach = walked_more (commits_shard s) (counted (commits_shard s x) c) xs in
    rw (apart s j c x (λ e. omega arith)) (sooner s j (counted (commits_shard s x) c) xs fewer)

-- the batch behind j commits, cut behind some lines
cut : {A : Type 0} (s : ℕ) (front rest : List (Line A)) (j : ℕ) → batch_of (front ++ rest) s j ≡ batch_of front s j ++ walk (op_in s j) (commits_shard s) (commits_in s front) rest
cut s front rest j =
    batch_walk s (front ++ rest) j ∙ walk-append (op_in s j) (commits_shard s) 0 front rest
    ∙ (λ i. sym (batch_walk s front j) i ++ walk (op_in s j) (commits_shard s) (walked_all (commits_shard s) front i) rest)

-- a batch that is committed stays
kept : {A : Type 0} (s : ℕ) (front rest : List (Line A)) (j : ℕ) → j < commits_in s front → batch_of (front ++ rest) s j ≡ batch_of front s j
kept s front rest j committed = cut s front rest j ∙ ap (λ bs. batch_of front s j ++ bs) (later s j (commits_in s front) rest committed) ∙ append-nil (batch_of front s j)

-- numbers at which two functions agree
pub same_from : {X : Type 0} (f g : ℕ → X) (a n : ℕ) → ((k : ℕ) → a ≤ k → k < a + n → f k ≡ g k) → map f (range_with_len a n) ≡ map g (range_with_len a n)
same_from f g a zero same = refl
same_from f g a (suc n) same = λ i. same a (omega arith) (omega arith) i ∷ same_from f g (a + 1) n (λ k low high. same k (omega arith) (omega arith)) i

kept_stream : {A : Type 0} (s : ℕ) (front rest : List (Line A)) → map (batch_of (front ++ rest) s) (numbers_below (commits_in s front)) ≡ stream front s
kept_stream s front rest = same_from (batch_of (front ++ rest) s) (batch_of front s) 0 (commits_in s front) (λ k low high. kept s front rest k (omega arith))

-- the batches that are committed behind some lines
pub stream_front : {A : Type 0} (s : ℕ) (front rest : List (Line A)) → take (commits_in s front) (stream (front ++ rest) s) ≡ stream front s
stream_front s front rest =
    take-map-range_with_len (batch_of (front ++ rest) s) 0 (commits_in s (front ++ rest)) (commits_in s front) (let all = sum_by-append (λ l. cond (commits_shard s l) 1 0) front rest in omega arith)
    ∙ kept_stream s front rest

-- ---- one more line

-- a commit makes a batch of the operations that wait
pub stream_commit : {A : Type 0} (s : ℕ) (front : List (Line A)) (l : Line A) → commits_shard s l ≡ true → op_on s l ≡ None → stream (front ++ l ∷ []) s ≡ stream front s ++ batch_of front s (commits_in s front) ∷ []
stream_commit s front l commits adds =
    (λ i. map (batch_of (front ++ l ∷ []) s) (numbers_below (count i))) ∙ map-range_with_len_more (batch_of (front ++ l ∷ []) s) 0 (commits_in s front) (commits_in s front) (omega arith)
    ∙ (λ i. kept_stream s front (l ∷ []) i ++ last i ∷ [])
  where
    count : commits_in s (front ++ l ∷ []) ≡ commits_in s front + 1
    count = one_more (commits_shard s) front l ∙ (λ i. counted (commits i) (commits_in s front)) ∙ omega arith

    last : batch_of (front ++ l ∷ []) s (commits_in s front) ≡ batch_of front s (commits_in s front)
    last = cut s front (l ∷ []) (commits_in s front) ∙ rw (eq-eqb (commits_in s front) (commits_in s front) refl, adds) (append-nil (batch_of front s (commits_in s front)))

pub waiting_commit : {A : Type 0} (s : ℕ) (front : List (Line A)) (l : Line A) → commits_shard s l ≡ true → batch_of (front ++ l ∷ []) s (commits_in s (front ++ l ∷ [])) ≡ []
waiting_commit s front l commits =
    ap (batch_of (front ++ l ∷ []) s) count ∙ cut s front (l ∷ []) (1 + commits_in s front)
    ∙ (λ i. batch_walk s front (1 + commits_in s front) i ++ cons_option (apart s (1 + commits_in s front) (commits_in s front) l (λ e. omega arith) i) [])
    ∙ (λ i. sooner s (1 + commits_in s front) 0 front (let is = walked_all (commits_shard s) front in omega arith) i ++ [])
  where
    count : commits_in s (front ++ l ∷ []) ≡ 1 + commits_in s front
    count = one_more (commits_shard s) front l ∙ (λ i. counted (commits i) (commits_in s front))

commits_same : {A : Type 0} (s : ℕ) (front : List (Line A)) (l : Line A) → commits_shard s l ≡ false → commits_in s (front ++ l ∷ []) ≡ commits_in s front
commits_same s front l commits = one_more (commits_shard s) front l ∙ (λ i. counted (commits i) (commits_in s front))

-- any other line makes no batch, and its operation waits
pub stream_other : {A : Type 0} (s : ℕ) (front : List (Line A)) (l : Line A) → commits_shard s l ≡ false → stream (front ++ l ∷ []) s ≡ stream front s
stream_other s front l commits = (λ i. map (batch_of (front ++ l ∷ []) s) (numbers_below (commits_same s front l commits i))) ∙ kept_stream s front (l ∷ [])

pub waiting_other : {A : Type 0} (s : ℕ) (front : List (Line A)) (l : Line A) → commits_shard s l ≡ false → batch_of (front ++ l ∷ []) s (commits_in s (front ++ l ∷ [])) ≡ batch_of front s (commits_in s front) ++ cons_option (op_on s l) []
waiting_other s front l commits = ap (batch_of (front ++ l ∷ []) s) (commits_same s front l commits) ∙ cut s front (l ∷ []) (commits_in s front) ∙ rw (eq-eqb (commits_in s front) (commits_in s front) refl) refl
