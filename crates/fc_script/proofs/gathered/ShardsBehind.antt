-- What the lines of a script add up to for each shard.
use Rattle.std.proofs.Common.{◌≡◌, ℕ, zero, suc, ◌+◌, List, [], ◌∷◌, ◌++◌, length, map, replicate, Bool, true, false, cond, ◌==◌, Option, None, Some, refl, sym, ◌∙◌, ap, arith, append-nil}
use Rattle.std.specs.List.{cons_option, range_with_len}
use Rattle.std.proofs.lemmas.Bool.{eq-eqb, ne_eqb}
use Rattle.std.proofs.lemmas.List.FromFn.{length-map-range_with_len}
use Rattle.fc_spec.specs.documents.Document.{Op}
use Rattle.fc_spec.specs.words.Lists.{numbers_below}
use Rattle.fc_spec.specs.scripts.Script.{commit, commits_shard, op_on, batch_of, stream}
use Rattle.fc_spec.specs.scripts.AskedScripts.{Asked, AskedLine}
use Rattle.fc_spec.proofs.words.MappedLists.{map-same}
use Rattle.fc_spec.proofs.scripts.BatchesSoFar.{commits_in, same_from, stream_commit, waiting_commit, stream_other, waiting_other}
use Rattle.fc_script.specs.Gathered.{ShardSoFar, empty_shard, changed_at, with_op, with_commit, with_commit_of}

-- ---- one member changed

map-map : {X Y Z : Type 0} (f : Y → Z) (g : X → Y) (xs : List X) → map f (map g xs) ≡ map (λ x. f (g x)) xs
map-map f g [] = refl
map-map f g (x ∷ xs) = ap (λ zs. f (g x) ∷ zs) (map-map f g xs)

-- the member of number i, which is made of the number t, changes
changed : {X : Type 0} (f : X → X) (g h : ℕ → X) (t a n i : ℕ) → a + i ≡ t → ((k : ℕ) → cond (t == k) (f (g k)) (g k) ≡ h k) → changed_at f i (map g (range_with_len a n)) ≡ map h (range_with_len a n)
changed f g h t a zero zero is same = refl
changed f g h t a zero (suc i) is same = refl
changed f g h t a (suc n) zero is same =
    λ j. (sym (ap (λ b. cond b (f (g a)) (g a)) (eq-eqb t a (omega arith))) ∙ same a) j
    ∷ same_from g h (a + 1) n (λ k low high. sym (ap (λ b. cond b (f (g k)) (g k)) (ne_eqb t k (λ e. omega arith))) ∙ same k) j
changed f g h t a (suc n) (suc i) is same =
    λ j. (sym (ap (λ b. cond b (f (g a)) (g a)) (ne_eqb t a (λ e. omega arith))) ∙ same a) j ∷ changed f g h t (a + 1) n i (omega arith) same j

-- ---- a shard

-- its batches and its waiting operations behind some lines
abbrev pub shard_behind : List AskedLine → ℕ → ShardSoFar
shard_behind front s = record { batches = stream front s; waiting = batch_of front s (commits_in s front) }

with_it : (front : List AskedLine) (o : Option ℕ) (s : ℕ) → commits_shard {A = Asked} s (commit o) ≡ true → with_commit (shard_behind front s) ≡ shard_behind (front ++ commit o ∷ []) s
with_it front o s commits = λ i. record { batches = sym (stream_commit s front (commit o) commits refl) i; waiting = sym (waiting_commit s front (commit o) commits) i }

with_more : (front : List AskedLine) (l : AskedLine) (op : Op) (s : ℕ) → commits_shard s l ≡ false → op_on s l ≡ Some op → with_op op (shard_behind front s) ≡ shard_behind (front ++ l ∷ []) s
with_more front l op s commits does =
    λ i. record { batches = sym (stream_other s front l commits) i; waiting = ((λ j. batch_of front s (commits_in s front) ++ cons_option (sym does j) []) ∙ sym (waiting_other s front l commits)) i }

unchanged : (front : List AskedLine) (l : AskedLine) (s : ℕ) → commits_shard s l ≡ false → op_on s l ≡ None → shard_behind front s ≡ shard_behind (front ++ l ∷ []) s
unchanged front l s commits does =
    λ i. record {
      batches = sym (stream_other s front l commits) i;
      waiting = (sym (append-nil (batch_of front s (commits_in s front))) ∙ (λ j. batch_of front s (commits_in s front) ++ cons_option (sym does j) []) ∙ sym (waiting_other s front l commits)) i;
    }

-- ---- all shards

abbrev pub shards_behind : List AskedLine → (n : ℕ) → List ShardSoFar
shards_behind front n = map (shard_behind front) (numbers_below n)

pub shards_at_first : (a n : ℕ) → replicate n empty_shard ≡ map (shard_behind []) (range_with_len a n)
shards_at_first a zero = refl
shards_at_first a (suc n) = ap (λ xs. empty_shard ∷ xs) (shards_at_first (a + 1) n)

-- a line that does something to one of them
pub behind_op : (front : List AskedLine) (n shard : ℕ) (l : AskedLine) (op : Op) → ((k : ℕ) → commits_shard k l ≡ false) → ((k : ℕ) → op_on k l ≡ cond (shard == k) (Some op) None) → changed_at (with_op op) shard (shards_behind front n) ≡ shards_behind (front ++ l ∷ []) n
behind_op front n shard l op commits does = changed (with_op op) (shard_behind front) (shard_behind (front ++ l ∷ [])) shard 0 n shard (omega arith) (λ k. go k (shard == k) refl)
  where
    go : (k : ℕ) (c : Bool) → (shard == k) ≡ c → cond c (with_op op (shard_behind front k)) (shard_behind front k) ≡ shard_behind (front ++ l ∷ []) k
    go k true is = with_more front l op k (commits k) (does k ∙ ap (λ c. cond c (Some op) None) is)
    go k false is = unchanged front l k (commits k) (does k ∙ ap (λ c. cond c (Some op) None) is)

pub behind_commit : (front : List AskedLine) (n : ℕ) (o : Option ℕ) → with_commit_of o (shards_behind front n) ≡ shards_behind (front ++ commit o ∷ []) n
behind_commit front n None = map-map with_commit (shard_behind front) (numbers_below n) ∙ map-same _ _ (numbers_below n) (λ k. with_it front None k refl)
behind_commit front n (Some shard) = changed with_commit (shard_behind front) (shard_behind (front ++ commit (Some shard) ∷ [])) shard 0 n shard (omega arith) (λ k. go k (shard == k) refl)
  where
    go : (k : ℕ) (c : Bool) → (shard == k) ≡ c → cond c (with_commit (shard_behind front k)) (shard_behind front k) ≡ shard_behind (front ++ commit (Some shard) ∷ []) k
    go k true is = with_it front (Some shard) k is
    go k false is = unchanged front (commit (Some shard)) k is refl

pub behind_other : (front : List AskedLine) (n : ℕ) (l : AskedLine) → ((k : ℕ) → commits_shard k l ≡ false) → ((k : ℕ) → op_on k l ≡ None) → shards_behind front n ≡ shards_behind (front ++ l ∷ []) n
behind_other front n l commits does = map-same _ _ (numbers_below n) (λ k. unchanged front l k (commits k) (does k))

-- ---- what they have

pub batches_behind : (front : List AskedLine) (n : ℕ) → map (λ x. x.batches) (shards_behind front n) ≡ map (stream front) (numbers_below n)
batches_behind front n = map-map (λ x. x.batches) (shard_behind front) (numbers_below n)

pub commits_behind : (front : List AskedLine) (n : ℕ) → map (λ x. length x.batches) (shards_behind front n) ≡ map (λ s. commits_in s front) (numbers_below n)
commits_behind front n =
    map-map (λ x. length x.batches) (shard_behind front) (numbers_below n) ∙ map-same _ _ (numbers_below n) (λ s. length-map-range_with_len (batch_of front s) 0 (commits_in s front))
