-- Shards that have few commits.
use Rattle.std.proofs.Common.{◌≡◌, ℕ, zero, suc, ◌<◌, ◌≤◌, List, [], ◌∷◌, map, replicate, length, get_or, true, ◌&&◌, nat_le, refl, sym, ◌∙◌, ap, arith}
use Rattle.std.specs.List.{list_all}
use Rattle.std.proofs.lemmas.Bool.{and_parts, leb-true}
use Rattle.std.proofs.lemmas.List.{length-map}
use Rattle.fc_docs.specs.View.{batch_view}
use Rattle.fc_script.specs.Gathered.{ShardSoFar, changed_at, has_few, empty_shard}
use Rattle.fc_script.specs.ShardView.{shard_view}
use Rattle.fc_script.specs.declared.gather.shards.ShardSoFar as code

-- before the first line
pub none_are_few : (n : ℕ) → list_all has_few (replicate n empty_shard) ≡ true
none_are_few zero = refl
none_are_few (suc n) = none_are_few n

-- where a member changes and its commits do not
same_few : (f : ShardSoFar → ShardSoFar) → ((x : ShardSoFar) → has_few (f x) ≡ has_few x) → (i : ℕ) (xs : List ShardSoFar) → list_all has_few (changed_at f i xs) ≡ list_all has_few xs
same_few f same i [] = refl
same_few f same zero (x ∷ xs) = ap (λ b. b && list_all has_few xs) (same x)
same_few f same (suc i) (x ∷ xs) = ap (λ b. has_few x && b) (same_few f same i xs)

pub still_few : (f : ShardSoFar → ShardSoFar) → ((x : ShardSoFar) → has_few (f x) ≡ has_few x) → (i : ℕ) (xs ys : List ShardSoFar) → ys ≡ changed_at f i xs → list_all has_few xs ≡ true → list_all has_few ys ≡ true
still_few f same i xs ys is few = ap (list_all has_few) is ∙ same_few f same i xs ∙ few

-- ---- as they stand in the code

-- at a member of shards that have few
pub few_at : (xs : List code.ShardSoFar) (i : ℕ) (x : code.ShardSoFar) → list_all has_few (map shard_view xs) ≡ true → i < length xs → x ≡ get_or xs i x → length x.batches.items ≤ 4096
few_at [] i x few below is = absurd (omega arith)
few_at (y ∷ ys) zero x few below is =
    let parts = and_parts (has_few (shard_view y)) (list_all has_few (map shard_view ys)) few in
    let most : length (shard_view y).batches ≤ 4096 = leb-true (length (shard_view y).batches) 4096 parts.0 in
    let long = length-map y.batches.items batch_view in
    let same : length x.batches.items ≡ length y.batches.items = ap (λ (z : code.ShardSoFar). length z.batches.items) is in
    omega arith
few_at (y ∷ ys) (suc i) x few below is = few_at ys i x (and_parts (has_few (shard_view y)) (list_all has_few (map shard_view ys)) few).1 (omega (arith, below)) is

-- the same of the shards that are seen
pub few_seen : (xs : List code.ShardSoFar) → list_all (λ x. nat_le (length x.batches.items) 4096) xs ≡ list_all has_few (map shard_view xs)
few_seen [] = refl
few_seen (x ∷ xs) = (λ i. nat_le (sym (length-map x.batches.items batch_view) i) 4096 && list_all (λ y. nat_le (length y.batches.items) 4096) xs) ∙ ap (λ b. has_few (shard_view x) && b) (few_seen xs)
