-- The blocks of a world of a script, and all that its batches add, are among those that its lines add, each at most once.
use Rattle.std.proofs.Common.{◌≡◌, ℕ, ◌≤◌, List, [], ◌∷◌, map, take, count_by, slice_index, Some, refl, ap, arith}
use Rattle.std.specs.Prelude.{sum_by}
use Rattle.std.specs.List.{filter_map, enumerate_from}
use Rattle.std.proofs.lemmas.List.Sums.{sum_by-le-sum_by}
use Rattle.fc_spec.specs.documents.Document.{Block, Op, adding, deleting}
use Rattle.fc_spec.specs.documents.Operations.{blocks_added}
use Rattle.fc_spec.proofs.documents.LeftBlocks.{op_measure, after_sum, added_sum}
use Rattle.fc_spec.specs.words.Lists.{joined, numbers_below}
use Rattle.fc_spec.specs.scripts.Script.{Line, add, delete, commit, sync, asks, Script, commits_shard, op_on, earlier, batch_of, stream, generation, world}
use Rattle.fc_spec.specs.scripts.ScriptTotals.{added}
use Rattle.fc_spec.specs.scripts.PinnedWorlds.{world_added}
use Rattle.fc_spec.specs.scripts.ScriptParts.{batches}
use Rattle.fc_spec.proofs.words.Sums.{sum_by-none, sum_by-joined, sum_by-first, sum_by-shared, sum_by-shared_as, sum_by-part, part, filter_map-enumerate, of_option}

-- the batches of a shard share out its operations
stream_sum : {A : Type 0} (f : Op → ℕ) (lines : List (Line A)) (s : ℕ) → sum_by f (joined (stream lines s)) ≤ sum_by f (filter_map (op_on s) lines)
stream_sum f lines s =
    let n = count_by (commits_shard s) lines in
    let number = earlier (commits_shard s) lines in
    let whole : sum_by f (joined (stream lines s)) ≡ sum_by (λ j. sum_by f (batch_of lines s j)) (numbers_below n) = sum_by-joined f (batch_of lines s) (numbers_below n) in
    let share : sum_by (λ j. sum_by f (batch_of lines s j)) (numbers_below n) ≤ sum_by f (filter_map (λ x. op_on s x.1) (enumerate_from 0 lines)) =
    sum_by-shared f (λ j x. part (number x.0) (op_on s x.1) j) (λ x. op_on s x.1) (numbers_below n) (λ x. sum_by-part f (number x.0) (op_on s x.1) 0 n) (enumerate_from 0 lines) in
    let all = ap (sum_by f) (filter_map-enumerate (op_on s) 0 lines) in
    omega (arith, whole, share, all)

generation_sum : {A : Type 0} (f : Block → ℕ) (lines : List (Line A)) (s k : ℕ) → sum_by f (generation lines s k) ≤ sum_by (op_measure f) (filter_map (op_on s) lines)
generation_sum f lines s k = omega (arith, after_sum f [] (joined (take k (stream lines s))), sum_by-first (op_measure f) k (stream lines s), stream_sum (op_measure f) lines s)

-- the shards share out the blocks that are added; a deletion measures nothing
line_sum : {A : Type 0} (f : Block → ℕ) (n : ℕ) (l : Line A) → sum_by (λ s. of_option (op_measure f) (op_on s l)) (numbers_below n) ≤ of_option f (added l)
line_sum f n (add shard block) = sum_by-part (op_measure f) shard (Some (adding block)) 0 n
line_sum f n (delete shard id) = sum_by-part (op_measure f) shard (Some (deleting id)) 0 n
line_sum f n (commit c) = let none = sum_by-none (λ s. 0) (numbers_below n) (λ s. refl) in omega arith
line_sum f n (sync) = let none = sum_by-none (λ s. 0) (numbers_below n) (λ s. refl) in omega arith
line_sum f n (asks session a) = let none = sum_by-none (λ s. 0) (numbers_below n) (λ s. refl) in omega arith

pub world_sum : {A : Type 0} (f : Block → ℕ) (S : Script A) (g : List ℕ) → sum_by f (joined (world S g)) ≤ sum_by f (filter_map added S.lines)
world_sum f S g =
    let shards = numbers_below S.schema.shards in
    let whole = sum_by-joined f (λ s. generation S.lines s (slice_index g s)) shards in
    let each = sum_by-le-sum_by (λ s. sum_by f (generation S.lines s (slice_index g s))) (λ s. sum_by (op_measure f) (filter_map (op_on s) S.lines)) shards (λ s. generation_sum f S.lines s (slice_index g s)) in
    let share = sum_by-shared_as (op_measure f) f op_on added shards (line_sum f S.schema.shards) S.lines in
    omega (arith, whole, each, share)

-- ---- all that batches add

shard_added : {A : Type 0} (f : Block → ℕ) (lines : List (Line A)) (s : ℕ) → sum_by f (blocks_added (joined (stream lines s))) ≤ sum_by (op_measure f) (filter_map (op_on s) lines)
shard_added f lines s = omega (arith, added_sum f (joined (stream lines s)), stream_sum (op_measure f) lines s)

added_each : {A : Type 0} (lines : List (Line A)) (ns : List ℕ) → world_added (map (stream lines) ns) ≡ map (λ s. blocks_added (joined (stream lines s))) ns
added_each lines [] = refl
added_each lines (s ∷ ns) = ap (λ rest. blocks_added (joined (stream lines s)) ∷ rest) (added_each lines ns)

pub all_added_sum : {A : Type 0} (f : Block → ℕ) (S : Script A) → sum_by f (joined (world_added (batches S))) ≤ sum_by f (filter_map added S.lines)
all_added_sum f S =
    let shards = numbers_below S.schema.shards in
    let same = ap (λ W. sum_by f (joined W)) (added_each S.lines shards) in
    let whole = sum_by-joined f (λ s. blocks_added (joined (stream S.lines s))) shards in
    let each = sum_by-le-sum_by (λ s. sum_by f (blocks_added (joined (stream S.lines s)))) (λ s. sum_by (op_measure f) (filter_map (op_on s) S.lines)) shards (λ s. shard_added f S.lines s) in
    let share = sum_by-shared_as (op_measure f) f op_on added shards (line_sum f S.schema.shards) S.lines in
    omega (arith, same, whole, each, share)
