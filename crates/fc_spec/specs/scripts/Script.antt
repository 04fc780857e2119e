-- Scripts: phases, commits, batches and generations. Guide: SolrCloud Shards and Indexing; Commits and Transaction Logs.
use Rattle.std.specs.Prelude.{ℕ, zero, suc, List, [], map, take, count_by, Bool, true, false, ◌&&◌, ◌==◌, nat_le, Option, None, Some, slice_index, if◌then◌else◌}
use Rattle.std.specs.List.{filter_map, enumerate_from}
use Rattle.fc_spec.specs.documents.Val.{Text}
use Rattle.fc_spec.specs.documents.Document.{Block, Op, adding, deleting, Batch}
use Rattle.fc_spec.specs.documents.Operations.{after_ops}
use Rattle.fc_spec.specs.documents.Schema.{Schema}
use Rattle.fc_spec.specs.words.Lists.{joined, numbers_below}
use Rattle.fc_spec.specs.documents.World.{World}

-- what a line after the schema says: a block for a shard; an id whose blocks a shard loses; a commit of one shard, or of every shard; the end of a phase; a search of a session, which asks A
pub data Line (A : Type 0) : Type 0 where
  add : ℕ → Block → Line A
  delete : ℕ → Text → Line A
  commit : Option ℕ → Line A
  sync : Line A
  asks : Text → A → Line A

-- the lines stand in script order, without the blank ones
pub record Script (A : Type 0) : Type 0 where
  pub schema : Schema
  pub lines : List (Line A)

-- the line ends a phase
abbrev pub is_sync : {A : Type 0} → Line A → Bool
is_sync sync = true
is_sync _ = false

-- the line commits the shard
abbrev pub commits_shard : {A : Type 0} → ℕ → Line A → Bool
commits_shard shard (commit None) = true
commits_shard shard (commit (Some s)) = s == shard
commits_shard shard _ = false

-- what the line does to the shard
abbrev pub op_on : {A : Type 0} → ℕ → Line A → Option Op
op_on shard (add s block) = if s == shard then Some (adding block) else None
op_on shard (delete s id) = if s == shard then Some (deleting id) else None
op_on shard _ = None

-- how many of the lines before the i-th, counted from 0, pass a test
abbrev pub earlier : {A : Type 0} → (Line A → Bool) → List (Line A) → ℕ → ℕ
earlier test lines i = count_by test (take i lines)

-- the phase of a line: the number of sync lines before it
abbrev pub phase_of : {A : Type 0} → List (Line A) → ℕ → ℕ
phase_of lines i = earlier is_sync lines i

-- the number of commits of a shard in the phases 0 to p
abbrev pub commits_up_to : {A : Type 0} → List (Line A) → (shard p : ℕ) → ℕ
commits_up_to lines shard p = count_by (λ n. commits_shard shard n.1 && nat_le (phase_of lines n.0) p) (enumerate_from 0 lines)

-- the number of its commits in the phases before p: 0 before the first
abbrev pub commits_before : {A : Type 0} → List (Line A) → (shard p : ℕ) → ℕ
commits_before lines shard zero = 0
commits_before lines shard (suc p) = commits_up_to lines shard p

-- the operations on a shard after exactly j of its commits
abbrev pub batch_of : {A : Type 0} → List (Line A) → (shard j : ℕ) → Batch
batch_of lines shard j = filter_map (λ n. if earlier (commits_shard shard) lines n.0 == j then op_on shard n.1 else None) (enumerate_from 0 lines)

-- the batches of a shard, one for each of its commits
abbrev pub stream : {A : Type 0} → List (Line A) → ℕ → List Batch
stream lines shard = map (batch_of lines shard) (numbers_below (count_by (commits_shard shard) lines))

-- a shard's generation k: what the operations of its first k batches leave, in order
abbrev pub generation : {A : Type 0} → List (Line A) → (shard k : ℕ) → List Block
generation lines shard k = after_ops [] (joined (take k (stream lines shard)))

-- the world in which each shard has the generation of its number
abbrev pub world : {A : Type 0} → Script A → List ℕ → World
world S g = map (λ s. generation S.lines s (slice_index g s)) (numbers_below S.schema.shards)
