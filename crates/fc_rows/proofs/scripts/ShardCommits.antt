-- Commits of one shard and of every shard: batches and generations.
use Rattle.std.specs.Prelude.{◌≡◌, ℕ, [], ◌∷◌, true, false, Some, None, refl, codes}
use Rattle.fc_spec.specs.documents.Document.{adding}
use Rattle.fc_spec.specs.documents.Schema.{string}
use Rattle.fc_spec.specs.scripts.Script.{add, commit, sync, asks, Script, commits_up_to, commits_before, batch_of, stream, generation, world}
use Rattle.fc_spec.specs.scripts.Outputs.{legal}
use Rattle.fc_spec.specs.scripts.ScriptParts.{batches}
use Rattle.fc_rows.proofs.Words.{labelled}

-- the second commit is of every shard; shard 1 gets a block behind its last commit, and shard 0 a commit that adds nothing
abbrev pub script : Script ℕ
script = record {
  schema = record { shards = 2; fields = record { name = codes "id"; kind = string } ∷ record { name = codes "cat"; kind = string } ∷ [] };
  lines =
      add 0 (labelled "1" "a") ∷ add 1 (labelled "2" "b") ∷ commit (Some 0) ∷ add 0 (labelled "3" "c") ∷ add 0 (labelled "4" "d") ∷ sync
      ∷ commit None ∷ add 1 (labelled "5" "e") ∷ commit (Some 0) ∷ asks (codes "a") 1 ∷ [];
}

pub first_of_zero : batch_of script.lines 0 0 ≡ adding (labelled "1" "a") ∷ []
first_of_zero = refl

pub second_of_zero : batch_of script.lines 0 1 ≡ adding (labelled "3" "c") ∷ adding (labelled "4" "d") ∷ []
second_of_zero = refl

-- nothing was added since the commit before
pub empty_batch : batch_of script.lines 0 2 ≡ []
empty_batch = refl

-- a commit of the other shard closes nothing here
pub first_of_one : batch_of script.lines 1 0 ≡ adding (labelled "2" "b") ∷ []
first_of_one = refl

pub stream_of_zero : stream script.lines 0 ≡ (adding (labelled "1" "a") ∷ []) ∷ (adding (labelled "3" "c") ∷ adding (labelled "4" "d") ∷ []) ∷ [] ∷ []
stream_of_zero = refl

-- what is added behind the last commit is in no batch
pub stream_of_one : stream script.lines 1 ≡ (adding (labelled "2" "b") ∷ []) ∷ []
stream_of_one = refl

pub joined_batches : generation script.lines 0 2 ≡ labelled "1" "a" ∷ labelled "3" "c" ∷ labelled "4" "d" ∷ []
joined_batches = refl

pub world_at_start : world script (0 ∷ 0 ∷ []) ≡ [] ∷ [] ∷ []
world_at_start = refl

pub world_between : world script (1 ∷ 0 ∷ []) ≡ (labelled "1" "a" ∷ []) ∷ [] ∷ []
world_between = refl

pub world_at_end : world script (3 ∷ 1 ∷ []) ≡ (labelled "1" "a" ∷ labelled "3" "c" ∷ labelled "4" "d" ∷ []) ∷ (labelled "2" "b" ∷ []) ∷ []
world_at_end = refl

-- in the second phase shard 0 has one commit behind it, and shard 1 none
pub one_behind : commits_before script.lines 0 1 ≡ 1
one_behind = refl

pub none_behind : commits_before script.lines 1 1 ≡ 0
none_behind = refl

pub three_in_all : commits_up_to script.lines 0 1 ≡ 3
three_in_all = refl

pub one_in_all : commits_up_to script.lines 1 1 ≡ 1
one_in_all = refl

-- the numbers of two shards need not be of one moment
pub apart : legal script [] 1 (1 ∷ 1 ∷ []) ≡ true
apart = refl

pub far_apart : legal script [] 1 (3 ∷ 0 ∷ []) ≡ true
far_apart = refl

pub one_too_early : legal script [] 1 (0 ∷ 1 ∷ []) ≡ false
one_too_early = refl

pub one_too_late : legal script [] 1 (1 ∷ 2 ∷ []) ≡ false
one_too_late = refl

-- each shard's number is held against its own earlier one
pub one_goes_back : legal script ((1 ∷ 1 ∷ []) ∷ []) 1 (2 ∷ 0 ∷ []) ≡ false
one_goes_back = refl

-- the batches of each shard
pub batches_of_both : batches script ≡ ((adding (labelled "1" "a") ∷ []) ∷ (adding (labelled "3" "c") ∷ adding (labelled "4" "d") ∷ []) ∷ [] ∷ []) ∷ ((adding (labelled "2" "b") ∷ []) ∷ []) ∷ []
batches_of_both = refl
