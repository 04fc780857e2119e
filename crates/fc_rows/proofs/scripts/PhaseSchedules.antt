-- Schedules of phases: which are allowed, and what sessions pin.
use Rattle.std.specs.Prelude.{◌≡◌, List, [], ◌∷◌, true, false, refl}
use Rattle.fc_spec.specs.scripts.PhaseCore.{Event, publish, pin, PhaseState, opening, after, is_schedule, behind, pins_on, search_numbers, numbers_shown}
use Rattle.fc_rows.proofs.scripts.Sessions as one_shard
use Rattle.fc_rows.proofs.scripts.ShardCommits as two_shards

-- ---- one shard with one commit, and two sessions

abbrev pub first_phase : PhaseState
first_phase = opening one_shard.script 0

pub opens_without_commits : first_phase ≡ record { published = 0 ∷ []; last = 1 ∷ []; pinned = (0 ∷ []) ∷ (0 ∷ []) ∷ [] }
opens_without_commits = refl

-- the next phase has them all, for both sessions
pub opens_with_commits : opening one_shard.script 1 ≡ record { published = 1 ∷ []; last = 1 ∷ []; pinned = (1 ∷ []) ∷ (1 ∷ []) ∷ [] }
opens_with_commits = refl

-- session 0 pins before the commit and behind it, session 1 behind it
abbrev pub commit_between : List Event
commit_between = pin 0 0 ∷ publish 0 ∷ pin 0 0 ∷ pin 1 0 ∷ []

pub may_come_between : is_schedule first_phase commit_between ≡ true
may_come_between = refl

pub session_sees_it_come : pins_on 0 0 first_phase commit_between ≡ 0 ∷ 1 ∷ []
session_sees_it_come = refl

pub other_sees_it : pins_on 1 0 first_phase commit_between ≡ 1 ∷ []
other_sees_it = refl

pub first_search : search_numbers one_shard.script 0 commit_between 0 0 ≡ 0 ∷ []
first_search = refl

pub second_search : search_numbers one_shard.script 0 commit_between 0 1 ≡ 1 ∷ []
second_search = refl

pub both_searches : numbers_shown one_shard.script 0 commit_between 0 2 ≡ (0 ∷ []) ∷ (1 ∷ []) ∷ []
both_searches = refl

-- a pin moves its own session alone, and publishing moves none
pub pin_moves_its_session : behind first_phase (publish 0 ∷ pin 1 0 ∷ []) ≡ record { published = 1 ∷ []; last = 1 ∷ []; pinned = (0 ∷ []) ∷ (1 ∷ []) ∷ [] }
pin_moves_its_session = refl

-- there is one commit, one shard and two sessions
pub no_second_commit : is_schedule first_phase (publish 0 ∷ publish 0 ∷ []) ≡ false
no_second_commit = refl

pub no_second_shard : is_schedule first_phase (publish 1 ∷ []) ≡ false
no_second_shard = refl

pub no_pin_elsewhere : is_schedule first_phase (pin 0 1 ∷ []) ≡ false
no_pin_elsewhere = refl

pub no_third_session : is_schedule first_phase (pin 2 0 ∷ []) ≡ false
no_third_session = refl

-- the commit is not made again in the next phase
pub no_commit_left : is_schedule (opening one_shard.script 1) (publish 0 ∷ []) ≡ false
no_commit_left = refl

-- ---- two shards: the second phase has two commits of shard 0 and one of shard 1, and one session

abbrev pub second_phase : PhaseState
second_phase = opening two_shards.script 1

pub opens_with_one : second_phase ≡ record { published = 1 ∷ 0 ∷ []; last = 3 ∷ 1 ∷ []; pinned = (1 ∷ 0 ∷ []) ∷ [] }
opens_with_one = refl

pub shards_go_alone : after second_phase (publish 1) ≡ record { published = 1 ∷ 1 ∷ []; last = 3 ∷ 1 ∷ []; pinned = (1 ∷ 0 ∷ []) ∷ [] }
shards_go_alone = refl

-- a search pins shard 1 early and shard 0 late, and then another pins both
abbrev pub far_apart : List Event
far_apart = pin 0 1 ∷ publish 0 ∷ publish 1 ∷ publish 0 ∷ pin 0 0 ∷ pin 0 0 ∷ pin 0 1 ∷ []

pub may_be_far_apart : is_schedule second_phase far_apart ≡ true
may_be_far_apart = refl

pub numbers_far_apart : numbers_shown two_shards.script 1 far_apart 0 2 ≡ (3 ∷ 0 ∷ []) ∷ (3 ∷ 1 ∷ []) ∷ []
numbers_far_apart = refl

pub ends_with_all : behind second_phase far_apart ≡ record { published = 3 ∷ 1 ∷ []; last = 3 ∷ 1 ∷ []; pinned = (3 ∷ 1 ∷ []) ∷ [] }
ends_with_all = refl
