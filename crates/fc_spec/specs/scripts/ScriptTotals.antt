-- What is counted over the lines of a script.
use Rattle.std.specs.Prelude.{ℕ, List, [], ◌∷◌, length, sum_by, count_by, nat_abs, Bool, ◌&&◌, nat_le, Option, None, Some, not}
use Rattle.std.specs.List.{filter, filter_map, list_all}
use Rattle.fc_spec.specs.documents.Val.{Text, same_text}
use Rattle.fc_spec.specs.words.Lists.{numbers_below}
use Rattle.fc_spec.specs.documents.Document.{Document, Block, values_of}
use Rattle.fc_spec.specs.documents.Columns.{longs_in}
use Rattle.fc_spec.specs.documents.Schema.{Schema}
use Rattle.fc_spec.specs.documents.Totals.{documents_in, value_count}
use Rattle.fc_spec.specs.scripts.Script.{Line, add, asks, is_sync, commits_shard}

-- how many documents, and how many values in them, a script may have
pub record Limits : Type 0 where
  pub documents : ℕ
  pub values : ℕ

-- those of every script
abbrev pub script_limits : Limits
script_limits = record { documents = 1_048_576; values = 16_777_216 }

-- the block that a line adds to some shard
abbrev pub added : {A : Type 0} → Line A → Option Block
added (add s block) = Some block
added _ = None

-- the documents that lines add, whether later lines delete them or not
abbrev pub documents_added : {A : Type 0} → List (Line A) → List Document
documents_added lines = documents_in (filter_map added lines)

-- ---- sums

-- the absolute values of a field of integers, added up; of a field of texts this is 0
abbrev pub absolute_total : List Document → ℕ → ℕ
absolute_total ds field = sum_by (λ d. sum_by nat_abs (longs_in (values_of d field))) ds

-- so that every sum, in any order of adding, is within 64 bits signed
abbrev pub total_limit : ℕ
total_limit = 9_223_372_036_854_775_807

-- the sum of each field is within the limit
abbrev pub sums_fit : Schema → List Document → Bool
sums_fit s ds = list_all (λ field. nat_le (absolute_total ds field) total_limit) (numbers_below (length s.fields))

-- ---- sessions

-- the session of a search
abbrev pub session_in : {A : Type 0} → Line A → Option Text
session_in (asks session a) = Some session
session_in _ = None

-- the different texts of a list, each where it stands first
abbrev pub first_ones : List Text → List Text
first_ones [] = []
first_ones (t ∷ ts) = t ∷ filter (λ u. not (same_text t u)) (first_ones ts)

-- the sessions that search, in the order of their first searches
abbrev pub sessions : {A : Type 0} → List (Line A) → List Text
sessions lines = first_ones (filter_map session_in lines)

-- ---- numbers

-- documents and their values are within the limits
abbrev pub are_few : Limits → List Document → Bool
are_few limits ds = nat_le (length ds) limits.documents && nat_le (value_count ds) limits.values

-- no shard has more than 4,096 commits; one without a shard is one of every shard
abbrev pub few_commits : {A : Type 0} → Schema → List (Line A) → Bool
few_commits s lines = list_all (λ shard. nat_le (count_by (commits_shard shard) lines) 4096) (numbers_below s.shards)

-- no more than 16 sessions search
abbrev pub few_sessions : {A : Type 0} → List (Line A) → Bool
few_sessions lines = nat_le (length (sessions lines)) 16

-- no more than 4,096 lines end a phase
abbrev pub few_syncs : {A : Type 0} → List (Line A) → Bool
few_syncs lines = nat_le (count_by is_sync lines) 4096
