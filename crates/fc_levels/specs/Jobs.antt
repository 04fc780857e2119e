-- The jobs of a message: one for each top bucket, and one for each list of a facet's buckets inside, in their order in the message.
use Rattle.std.specs.Prelude.{◌≡◌, ◌<◌, ℕ, suc, ◌+◌, ◌-◌, ◌*◌, ◌/◌, List, [], ◌∷◌, ◌++◌, length, max, sum, take}
use Rattle.fc_spec.specs.messages.Message.{Partials, no_partials, partial, Rows, no_rows, row}

-- how many top buckets there are
abbrev pub top_buckets : Partials → ℕ
top_buckets no_partials = 0
top_buckets (partial k stats rows rest) = suc (top_buckets rest)

abbrev mutual
  -- how many lists stand inside the buckets, however deep
  pub nested_lists : Partials → ℕ
  nested_lists no_partials = 0
  nested_lists (partial k stats rows rest) = lists_in rows + nested_lists rest

  pub lists_in : Rows → ℕ
  lists_in no_rows = 0
  lists_in (row ps rest) = suc (nested_lists ps + lists_in rest)

-- how many jobs a message has
abbrev pub job_count : Partials → ℕ
job_count m = top_buckets m + nested_lists m

-- each job has a unit for each segment, and one where there is no segment
abbrev pub units_each : ℕ → ℕ
units_each segments = max segments 1

abbrev pub units : ℕ → Partials → ℕ
units segments m = units_each segments * job_count m

-- ---- which jobs are known

-- how many lists stand directly in a bucket
abbrev pub row_count : Rows → ℕ
row_count no_rows = 0
row_count (row ps rest) = suc (row_count rest)

-- how many lists stand directly in the buckets of a list: so many jobs are known once its own has ended
abbrev pub opened : Partials → ℕ
opened no_partials = 0
opened (partial k stats rows rest) = row_count rows + opened rest

abbrev mutual
  -- the same of each list inside the buckets, in their order
  pub opened_inside : Partials → List ℕ
  opened_inside no_partials = []
  opened_inside (partial k stats rows rest) = opened_in_rows rows ++ opened_inside rest

  pub opened_in_rows : Rows → List ℕ
  opened_in_rows no_rows = []
  opened_in_rows (row ps rest) = (opened ps ∷ opened_inside ps) ++ opened_in_rows rest

-- the same of a list and of those inside it
abbrev pub openings_of : Partials → List ℕ
openings_of ps = opened ps ∷ opened_inside ps

-- for each job of a message, in order, how many jobs are known from its end on: those directly in a top bucket are known from the start
abbrev pub openings : Partials → List ℕ
openings no_partials = []
openings (partial k stats rows rest) = (0 ∷ opened_in_rows rows) ++ openings rest

-- how many jobs are known once the first of them have ended
abbrev pub known : Partials → ℕ → ℕ
known m ended = top_buckets m + opened m + sum (take ended (openings m))

-- how many units of known jobs are left once so many units are done
abbrev pub left_after : ℕ → Partials → ℕ → ℕ
left_after segments m done = units_each segments * known m (done / units_each segments) - done

-- each job has its place in the order; once all have ended as many are known; until then more are known than have ended
pub record AreCounted (m : Partials) : Type 0 where
  pub all : length (openings m) ≡ job_count m
  pub in_the_end : known m (job_count m) ≡ job_count m
  pub before : (n : ℕ) → n < job_count m → n < known m n

abbrev pub JobsAreCounted : Type 0
JobsAreCounted = (m : Partials) → AreCounted m
