-- Printed buckets by their keys.
use Rattle.std.specs.Prelude.{◌≡◌, ℕ, List, All}
use Rattle.std.specs.Cow.{cow_slice_items}
use Rattle.fc_spec.specs.requests.Request.{Kind, Nodes}
use Rattle.fc_spec.specs.requests.Buckets as definition
use Rattle.fc_spec.specs.replies.Reading.{Reading}
use Rattle.fc_spec.specs.replies.Distributed.{carried}
use Rattle.fc_partial.specs.declared.key.Key.TheVariants.{Value}
use Rattle.fc_partial.specs.View.{key_view}
use Rattle.fc_reading.specs.Distinct.{AreDistinct}
use Rattle.fc_reading.specs.declared.candidate.Candidate.{Candidate}
use Rattle.fc_lacks.specs.declared.keyed.Keyed.{Keyed}

-- its key, the shards that it carries, and the bucket
pub record WithKey (B : Type 0) : Type 0 where
  pub key : definition.Key
  pub shards : List ℕ
  pub bucket : B

-- that of a key in the domain Y, on the shards H
abbrev pub keyed_on : {B D : Type 0} → Reading B D → Kind → List ℕ → D → definition.Key → WithKey B
keyed_on R kind H Y key = record { key = key; shards = H; bucket = R.bucket_at kind Y key }

-- that of a key in the domain Y, on the shards that it carries
abbrev pub keyed_of : {B D : Type 0} → Reading B D → Kind → Nodes → List ℕ → D → definition.Key → WithKey B
keyed_of R kind inner H Y key = keyed_on R kind (carried R kind inner H Y key) Y key

-- ---- what the code has

abbrev pub keyed_view : {B H : Type 0} → (B → H) → Keyed B → WithKey H
keyed_view held one = record { key = key_view one.key; shards = cow_slice_items one.shards; bucket = held one.bucket }

-- that of a candidate
abbrev pub keyed_from : {B : Type 0} → Candidate B → Keyed B
keyed_from c = record { key = Value c.val; shards = c.shards; bucket = c.bucket; count = c.stats.count }

-- it names no shard twice, and its count is that on its shards
pub record IsCountedKey {B H D : Type 0} (R : Reading H D) (held : B → H) (one : Keyed B) : Type 0 where
  pub distinct : AreDistinct (cow_slice_items one.shards)
  pub count : one.count ≡ R.count_on (cow_slice_items one.shards) (held one.bucket)

abbrev pub AreCountedKeys : {B H D : Type 0} → Reading H D → (B → H) → List (Keyed B) → Type 0
AreCountedKeys R held list = All (IsCountedKey R held) list
