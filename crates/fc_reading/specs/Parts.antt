-- Printed buckets without the facets in them.
use Rattle.std.specs.Prelude.{◌≡◌, ℕ, List, [], ◌∷◌, ◌++◌, map, Option, None, Some, option_map, All, IfSome}
use Rattle.std.specs.Cow.{cow_slice_items}
use Rattle.fc_spec.specs.documents.Val.{Val}
use Rattle.fc_spec.specs.requests.Request.{Kind, query, Nodes, Stat, stats_of}
use Rattle.fc_spec.specs.requests.Buckets.{Key, whole}
use Rattle.fc_spec.specs.replies.Reply.{Spot, listed, as_missing, as_before, as_between, as_after, spot_of, val_of, bucket, Bucket, Facets, Row, no_parts, part}
use Rattle.fc_spec.specs.replies.Reading.{Reading, stats_on}
use Rattle.fc_spec.specs.replies.Distributed.{carried, printed_keys}
use Rattle.fc_base.specs.View.{val_view}
use Rattle.fc_partial.specs.StatsView.{stats_view}
use Rattle.fc_reading.specs.Distinct.{AreDistinct}
use Rattle.fc_reading.specs.declared.part.Part.{Part}
use Rattle.fc_reading.specs.declared.part.Parts.{Parts}
use Rattle.fc_reading.specs.declared.part.Printed.{Printed}
use Rattle.fc_reading.specs.declared.part.Printed.TheVariants.{Many, One}

-- where it stands, its value, the shards that it carries, and the bucket
pub record Seen (B : Type 0) : Type 0 where
  pub spot : Spot
  pub val : Option Val
  pub shards : List ℕ
  pub bucket : B

-- that of a key in the domain Y on the shards H
abbrev pub part_of : {B D : Type 0} → Reading B D → Kind → Nodes → List ℕ → D → Key → Seen B
part_of R kind inner H Y key = record {
  spot = spot_of key;
  val = val_of kind key;
  shards = carried R kind inner H Y key;
  bucket = R.bucket_at kind Y key;
}

-- those that a facet prints
abbrev pub parts_of : {B D : Type 0} → Reading B D → Kind → Nodes → List ℕ → D → List (Seen B)
parts_of R kind inner H Y = map (part_of R kind inner H Y) (printed_keys R kind inner H Y)

-- a printed bucket with the facets in it
abbrev pub bucket_with : {B : Type 0} → (count : List ℕ → B → ℕ) → (inside : List ℕ → B → Facets) → Seen B → Bucket
bucket_with count inside p = bucket p.val (count p.shards p.bucket) (inside p.shards p.bucket)

abbrev pub row_with : {B : Type 0} → (count : List ℕ → B → ℕ) → (inside : List ℕ → B → Facets) → List (Seen B) → Row
row_with count inside [] = no_parts
row_with count inside (p ∷ ps) = part p.spot (bucket_with count inside p) (row_with count inside ps)

-- ---- what the code has

abbrev pub part_view : {B H : Type 0} → (B → H) → Spot → Part B → Seen H
part_view held spot p = record { spot = spot; val = option_map val_view p.val; shards = cow_slice_items p.shards; bucket = held p.bucket }

-- at a spot, where it is there
abbrev pub beside : {B H : Type 0} → (B → H) → Spot → Option (Part B) → List (Seen H)
beside held spot None = []
beside held spot (Some p) = part_view held spot p ∷ []

abbrev pub parts_view : {B H : Type 0} → (B → H) → Parts B → List (Seen H)
parts_view held ps =
    map (part_view held listed) ps.list.items
    ++ (beside held as_missing ps.missing ++ (beside held as_before ps.before ++ (beside held as_between ps.between ++ beside held as_after ps.after)))

-- it names no shard twice, and its count and statistics are those on its shards
pub record IsCounted {B H D : Type 0} (R : Reading H D) (held : B → H) (ss : List Stat) (p : Part B) : Type 0 where
  pub distinct : AreDistinct (cow_slice_items p.shards)
  pub stats : stats_view p.stats ≡ stats_on R ss (cow_slice_items p.shards) (held p.bucket)

pub record AreCounted {B H D : Type 0} (R : Reading H D) (held : B → H) (ss : List Stat) (ps : Parts B) : Type 0 where
  pub list : All (IsCounted R held ss) ps.list.items
  pub missing : IfSome ps.missing (IsCounted R held ss)
  pub before : IfSome ps.before (IsCounted R held ss)
  pub between : IfSome ps.between (IsCounted R held ss)
  pub after : IfSome ps.after (IsCounted R held ss)

-- what a facet prints, with its counts
abbrev pub IsPrinted : {B H D : Type 0} → Reading H D → (B → H) → Kind → Nodes → List ℕ → D → Printed B → Type 0
IsPrinted R held (query q) inner H Y (Many ps) = ⊥
IsPrinted R held kind inner H Y (Many ps) = (parts_view held ps ≡ parts_of R kind inner H Y) × AreCounted R held (stats_of inner) ps
IsPrinted R held (query q) inner H Y (One p) = (part_view held listed p ≡ part_of R (query q) inner H Y whole) × IsCounted R held (stats_of inner) p
IsPrinted R held kind inner H Y (One p) = ⊥
