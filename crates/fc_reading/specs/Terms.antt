-- Candidates of a terms facet.
use Rattle.std.specs.Prelude.{◌≡◌, ℕ, All, List, map, Some, if◌then◌else◌}
use Rattle.std.specs.Cow.{cow_slice_items}
use Rattle.std.specs.List.{filter, flat_map}
use Rattle.fc_spec.specs.documents.Val.{Val, has_val, distinct}
use Rattle.fc_spec.specs.requests.Request.{Terms, terms, Nodes}
use Rattle.fc_spec.specs.requests.Buckets.{value as value_key}
use Rattle.fc_spec.specs.requests.Ranks.{Entry}
use Rattle.fc_spec.specs.requests.Shape.{asks_again}
use Rattle.fc_spec.specs.replies.Reading.{Reading}
use Rattle.fc_spec.specs.replies.Chosen.{offering, known, entry_on}
use Rattle.fc_base.specs.View.{val_view}
use Rattle.fc_partial.specs.StatsView.{stats_view}
use Rattle.fc_reading.specs.declared.candidate.Candidate.{Candidate}
use Rattle.fc_reading.specs.declared.offered.Offered.{Offered}
use Rattle.fc_reading.specs.declared.part.Part.{Part}

-- each offered value with the shards that offer it
abbrev pub offered_view : Offered → Val × List ℕ
offered_view o = (val_view o.val.now, o.shards.items)

-- the values of lists, each shard's own, in index order, each with the shards that have it
abbrev pub merged : (ℕ → List Val) → List ℕ → List (Val × List ℕ)
merged f shards = map (λ v. (v, filter (λ i. has_val v (f i)) shards)) (distinct (flat_map f shards))

abbrev pub candidate_view : {B : Type 0} → Candidate B → Entry
candidate_view c = record { val = val_view c.val; stats = stats_view c.stats }

abbrev pub candidate_vals : {B : Type 0} → List (Candidate B) → List Val
candidate_vals cs = map (λ c. val_view c.val) cs

-- its bucket, without the facets in it
abbrev pub part_from : {B : Type 0} → Candidate B → Part B
part_from c = record { val = Some c.val; shards = c.shards; bucket = c.bucket; stats = c.stats }

abbrev pub candidates_view : {B : Type 0} → List (Candidate B) → List Entry
candidates_view cs = map candidate_view cs

module _ {H D : Type 0} (R : Reading H D) (t : Terms) (inner : Nodes) (shards : List ℕ) (Y : D) where
  -- over which shards a candidate is counted first: where it is ranked among all, over those that offer it
  abbrev pub counted_first : Val → List ℕ
  counted_first v = if asks_again t inner then offering R t inner shards Y v else known R t inner shards Y v

  -- it is the bucket of its value, and is counted over those shards
  pub record IsOn {B : Type 0} (held : B → H) (counted : Val → List ℕ) (c : Candidate B) : Type 0 where
    pub bucket : held c.bucket ≡ R.bucket_at (terms t) Y (value_key (val_view c.val))
    pub shards_are : cow_slice_items c.shards ≡ counted (val_view c.val)
    pub entry : candidate_view c ≡ entry_on R t inner shards Y (counted (val_view c.val)) (val_view c.val)

  -- each is counted over those shards
  abbrev pub AreOn : {B : Type 0} (held : B → H) (counted : Val → List ℕ) → List (Candidate B) → Type 0
  AreOn held counted cs = All (IsOn held counted) cs

  -- over those over which it is counted first
  abbrev pub AreOnFirst : {B : Type 0} (held : B → H) → List (Candidate B) → Type 0
  AreOnFirst held cs = AreOn held counted_first cs

  -- over those that are known of its value
  abbrev pub AreOnKnown : {B : Type 0} (held : B → H) → List (Candidate B) → Type 0
  AreOnKnown held cs = AreOn held (known R t inner shards Y) cs
