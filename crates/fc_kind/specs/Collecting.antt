-- What a kind of facet makes of a tally.
use Rattle.std.specs.Prelude.{◌≡◌, Bool, List, true, false, Some}
use Rattle.std.specs.Option.{ForSome}
use Rattle.fc_spec.specs.documents.World.{Place}
use Rattle.fc_spec.specs.messages.KeyOrder.{same_key}
use Rattle.fc_spec.specs.requests.Buckets.{Key, bucket_places, is_key_of}
use Rattle.fc_spec.specs.requests.Request.{Kind, Stat}
use Rattle.fc_spec.specs.requests.Statistics.{stats_over}
use Rattle.fc_spec.specs.words.Lists.{is_empty}
use Rattle.fc_partial.specs.Adding.{AddUp}
use Rattle.fc_partial.specs.Tallied.{Entry, Tallied}
use Rattle.fc_partial.specs.Tallying.{entry_at, with_more}

-- each bucket among these keys that has one of the places has their statistics too, and nothing else changes
pub record CollectsAmong (keys : Key → Bool) (kind : Kind) (ss : List Stat) (Y : List Place) (old new : Tallied) : Type 0 where
  pub stats : new.stats ≡ old.stats
  pub grown : (k : Key) → keys k ≡ true → is_empty (bucket_places kind k Y) ≡ false
      → entry_at new.entries k ≡ Some (with_more ss (entry_at old.entries k) (stats_over ss (bucket_places kind k Y)))
  pub empty : (k : Key) → keys k ≡ true → is_empty (bucket_places kind k Y) ≡ true → entry_at new.entries k ≡ entry_at old.entries k
  pub others : (k : Key) → keys k ≡ false → entry_at new.entries k ≡ entry_at old.entries k

-- the same of each bucket of the facet
abbrev pub Collects : Kind → List Stat → List Place → Tallied → Tallied → Type 0
Collects kind ss Y old new = CollectsAmong (is_key_of kind) kind ss Y old new

-- the key has the statistics of the places too, where there are some, and nothing else changes
pub record GrowsBy (k : Key) (X : List Place) (old new : Tallied) : Type 0 where
  pub stats : new.stats ≡ old.stats
  pub some : is_empty X ≡ false → entry_at new.entries k ≡ Some (with_more old.stats (entry_at old.entries k) (stats_over old.stats X))
  pub none : is_empty X ≡ true → entry_at new.entries k ≡ entry_at old.entries k
  pub others : (q : Key) → same_key q k ≡ false → entry_at new.entries q ≡ entry_at old.entries q

-- what each bucket has adds up with the statistics of the places
abbrev pub BucketsAddUp : Kind → List Stat → List Place → List Entry → Type 0
BucketsAddUp kind ss Y es = (k : Key) → is_key_of kind k ≡ true → ForSome (entry_at es k) (λ there. AddUp there (stats_over ss (bucket_places kind k Y)))
