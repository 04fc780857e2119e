-- Tallies of lists of places.
use Rattle.std.specs.Prelude.{◌≡◌, List, ◌++◌, map, ◌&&◌, not, None, Some, if◌then◌else◌}
use Rattle.fc_spec.specs.documents.World.{Place}
use Rattle.fc_spec.specs.requests.Buckets.{Key, bucket_places, is_key_of}
use Rattle.fc_spec.specs.requests.Request.{Kind, Stat}
use Rattle.fc_spec.specs.requests.Statistics.{stats_over}
use Rattle.fc_spec.specs.words.Lists.{is_empty}
use Rattle.fc_partial.specs.Tallied.{Tallied}
use Rattle.fc_partial.specs.Tallying.{entry_at}
use Rattle.fc_kind.specs.Collecting.{Collects}

-- the buckets that have one of the places, in order, each with the statistics of its places
pub record IsTallyOf (kind : Kind) (ss : List Stat) (X : List Place) (t : Tallied) : Type 0 where
  pub stats : t.stats ≡ ss
  pub entries : (k : Key) → entry_at t.entries k
      ≡ (if is_key_of kind k && not (is_empty (bucket_places kind k X)) then Some (stats_over ss (bucket_places kind k X)) else None)

-- the same documents in the same order
abbrev pub SameDocuments : List Place → List Place → Type 0
SameDocuments X Y = map (λ p. p.document) X ≡ map (λ p. p.document) Y

-- from the tally of places to that of these and of others, of whose documents a segment was told
abbrev pub CollectingJoins : Type 0
CollectingJoins = (kind : Kind) (ss : List Stat) (X Y told : List Place) (old new : Tallied) → SameDocuments told Y
    → IsTallyOf kind ss X old → Collects kind ss told old new → IsTallyOf kind ss (X ++ Y) new
