-- The places of sets that are made segment by segment.
use Rattle.std.specs.Prelude.{◌≡◌, ℕ, ◌+◌, List, [], ◌∷◌, ◌++◌, drop, length, take}
use Rattle.fc_spec.specs.documents.Sets.{places_on}
use Rattle.fc_spec.specs.documents.World.{World, Place}
use Rattle.fc_spec.specs.requests.Buckets.{Key}
use Rattle.fc_spec.specs.requests.Request.{Kind, Stat}
use Rattle.fc_spec.specs.requests.Statistics.{Stats, stats_over}
use Rattle.fc_partial.specs.Tallied.{Tallied}
use Rattle.fc_kind.specs.Tallies.{IsTallyOf}
use Rattle.fc_answers.specs.SetAnswer.{Pieces, Sets, bucket_sets, whole_world}

-- the places of the first segments, of which sets are there; the segments are numbered from one number on
abbrev pub gathered_from : ℕ → World → Sets → List Place
gathered_from s [] sets = []
gathered_from s (blocks ∷ V) [] = []
gathered_from s (blocks ∷ V) (set ∷ sets) = places_on s blocks set ++ gathered_from (s + 1) V sets

abbrev pub gathered : World → Sets → List Place
gathered V sets = gathered_from 0 V sets

-- the first of all the sets
abbrev pub AreFirst : (all first : Sets) → Type 0
AreFirst all first = first ++ drop (length first) all ≡ all

-- of a facet with the domain D the sets so far are the first, and the tally is that of their places
pub record IsCountedSoFar (V : Pieces) (D : Sets) (kind : Kind) (ss : List Stat) (domain : Sets) (t : Tallied) : Type 0 where
  pub first : AreFirst D domain
  pub tally : IsTallyOf kind ss (gathered (whole_world V) domain) t

-- the statistics are those of a key's bucket in the first segments
abbrev pub AreSoFar : Pieces → Sets → Kind → List Stat → Key → ℕ → Stats → Type 0
AreSoFar V domain kind ss key at stats = stats ≡ stats_over ss (gathered (whole_world V) (take at (bucket_sets V kind key domain)))
