-- What the readers of a session pin, one for each shard.
use Rattle.std.specs.Prelude.{◌≡◌, ℕ, zero, suc, ◌<◌, List, [], ◌∷◌, ◌++◌, length, map, replicate, slice_index_or}
use Rattle.std.specs.List.{zip}
use Rattle.fc_spec.specs.documents.Document.{Batch, Block, adding}
use Rattle.fc_store.specs.Charters.{Chartered, last_number}
use Rattle.fc_store.specs.Ends.{IsNoLower, Pinning, PinsGeneration}
use Rattle.fc_store.specs.Generated.{Generated}

-- so many batches with these blocks, which are all added in the first
abbrev pub held : ℕ → List Block → List Batch
held zero blocks = []
held (suc n) blocks = map adding blocks ∷ replicate n []

-- the batches of a charter: for those that its start has, whose blocks alone are known, so many; then those behind it
abbrev pub batches_of : Chartered → List Batch
batches_of charter = held charter.start.number charter.start.blocks ++ charter.later

-- those of the charter of each
abbrev pub charters_of : List Pinning → List (List Batch)
charters_of readers = map (λ r. batches_of r.charter) readers

-- the least number that each pins
abbrev pub least_of : List Pinning → List ℕ
least_of readers = map (λ r. r.least) readers

-- the number of the generation that the charter of each begins with
abbrev pub starts_of : List Pinning → List ℕ
starts_of readers = map (λ r. r.charter.start.number) readers

-- the greatest number that each may pin
abbrev pub most_of : List Pinning → List ℕ
most_of readers = map (λ r. last_number r.charter) readers

-- they pin no less than these numbers
abbrev pub having : List Pinning → List ℕ → List Pinning
having readers g = map (λ x. record x.0 { least = x.1 }) (zip readers g)

-- the numbers of generations
abbrev pub numbers_in : List Generated → List ℕ
numbers_in gs = map (λ g. g.number) gs

-- each is of the same charter as before, and pins no lower numbers
abbrev pub AreNoLower : List Pinning → List Pinning → Type 0
AreNoLower old new = (k : ℕ) (d : Pinning) → k < length old → IsNoLower (slice_index_or old k d) (slice_index_or new k d)

-- each pinned the generation at its place
pub record ArePinned (old : List Pinning) (gs : List Generated) (new : List Pinning) : Type 0 where
  pub count : length gs ≡ length old
  pub all : length new ≡ length old
  pub each : (k : ℕ) (d : Pinning) (g : Generated) → k < length old → PinsGeneration (slice_index_or old k d) (slice_index_or gs k g) (slice_index_or new k d)
