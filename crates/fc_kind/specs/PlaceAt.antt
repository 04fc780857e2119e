-- Places of the blocks of a segment, by their positions.
use Rattle.std.specs.Prelude.{ℕ, List, [], false, slice_index_or}
use Rattle.fc_spec.specs.documents.Document.{Block}
use Rattle.fc_spec.specs.documents.World.{Place, shard_places}

-- the place at a position, where the blocks are a shard's
abbrev pub place_at : List Block → ℕ → Place
place_at blocks at = slice_index_or (shard_places 0 0 0 blocks) at (record { shard = 0; position = 0; block = 0; parent = false; document = [] })
