use Rattle.std.proofs.Common.{◌≡◌, take}
use Rattle.fc_spec.specs.documents.Live.{blocks_where}
use Rattle.fc_store.specs.Named.{has_one_of, texts_of}
use Rattle.fc_store.proofs.left.live_with_ids.Given as goal

abbrev pub invariant-loop-id : goal.invariant-loop-id
invariant-loop-id l = l.found ≡ blocks_where (has_one_of (texts_of (take l.id-index l.ids))) l.segment.blocks
