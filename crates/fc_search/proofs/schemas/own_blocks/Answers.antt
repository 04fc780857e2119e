use Rattle.std.proofs.Common.{map, All, subst}
use Rattle.std.specs.Arc.{arc_value}
use Rattle.fc_spec.specs.documents.ValidBlocks.{IsBlockOf}
use Rattle.fc_store.proofs.LiveSegments.{live_valid}
use Rattle.fc_search.proofs.schemas.own_blocks.Goals as goal

pub returns : goal.returns
returns c = subst (All (IsBlockOf c.args.generation.now.schema)) c.segments-segments.ensures.blocks (live_valid c.args.generation.now.schema (map arc_value c.segments-segments.result.now) c.segments-segments.ensures.valid)
