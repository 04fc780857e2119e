use Rattle.std.proofs.Common.{◌∙◌, ◌||◌, false, replicate, length, take, sym, ap, ap₂}
use Rattle.fc_spec.specs.documents.Live.{blocks_where}
use Rattle.fc_spec.specs.documents.Operations.{has_id}
use Rattle.fc_spec.specs.documents.Sets.{zip_with}
use Rattle.fc_spec.proofs.documents.LiveBlocks.{length-live}
use Rattle.fc_store.specs.Named.{has_one_of, texts_of}
use Rattle.fc_store.proofs.NamedSets.{none_where, ids_more, length-blocks_where}
use Rattle.fc_store.proofs.left.live_with_ids.Goals as goal

pub loop-id-init : goal.loop-id-init
loop-id-init c = c.in_ok-found.ensures ∙ ap (λ n. replicate n false) c.doc_count.ensures ∙ sym (none_where c.args.segment.now.blocks)

pub parents_with_id-requires-clause-length : goal.parents_with_id-requires-clause-length
parents_with_id-requires-clause-length c =
    ap length c.loop-id.invariant ∙ length-blocks_where (has_one_of (texts_of (take c.loop-id.id-index c.args.ids.now))) c.args.segment.now.blocks

pub loop-id-preserved : goal.loop-id-preserved
loop-id-preserved c =
    let blocks = c.args.segment.now.blocks in
    let i = c.loop-id.id-index in
    c.parents_with_id.ensures ∙ ap₂ (λ found x. zip_with ◌||◌ found (blocks_where (has_id x) blocks)) c.loop-id.invariant c.bytes.ensures.value
    ∙ ids_more c.args.ids.now i c.id-item.result blocks c.loop-id-test.true c.id-item.is

pub and_with-requires : goal.and_with-requires
and_with-requires c =
    ap length c.loop-id.invariant ∙ length-blocks_where (has_one_of (texts_of (take c.loop-id.id-index c.args.ids.now))) c.args.segment.now.blocks
    ∙ sym (ap length c.live.ensures.live ∙ length-live c.args.segment.now.blocks c.args.segment.now.live c.live.ensures.whole)
