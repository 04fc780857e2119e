use Rattle.std.proofs.Common.{◌≡◌, ◌∙◌, ◌++◌, ◌∷◌, [], map, ap, sym, subst, subst₂}
use Rattle.std.specs.Arc.{arc_value}
use Rattle.fc_spec.specs.documents.Live.{left_set, HasWholeBlocks}
use Rattle.fc_spec.specs.documents.Operations.{after_ops, blocks_added}
use Rattle.fc_spec.specs.documents.Schema.{Schema, texts_held}
use Rattle.fc_spec.specs.scripts.WorldLimits.{IsWithinLimits}
use Rattle.fc_spec.proofs.documents.LiveBlocks.{left_has}
use Rattle.fc_docs.specs.View.{batch_view}
use Rattle.fc_segment.specs.Merged.{live_blocks, live_blocks_of}
use Rattle.fc_segment.specs.Segmented.{Segmented}
use Rattle.fc_store.specs.Generated.{Generated}
use Rattle.fc_store.specs.OwnIds.{HaveOwnIds}
use Rattle.fc_store.specs.Segments.{AreSegmentsOf}
use Rattle.fc_store.proofs.NextSegments.{IsAdded, after_within, marked_added}
use Rattle.fc_store.proofs.OwnIds.{own_ids_after}
use Rattle.fc_store.proofs.generation.after_batch.Goals as goal

pub with_live-requires : goal.with_live-requires
with_live-requires c =
    let ops = batch_view c.args.batch.now in
    let blocks : c.in_ok-all.all.blocks ≡ blocks_added ops = ap (λ (z : Segmented). z.blocks) c.in_ok-all.ensures in
    let left : c.in_ok-kept.left ≡ left_set ops = c.in_ok-kept.ensures.left in
    record { whole = subst₂ HasWholeBlocks (sym blocks) (sym left) (left_has ops) }

pub with_added-requires-clause-added : goal.with_added-requires-clause-added
with_added-requires-clause-added c =
    let s = c.args.earlier.now.schema in
    let blocks = c.args.earlier.now.blocks in
    let ops = batch_view c.args.batch.now in
    let left : c.in_ok-kept.left ≡ left_set ops = c.in_ok-kept.ensures.left in
    let schema = c.deref.ensures ∙ ap (λ (g : Generated). g.schema) c.earlier.view_is in
    let is : c.in_ok-added.added ≡ record { texts = texts_held s.fields; blocks = blocks_added ops; live = left_set ops } =
    c.in_ok-added.ensures ∙ (λ i. record (c.in_ok-all.ensures i) { live = left i }) ∙ ap (λ (z : Schema). record { texts = texts_held z.fields; blocks = blocks_added ops; live = left_set ops }) schema in
    let added : IsAdded s blocks ops c.in_ok-added.added = marked_added s blocks ops c.in_ok-added.added c.requires.batch.valid c.requires.limits is in
    subst (λ z. AreSegmentsOf z (c.in_ok-added.added ∷ [])) (sym (c.deref-2.ensures ∙ ap (λ (g : Generated). g.schema) c.earlier.view_is)) added.segment

pub with_added-requires-clause-limits : goal.with_added-requires-clause-limits
with_added-requires-clause-limits c =
    let s = c.args.earlier.now.schema in
    let blocks = c.args.earlier.now.blocks in
    let ops = batch_view c.args.batch.now in
    let left : c.in_ok-kept.left ≡ left_set ops = c.in_ok-kept.ensures.left in
    let schema = c.deref.ensures ∙ ap (λ (g : Generated). g.schema) c.earlier.view_is in
    let is : c.in_ok-added.added ≡ record { texts = texts_held s.fields; blocks = blocks_added ops; live = left_set ops } =
    c.in_ok-added.ensures ∙ (λ i. record (c.in_ok-all.ensures i) { live = left i }) ∙ ap (λ (z : Schema). record { texts = texts_held z.fields; blocks = blocks_added ops; live = left_set ops }) schema in
    let added : IsAdded s blocks ops c.in_ok-added.added = marked_added s blocks ops c.in_ok-added.added c.requires.batch.valid c.requires.limits is in
    let kept = c.in_ok-kept.ensures.blocks in
    let total : live_blocks_of (map arc_value c.in_ok-kept.kept.items) ++ live_blocks c.in_ok-added.added ≡ after_ops blocks ops = ap (λ l. l ++ live_blocks c.in_ok-added.added) kept ∙ added.left in
    subst (λ l. IsWithinLimits (l ∷ [])) (sym total) (after_within blocks ops c.requires.limits)

pub returns-clause-blocks : goal.returns-clause-blocks
returns-clause-blocks c =
    let s = c.args.earlier.now.schema in
    let blocks = c.args.earlier.now.blocks in
    let ops = batch_view c.args.batch.now in
    let left : c.in_ok-kept.left ≡ left_set ops = c.in_ok-kept.ensures.left in
    let schema = c.deref.ensures ∙ ap (λ (g : Generated). g.schema) c.earlier.view_is in
    let is : c.in_ok-added.added ≡ record { texts = texts_held s.fields; blocks = blocks_added ops; live = left_set ops } =
    c.in_ok-added.ensures ∙ (λ i. record (c.in_ok-all.ensures i) { live = left i }) ∙ ap (λ (z : Schema). record { texts = texts_held z.fields; blocks = blocks_added ops; live = left_set ops }) schema in
    let added : IsAdded s blocks ops c.in_ok-added.added = marked_added s blocks ops c.in_ok-added.added c.requires.batch.valid c.requires.limits is in
    let kept = c.in_ok-kept.ensures.blocks in
    let total : live_blocks_of (map arc_value c.in_ok-kept.kept.items) ++ live_blocks c.in_ok-added.added ≡ after_ops blocks ops = ap (λ l. l ++ live_blocks c.in_ok-added.added) kept ∙ added.left in
    c.in_ok-made.ensures.blocks ∙ total

pub returns-clause-ids : goal.returns-clause-ids
returns-clause-ids c =
    let s = c.args.earlier.now.schema in
    let blocks = c.args.earlier.now.blocks in
    let ops = batch_view c.args.batch.now in
    let left : c.in_ok-kept.left ≡ left_set ops = c.in_ok-kept.ensures.left in
    let schema = c.deref.ensures ∙ ap (λ (g : Generated). g.schema) c.earlier.view_is in
    let is : c.in_ok-added.added ≡ record { texts = texts_held s.fields; blocks = blocks_added ops; live = left_set ops } =
    c.in_ok-added.ensures ∙ (λ i. record (c.in_ok-all.ensures i) { live = left i }) ∙ ap (λ (z : Schema). record { texts = texts_held z.fields; blocks = blocks_added ops; live = left_set ops }) schema in
    let added : IsAdded s blocks ops c.in_ok-added.added = marked_added s blocks ops c.in_ok-added.added c.requires.batch.valid c.requires.limits is in
    let kept = c.in_ok-kept.ensures.blocks in
    let total : live_blocks_of (map arc_value c.in_ok-kept.kept.items) ++ live_blocks c.in_ok-added.added ≡ after_ops blocks ops = ap (λ l. l ++ live_blocks c.in_ok-added.added) kept ∙ added.left in
    subst HaveOwnIds (sym (c.in_ok-made.ensures.blocks ∙ total)) (own_ids_after blocks ops c.in_ok-kept.ensures.ids)
