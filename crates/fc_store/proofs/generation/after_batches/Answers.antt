use Rattle.std.proofs.Common.{◌≡◌, ◌∙◌, ◌++◌, ◌∷◌, [], not, true, length, map, replicate, All, ap, sym, subst, subst₂, arith}
use Rattle.std.specs.Arc.{arc_value}
use Rattle.std.specs.List.{filter}
use Rattle.fc_spec.specs.documents.Live.{left_set}
use Rattle.fc_spec.specs.documents.Operations.{after_ops, blocks_added, is_named, left_of}
use Rattle.fc_spec.specs.documents.Schema.{Schema, texts_held}
use Rattle.fc_spec.specs.documents.Totals.{document_total}
use Rattle.fc_spec.specs.documents.ValidBlocks.{IsBlockOf}
use Rattle.fc_spec.specs.scripts.WorldLimits.{IsWithinLimits}
use Rattle.fc_spec.specs.words.Lists.{joined}
use Rattle.fc_spec.proofs.documents.LiveBlocks.{left_has, length-live}
use Rattle.fc_docs.specs.View.{batch_view}
use Rattle.fc_segment.specs.Merged.{live_blocks, live_blocks_of}
use Rattle.fc_store.specs.Generated.{Generated}
use Rattle.fc_store.specs.OwnIds.{HaveOwnIds}
use Rattle.fc_store.specs.Segments.{AreSegmentsOf}
use Rattle.fc_store.proofs.NextSegments.{IsAdded, after_within, left_alone, left_few, left_valid, only_added}
use Rattle.fc_store.proofs.OwnIds.{own_ids_after}
use Rattle.fc_store.proofs.generation.after_batches.Goals as goal

pub only_left-requires : goal.only_left-requires
only_left-requires c =
    let ops = joined (map batch_view c.args.batches.items) in
    let left : c.in_ok-kept.left ≡ left_set ops = c.in_ok-kept.ensures.left ∙ ap (λ l. left_set (joined (map batch_view l))) c.deref.ensures.value in
    ap length left ∙ length-live (blocks_added ops) (left_set ops) (left_has ops)

pub of_batches-requires-clause-valid : goal.of_batches-requires-clause-valid
of_batches-requires-clause-valid c =
    let s = c.args.earlier.now.schema in
    let ops = joined (map batch_view c.args.batches.items) in
    let left : c.in_ok-kept.left ≡ left_set ops = c.in_ok-kept.ensures.left ∙ ap (λ l. left_set (joined (map batch_view l))) c.deref.ensures.value in
    let alone : blocks_added (joined (map batch_view c.in_ok-only.only.items)) ≡ left_of ops = c.in_ok-only.ensures ∙ left_alone ops c.in_ok-kept.left left in
    subst₂ (λ (z : Schema) bs. All (IsBlockOf z) bs) (sym (c.deref-2.ensures ∙ ap (λ (g : Generated). g.schema) c.earlier.view_is)) (sym alone) (left_valid s ops c.requires.batch.valid)

pub of_batches-requires-clause-few : goal.of_batches-requires-clause-few
of_batches-requires-clause-few c =
    let ops = joined (map batch_view c.args.batches.items) in
    let left : c.in_ok-kept.left ≡ left_set ops = c.in_ok-kept.ensures.left ∙ ap (λ l. left_set (joined (map batch_view l))) c.deref.ensures.value in
    let alone : blocks_added (joined (map batch_view c.in_ok-only.only.items)) ≡ left_of ops = c.in_ok-only.ensures ∙ left_alone ops c.in_ok-kept.left left in
    omega (arith, ap document_total alone, left_few ops, c.requires.batch.few)

pub with_added-requires-clause-added : goal.with_added-requires-clause-added
with_added-requires-clause-added c =
    let s = c.args.earlier.now.schema in
    let blocks = c.args.earlier.now.blocks in
    let ops = joined (map batch_view c.args.batches.items) in
    let left : c.in_ok-kept.left ≡ left_set ops = c.in_ok-kept.ensures.left ∙ ap (λ l. left_set (joined (map batch_view l))) c.deref.ensures.value in
    let schema = c.deref-2.ensures ∙ ap (λ (g : Generated). g.schema) c.earlier.view_is in
    let alone : blocks_added (joined (map batch_view c.in_ok-only.only.items)) ≡ left_of ops = c.in_ok-only.ensures ∙ left_alone ops c.in_ok-kept.left left in
    let is : c.in_ok-added.added ≡ record { texts = texts_held s.fields; blocks = left_of ops; live = replicate (document_total (left_of ops)) true } =
    c.in_ok-added.ensures
    ∙ (λ i. record { texts = texts_held (schema i).fields; blocks = alone i; live = replicate (document_total (alone i)) true }) in
    let added : IsAdded s blocks ops c.in_ok-added.added = only_added s blocks ops c.in_ok-added.added c.requires.batch.valid c.requires.limits is in
    subst (λ z. AreSegmentsOf z (c.in_ok-added.added ∷ [])) (sym (c.deref-3.ensures ∙ ap (λ (g : Generated). g.schema) c.earlier.view_is)) added.segment

pub with_added-requires-clause-limits : goal.with_added-requires-clause-limits
with_added-requires-clause-limits c =
    let s = c.args.earlier.now.schema in
    let blocks = c.args.earlier.now.blocks in
    let ops = joined (map batch_view c.args.batches.items) in
    let left : c.in_ok-kept.left ≡ left_set ops = c.in_ok-kept.ensures.left ∙ ap (λ l. left_set (joined (map batch_view l))) c.deref.ensures.value in
    let schema = c.deref-2.ensures ∙ ap (λ (g : Generated). g.schema) c.earlier.view_is in
    let alone : blocks_added (joined (map batch_view c.in_ok-only.only.items)) ≡ left_of ops = c.in_ok-only.ensures ∙ left_alone ops c.in_ok-kept.left left in
    let is : c.in_ok-added.added ≡ record { texts = texts_held s.fields; blocks = left_of ops; live = replicate (document_total (left_of ops)) true } =
    c.in_ok-added.ensures
    ∙ (λ i. record { texts = texts_held (schema i).fields; blocks = alone i; live = replicate (document_total (alone i)) true }) in
    let added : IsAdded s blocks ops c.in_ok-added.added = only_added s blocks ops c.in_ok-added.added c.requires.batch.valid c.requires.limits is in
    let kept = c.in_ok-kept.ensures.blocks ∙ ap (λ l. filter (λ b. not (is_named (joined (map batch_view l)) b)) blocks) c.deref.ensures.value in
    let total : live_blocks_of (map arc_value c.in_ok-kept.kept.items) ++ live_blocks c.in_ok-added.added ≡ after_ops blocks ops = ap (λ l. l ++ live_blocks c.in_ok-added.added) kept ∙ added.left in
    subst (λ l. IsWithinLimits (l ∷ [])) (sym total) (after_within blocks ops c.requires.limits)

pub returns-clause-blocks : goal.returns-clause-blocks
returns-clause-blocks c =
    let s = c.args.earlier.now.schema in
    let blocks = c.args.earlier.now.blocks in
    let ops = joined (map batch_view c.args.batches.items) in
    let left : c.in_ok-kept.left ≡ left_set ops = c.in_ok-kept.ensures.left ∙ ap (λ l. left_set (joined (map batch_view l))) c.deref.ensures.value in
    let schema = c.deref-2.ensures ∙ ap (λ (g : Generated). g.schema) c.earlier.view_is in
    let alone : blocks_added (joined (map batch_view c.in_ok-only.only.items)) ≡ left_of ops = c.in_ok-only.ensures ∙ left_alone ops c.in_ok-kept.left left in
    let is : c.in_ok-added.added ≡ record { texts = texts_held s.fields; blocks = left_of ops; live = replicate (document_total (left_of ops)) true } =
    c.in_ok-added.ensures
    ∙ (λ i. record { texts = texts_held (schema i).fields; blocks = alone i; live = replicate (document_total (alone i)) true }) in
    let added : IsAdded s blocks ops c.in_ok-added.added = only_added s blocks ops c.in_ok-added.added c.requires.batch.valid c.requires.limits is in
    let kept = c.in_ok-kept.ensures.blocks ∙ ap (λ l. filter (λ b. not (is_named (joined (map batch_view l)) b)) blocks) c.deref.ensures.value in
    let total : live_blocks_of (map arc_value c.in_ok-kept.kept.items) ++ live_blocks c.in_ok-added.added ≡ after_ops blocks ops = ap (λ l. l ++ live_blocks c.in_ok-added.added) kept ∙ added.left in
    c.in_ok-made.ensures.blocks ∙ total

pub returns-clause-ids : goal.returns-clause-ids
returns-clause-ids c =
    let s = c.args.earlier.now.schema in
    let blocks = c.args.earlier.now.blocks in
    let ops = joined (map batch_view c.args.batches.items) in
    let left : c.in_ok-kept.left ≡ left_set ops = c.in_ok-kept.ensures.left ∙ ap (λ l. left_set (joined (map batch_view l))) c.deref.ensures.value in
    let schema = c.deref-2.ensures ∙ ap (λ (g : Generated). g.schema) c.earlier.view_is in
    let alone : blocks_added (joined (map batch_view c.in_ok-only.only.items)) ≡ left_of ops = c.in_ok-only.ensures ∙ left_alone ops c.in_ok-kept.left left in
    let is : c.in_ok-added.added ≡ record { texts = texts_held s.fields; blocks = left_of ops; live = replicate (document_total (left_of ops)) true } =
    c.in_ok-added.ensures
    ∙ (λ i. record { texts = texts_held (schema i).fields; blocks = alone i; live = replicate (document_total (alone i)) true }) in
    let added : IsAdded s blocks ops c.in_ok-added.added = only_added s blocks ops c.in_ok-added.added c.requires.batch.valid c.requires.limits is in
    let kept = c.in_ok-kept.ensures.blocks ∙ ap (λ l. filter (λ b. not (is_named (joined (map batch_view l)) b)) blocks) c.deref.ensures.value in
    let total : live_blocks_of (map arc_value c.in_ok-kept.kept.items) ++ live_blocks c.in_ok-added.added ≡ after_ops blocks ops = ap (λ l. l ++ live_blocks c.in_ok-added.added) kept ∙ added.left in
    subst HaveOwnIds (sym (c.in_ok-made.ensures.blocks ∙ total)) (own_ids_after blocks ops c.in_ok-kept.ensures.ids)
