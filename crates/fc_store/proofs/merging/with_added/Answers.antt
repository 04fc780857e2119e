use Rattle.std.proofs.Common.{◌∙◌, ◌-◌, ◌<◌, ◌∷◌, [], All, length, map, take, ap, sym, subst}
use Rattle.std.specs.Arc.{arc_value}
use Rattle.fc_spec.specs.documents.Totals.{document_total}
use Rattle.fc_spec.specs.scripts.WorldLimits.{IsWithinLimits}
use Rattle.fc_segment.specs.Merged.{live_blocks_of}
use Rattle.fc_store.specs.Segments.{AreSegmentsOf, if_any}
use Rattle.fc_store.specs.Tiers.{AreTiered, sizes_of}
use Rattle.fc_store.proofs.LiveSegments.{any_segment, live_with, segments-append, sizes_with}
use Rattle.fc_store.proofs.Sizes.{sizes_long}
use Rattle.fc_store.proofs.Tiered.{some_each, tiered_but_last}
use Rattle.fc_store.proofs.merging.with_added.Goals as goal

pub leveled-requires-clause-kept : goal.leveled-requires-clause-kept
leveled-requires-clause-kept c =
    subst (AreSegmentsOf c.args.schema.now) (sym c.in_ok-all.ensures)
    (segments-append c.args.schema.now (map arc_value c.args.segments.items) (if_any c.args.added) c.requires.kept (any_segment c.args.schema.now c.args.added c.requires.added))

pub leveled-requires-clause-some : goal.leveled-requires-clause-some
leveled-requires-clause-some c =
    let segments = map arc_value c.args.segments.items in
    subst (All (λ size. 0 < size)) (sym (ap sizes_of c.in_ok-all.ensures ∙ sizes_with segments c.args.added))
    (some_each (sizes_of segments) (document_total c.args.added.blocks) c.requires.tiers)

pub leveled-requires-clause-tiers : goal.leveled-requires-clause-tiers
leveled-requires-clause-tiers c =
    let segments = map arc_value c.args.segments.items in
    let all = sizes_of (map arc_value c.in_ok-all.all.items) in
    subst (λ n. AreTiered (take (n - 1) all)) (sizes_long arc_value c.in_ok-all.all.items)
    (subst (λ l. AreTiered (take (length l - 1) l)) (sym (ap sizes_of c.in_ok-all.ensures ∙ sizes_with segments c.args.added))
    (tiered_but_last (sizes_of segments) (document_total c.args.added.blocks) c.requires.tiers))

pub leveled-requires-clause-limits : goal.leveled-requires-clause-limits
leveled-requires-clause-limits c =
    subst (λ l. IsWithinLimits (l ∷ [])) (sym (ap live_blocks_of c.in_ok-all.ensures ∙ live_with (map arc_value c.args.segments.items) c.args.added)) c.requires.limits

pub returns-clause-blocks : goal.returns-clause-blocks
returns-clause-blocks c = c.in_ok-made.ensures.blocks ∙ ap live_blocks_of c.in_ok-all.ensures ∙ live_with (map arc_value c.args.segments.items) c.args.added
