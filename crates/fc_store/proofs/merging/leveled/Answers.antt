use Rattle.std.proofs.Common.{◌∙◌, ◌++◌, ◌∷◌, [], map, take, drop, sum, ap, sym, subst}
use Rattle.std.specs.Arc.{arc_value}
use Rattle.fc_segment.specs.Merged.{live_blocks_of}
use Rattle.fc_store.specs.Segments.{AreDense, AreSegmentsOf}
use Rattle.fc_store.specs.Tiers.{AreTiered, sizes_of}
use Rattle.fc_store.proofs.Leveled.{merged_all_dense, merged_are, merged_live, merged_tiers}
use Rattle.fc_store.proofs.merging.leveled.Goals as goal

pub returns-clause-blocks : goal.returns-clause-blocks
returns-clause-blocks c = ap live_blocks_of c.in_ok-made.ensures ∙ merged_live c.args.schema.now c.in_ok-place.place (map arc_value c.args.segments.items)

pub returns-clause-kept : goal.returns-clause-kept
returns-clause-kept c =
    subst (AreSegmentsOf c.args.schema.now) (sym c.in_ok-made.ensures)
    (merged_are c.args.schema.now c.in_ok-place.place (map arc_value c.args.segments.items) c.requires.kept c.requires.limits)

pub returns-clause-tiers : goal.returns-clause-tiers
returns-clause-tiers c =
    let k = c.in_ok-place.place in
    let segments = map arc_value c.args.segments.items in
    subst (λ gs. AreTiered (sizes_of gs)) (sym c.in_ok-made.ensures)
    (merged_tiers c.args.schema.now c.in_ok-place.place segments (subst (λ xs. AreTiered (take k (sizes_of (map arc_value xs)) ++ sum (drop k (sizes_of (map arc_value xs))) ∷ [])) c.deref-2.ensures.value c.in_ok-place.ensures.tiers))

pub returns-clause-dense : goal.returns-clause-dense
returns-clause-dense c =
    let segments = map arc_value c.args.segments.items in
    subst AreDense (sym c.in_ok-made.ensures)
    (merged_all_dense c.args.schema.now c.in_ok-place.place c.first_sparse-sparse.result segments c.in_ok-place.ensures.low
    (subst (λ xs. AreDense (take c.first_sparse-sparse.result (map arc_value xs))) c.deref.ensures.value c.first_sparse-sparse.ensures.dense))
