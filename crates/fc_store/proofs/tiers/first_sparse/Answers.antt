use Rattle.std.proofs.Common.{◌*◌, ◌≤◌, length, map, sym, subst, arith}
use Rattle.std.proofs.lemmas.Bool.{MatchBool-at_false}
use Rattle.std.proofs.lemmas.List.{length-map}
use Rattle.std.proofs.lemmas.List.Elements.{All-more}
use Rattle.std.proofs.lemmas.Option.{slice_get_past}
use Rattle.std.specs.Arc.{arc_value}
use Rattle.fc_spec.specs.documents.Totals.{document_total}
use Rattle.fc_segment.specs.Merged.{live_blocks}
use Rattle.fc_segment.specs.Segmented.{Segmented}
use Rattle.fc_store.proofs.Sizes.{value_at}
use Rattle.fc_store.proofs.tiers.first_sparse.Goals as goal

pub loop-at-preserved : goal.loop-at-preserved
loop-at-preserved c =
    let segments = c.args.segments.now in
    let at = c.loop-at.at in
    let one = c.index-segments-at.result in
    let dense = λ (z : Segmented). document_total z.blocks ≤ 2 * document_total (live_blocks z) in
    let here : dense (arc_value one) = subst dense c.deref.ensures (MatchBool-at_false _ _ c.if-is_sparse.false c.is_sparse.ensures) in
    All-more dense (map arc_value segments) at (arc_value one) (omega (arith, length-map segments arc_value, c.loop-at-test.true)) c.loop-at.invariant
    (subst dense (sym (value_at arc_value segments at one c.loop-at-test.true c.index-segments-at.is)) here)

pub returns-clause-sparse : goal.returns-clause-sparse
returns-clause-sparse c =
    let all = map arc_value c.args.segments.now in
    rw (slice_get_past all (length c.args.segments.now) (omega (arith, length-map c.args.segments.now arc_value))) tt
