use Rattle.std.proofs.Common.{◌∙◌, length, map, take, ap, subst, arith, length-append}
use Rattle.std.specs.Prelude.{count_by}
use Rattle.std.specs.Arc.{arc_value}
use Rattle.std.specs.List.{items_where_true}
use Rattle.fc_segment.specs.Merged.{live_marks, IsWhole}
use Rattle.fc_segment.specs.Parents.{parents_in}
use Rattle.fc_segment.specs.Segmented.{Segmented}
use Rattle.fc_segment.proofs.MergedMarks.{length-live_marks}
use Rattle.fc_segment.proofs.MergedParts.{holds_more, marks_more}
use Rattle.fc_segment.proofs.merged_parents.live_count.Goals as goal

pub loop-segment-preserved : goal.loop-segment-preserved
loop-segment-preserved c =
    let segments = c.args.segments.now in
    let i = c.loop-segment.segment-index in
    let one = c.segment-item.result in
    let held = arc_value one in
    let whole : IsWhole held = subst IsWhole c.deref.ensures c.live.ensures.whole in
    let live = ap (λ set. count_by (λ here. here) set) (c.live.ensures.live ∙ ap (λ (s : Segmented). s.live) c.deref.ensures) in
    record {
      count = omega (
        arith,
        c.in-Some.ensures,
        c.loop-segment.invariant.count,
        c.count.ensures,
        live,
        length-live_marks held.blocks held.live whole,
        ap length (marks_more arc_value segments i one c.loop-segment-test.true c.segment-item.is),
        length-append (live_marks (map arc_value (take i segments))) (items_where_true held.live (parents_in held.blocks)),
      );
      whole = holds_more arc_value segments i one c.loop-segment-test.true c.segment-item.is IsWhole c.loop-segment.invariant.whole whole;
    }
