use Rattle.std.proofs.Common.{◌≡◌, ◌∙◌, ◌++◌, ◌+◌, length, map, take, ap, ap₂, sym, subst, arith, length-append}
use Rattle.std.specs.Prelude.{count_by}
use Rattle.std.specs.Arc.{arc_value}
use Rattle.std.specs.List.{items_where_true}
use Rattle.std.proofs.lemmas.List.{take_all}
use Rattle.fc_segment.specs.Begun.{begun}
use Rattle.fc_segment.specs.Merged.{live_marks, IsWhole}
use Rattle.fc_segment.specs.Parents.{parents_in}
use Rattle.fc_segment.specs.Segmented.{Segmented}
use Rattle.fc_segment.proofs.Begun.{begun_itself, begun-whole, length-begun, take-begun}
use Rattle.fc_segment.proofs.MergedMarks.{length-live_marks, length-live_positions}
use Rattle.fc_segment.proofs.MergedParts.{marks_few, marks_more}
use Rattle.fc_segment.proofs.merged_parents.merged_parents.Goals as goal

pub add_live-next-requires-clause-even : goal.add_live-next-requires-clause-even
add_live-next-requires-clause-even c =
    let again = c.deref-in-loop-segment.result.now in
    ap length c.live.ensures.live ∙ length-live_positions again.blocks again.live c.live.ensures.whole
    ∙ ap (λ (s : Segmented). length (parents_in s.blocks)) (c.deref-in-loop-segment.ensures ∙ sym c.deref.ensures) ∙ sym (ap length c.parents.ensures)

pub add_live-next-requires-clause-room : goal.add_live-next-requires-clause-room
add_live-next-requires-clause-room c =
    let segments = c.args.segments.now in
    let i = c.loop-segment.segment-index in
    let held = arc_value c.segment-item.result in
    let marks = live_marks (map arc_value (take i segments)) in
    let total = length (live_marks (map arc_value segments)) in
    let few = marks_few arc_value segments i c.segment-item.result c.loop-segment-test.true c.segment-item.is in
    let whole : IsWhole held = subst IsWhole c.deref-in-loop-segment.ensures c.live.ensures.whole in
    let live = ap (λ set. count_by (λ here. here) set) (c.live.ensures.live ∙ ap (λ (s : Segmented). s.live) c.deref-in-loop-segment.ensures) in
    omega (arith, c.loop-segment.invariant.next, few, live, length-live_marks held.blocks held.live whole, ap length c.loop-segment.invariant.parents, length-begun total marks (omega (arith, few)))

pub add_live-next-requires-clause-begun : goal.add_live-next-requires-clause-begun
add_live-next-requires-clause-begun c =
    let segments = c.args.segments.now in
    let i = c.loop-segment.segment-index in
    let few = marks_few arc_value segments i c.segment-item.result c.loop-segment-test.true c.segment-item.is in
    begun_itself (live_marks (map arc_value (take i segments))) c.loop-segment.parents (length (live_marks (map arc_value segments))) c.loop-segment.next
    c.loop-segment.invariant.parents c.loop-segment.invariant.next (omega (arith, few))

pub loop-segment-preserved : goal.loop-segment-preserved
loop-segment-preserved c =
    let segments = c.args.segments.now in
    let i = c.loop-segment.segment-index in
    let one = c.segment-item.result in
    let held = arc_value one in
    let marks = live_marks (map arc_value (take i segments)) in
    let here = items_where_true held.live (parents_in held.blocks) in
    let total = length (live_marks (map arc_value segments)) in
    let few = marks_few arc_value segments i one c.loop-segment-test.true c.segment-item.is in
    let more = marks_more arc_value segments i one c.loop-segment-test.true c.segment-item.is in
    let whole : IsWhole held = subst IsWhole c.deref-in-loop-segment.ensures c.live.ensures.whole in
    let set = c.live.ensures.live ∙ ap (λ (s : Segmented). s.live) c.deref-in-loop-segment.ensures in
    let parents = c.parents.ensures ∙ ap (λ (s : Segmented). parents_in s.blocks) c.deref.ensures in
    record {
      next = c.add_live-next.ensures.next
          ∙ ap₂ (λ n k. n + k) c.loop-segment.invariant.next (ap (λ l. count_by (λ b. b) l) set ∙ sym (length-live_marks held.blocks held.live whole))
          ∙ sym (ap length more ∙ length-append marks here);
      parents = c.add_live-next.ensures.set
          ∙ ap₂ begun (ap length c.loop-segment.invariant.parents ∙ length-begun total marks (omega (arith, few)))
          (ap₂ (λ a b. a ++ b) (ap (take c.loop-segment.next) c.loop-segment.invariant.parents ∙ take-begun total c.loop-segment.next marks c.loop-segment.invariant.next)
          (ap₂ items_where_true set parents) ∙ sym more);
    }

pub returns-clause-parents : goal.returns-clause-parents
returns-clause-parents c =
    let segments = c.args.segments.now in
    let all = ap (λ l. live_marks (map arc_value l)) (take_all c.loop-segment.segment-index segments (omega arith)) in
    let total = length (live_marks (map arc_value segments)) in
    c.loop-segment.invariant.parents ∙ ap (begun total) all ∙ begun-whole total (live_marks (map arc_value segments)) (let same : total ≡ total = omega arith in same)
