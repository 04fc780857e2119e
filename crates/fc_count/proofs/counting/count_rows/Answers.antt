use Rattle.std.proofs.Common.{◌≡◌, ◌<◌, ◌∙◌, [], ◌∷◌, map, sym, ap, subst, append_assoc, IsTrue}
use Rattle.fc_base.specs.StatisticView.{stat_view}
use Rattle.fc_spec.specs.messages.MessageShape.{values_fit}
use Rattle.fc_spec.specs.requests.Statistics.{Stats, stats_over}
use Rattle.fc_partial.specs.Adding.{AddUp}
use Rattle.fc_partial.specs.Celled.{of_one}
use Rattle.fc_partial.specs.View.{stat_value_view}
use Rattle.fc_partial.proofs.NeutralCells.{shape_over}
use Rattle.fc_kind.specs.PlaceAt.{place_at}
use Rattle.fc_kind.proofs.PickedPlaces.{next_below, so_far_fit}
use Rattle.fc_count.specs.Counted.{held_places}
use Rattle.fc_count.proofs.CountedPlaces.{held_add_up, more_counted}
use Rattle.fc_count.proofs.counting.count_rows.Goals as goal

pub document_values-requires-clause-there : goal.document_values-requires-clause-there
document_values-requires-clause-there g c =
    next_below c.args.segment.now.blocks c.args.docs.now c.requires.length c.loop-at.yielded c.in-Some.at c.next.new.self
    (rw c.in-Some.ensures.steps at c.loop-at.invariant.left)

pub count-requires-clause-there : goal.count-requires-clause-there
count-requires-clause-there g c =
    subst (λ n. c.in-Some.at < n) (sym c.requires.positions)
    (next_below c.args.segment.now.blocks c.args.docs.now c.requires.length c.loop-at.yielded c.in-Some.at c.next.new.self
    (rw c.in-Some.ensures.steps at c.loop-at.invariant.left))

pub count-requires-clause-shaped : goal.count-requires-clause-shaped
count-requires-clause-shaped g c =
    let ss = map stat_view c.args.stats.now in
    let one = place_at c.args.segment.now.blocks c.in-Some.at ∷ [] in
    let is : map stat_value_view c.deref.result.now ≡ (stats_over ss one).values = ap (map stat_value_view) c.deref.ensures.value ∙ c.in_ok-document_values.ensures in
    subst (λ l. IsTrue (values_fit l (map stat_value_view c.deref.result.now))) (sym c.loop-at.invariant.counted.stats)
    (subst (λ vs. IsTrue (values_fit ss vs)) (sym is) (shape_over ss one))

pub count-requires-clause-fits : goal.count-requires-clause-fits
count-requires-clause-fits g c i here h =
    let ss = map stat_view c.args.stats.now in
    let blocks = c.args.segment.now.blocks in
    let one = place_at blocks c.in-Some.at ∷ [] in
    let is : map stat_value_view c.deref.result.now ≡ (stats_over ss one).values = ap (map stat_value_view) c.deref.ensures.value ∙ c.in_ok-document_values.ensures in
    let holds = g.N.Numbering.holds c.args.numbering.now in
    let fit = so_far_fit blocks c.args.docs.now c.requires.length c.loop-at.yielded c.in-Some.at c.next.new.self (rw c.in-Some.ensures.steps at c.loop-at.invariant.left) c.requires.limits in
    subst (λ (a : Stats). AddUp a (of_one (map stat_value_view c.deref.result.now))) (sym (c.loop-at.invariant.counted.each i here))
    (subst (λ vs. AddUp (stats_over ss (held_places blocks holds c.loop-at.yielded i)) (of_one vs)) (sym is) (held_add_up blocks holds c.loop-at.yielded c.in-Some.at i ss fit h))

pub loop-at-preserved : goal.loop-at-preserved
loop-at-preserved g c =
    let ss = map stat_view c.args.stats.now in
    let blocks = c.args.segment.now.blocks in
    let one = place_at blocks c.in-Some.at ∷ [] in
    let is : map stat_value_view c.deref.result.now ≡ (stats_over ss one).values = ap (map stat_value_view) c.deref.ensures.value ∙ c.in_ok-document_values.ensures in
    record {
      counted = more_counted blocks (g.N.Numbering.holds c.args.numbering.now) (g.N.Numbering.bound c.args.numbering.now) ss c.loop-at.yielded c.in-Some.at _ c.loop-at.cells c.count.new.cells c.loop-at.invariant.counted c.count.ensures is;
      left = append_assoc c.loop-at.yielded (c.in-Some.at ∷ []) c.next.new.self ∙ (rw c.in-Some.ensures.steps at c.loop-at.invariant.left);
    }
