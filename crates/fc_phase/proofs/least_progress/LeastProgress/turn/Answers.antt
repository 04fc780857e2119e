use Rattle.std.proofs.Common.{ap, arith, map, sym}
use Rattle.std.specs.Arc.{arc_value}
use Rattle.fc_phase.proofs.LeastTurns.{done_within, turned_on, turned_whole}
use Rattle.fc_phase.proofs.least_progress.LeastProgress.turn.Goals as goal

pub overflow_add-self : goal.overflow_add-self
overflow_add-self g c =
    let p = c.self.inside in
    let within = done_within p c.args.self.now c.self.view_is (map arc_value c.deref.result.now) c.deref-2.result.now c.in-Some.building c.in_ok-gone.gone c.self.invariant (sym c.in-Some.ensures.value) (ap (map arc_value) c.deref.ensures.value) c.deref-2.ensures.value
    c.in_ok-gone.ensures.gone c.least_unit.new.bases c.least_unit.ensures.bases in
    omega (arith, within, c.self.invariant.fit)

pub invariant_of-self-in-On : goal.invariant_of-self-in-On
invariant_of-self-in-On g c =
    let p = c.self.inside in
    (turned_on p c.args.self.now c.self.view_is (map arc_value c.deref.result.now) c.deref-2.result.now c.in-Some.building c.in_ok-gone.gone c.self.invariant (sym c.in-Some.ensures.value) (ap (map arc_value) c.deref.ensures.value) c.deref-2.ensures.value
    c.in_ok-gone.ensures.gone c.least_unit.new.bases c.least_unit.ensures.bases c.in-On.building c.in-On.is).0

pub returns-in-On : goal.returns-in-On
returns-in-On g c =
    let p = c.self.inside in
    (turned_on p c.args.self.now c.self.view_is (map arc_value c.deref.result.now) c.deref-2.result.now c.in-Some.building c.in_ok-gone.gone c.self.invariant (sym c.in-Some.ensures.value) (ap (map arc_value) c.deref.ensures.value) c.deref-2.ensures.value
    c.in_ok-gone.ensures.gone c.least_unit.new.bases c.least_unit.ensures.bases c.in-On.building c.in-On.is).1

pub invariant_of-self-in-Whole : goal.invariant_of-self-in-Whole
invariant_of-self-in-Whole g c =
    let p = c.self.inside in
    (turned_whole p c.args.self.now c.self.view_is (map arc_value c.deref.result.now) c.deref-2.result.now c.in-Some.building c.in_ok-gone.gone c.self.invariant (sym c.in-Some.ensures.value) (ap (map arc_value) c.deref.ensures.value) c.deref-2.ensures.value
    c.in_ok-gone.ensures.gone c.least_unit.new.bases c.least_unit.ensures.bases c.in-Whole.message c.take.new.self c.in-Whole.is c.take.ensures.after).0

pub returns-in-Whole : goal.returns-in-Whole
returns-in-Whole g c =
    let p = c.self.inside in
    (turned_whole p c.args.self.now c.self.view_is (map arc_value c.deref.result.now) c.deref-2.result.now c.in-Some.building c.in_ok-gone.gone c.self.invariant (sym c.in-Some.ensures.value) (ap (map arc_value) c.deref.ensures.value) c.deref-2.ensures.value
    c.in_ok-gone.ensures.gone c.least_unit.new.bases c.least_unit.ensures.bases c.in-Whole.message c.take.new.self c.in-Whole.is c.take.ensures.after).1
