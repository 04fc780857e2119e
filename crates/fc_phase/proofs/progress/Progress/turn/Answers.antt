use Rattle.std.proofs.Common.{◌-◌, ◌+◌, ◌*◌, ap, map, sym, ◌∙◌}
use Rattle.std.specs.Arc.{arc_value}
use Rattle.fc_levels.specs.Jobs.{units_each}
use Rattle.fc_phase.proofs.Turns.{stopped, turned_on, turned_whole}
use Rattle.fc_phase.proofs.progress.Progress.turn.Goals as goal

pub invariant_of-self-in-On : goal.invariant_of-self-in-On
invariant_of-self-in-On g c =
    let p = c.self.inside in
    let same = ap (map arc_value) c.deref.ensures.value in
    (turned_on p c.args.self.now c.self.view_is (map arc_value c.deref.result.now) c.in-Some.building c.in_ok-gone.gone c.self.invariant (sym c.in-Some.ensures.value) same c.in_ok-gone.ensures.gone c.unit_done.new.bases c.unit_done.ensures.bases
    c.in-On.building c.in-On.opened c.in-Some-left_then.left c.in-Some-checked_add.done c.in-On.is
    (c.in-Some-left_then.ensures.1 ∙ ap (λ n. p.left - 1 + c.in-On.opened * units_each n) (c.len.ensures ∙ p.segments.ok.0))
    c.in-Some-checked_add.ensures.1).0

pub returns-in-Some-checked_add : goal.returns-in-Some-checked_add
returns-in-Some-checked_add g c =
    let p = c.self.inside in
    let same = ap (map arc_value) c.deref.ensures.value in
    (turned_on p c.args.self.now c.self.view_is (map arc_value c.deref.result.now) c.in-Some.building c.in_ok-gone.gone c.self.invariant (sym c.in-Some.ensures.value) same c.in_ok-gone.ensures.gone c.unit_done.new.bases c.unit_done.ensures.bases
    c.in-On.building c.in-On.opened c.in-Some-left_then.left c.in-Some-checked_add.done c.in-On.is
    (c.in-Some-left_then.ensures.1 ∙ ap (λ n. p.left - 1 + c.in-On.opened * units_each n) (c.len.ensures ∙ p.segments.ok.0))
    c.in-Some-checked_add.ensures.1).1

pub invariant_of-self-in-Whole : goal.invariant_of-self-in-Whole
invariant_of-self-in-Whole g c =
    let p = c.self.inside in
    let same = ap (map arc_value) c.deref.ensures.value in
    (turned_whole p c.args.self.now c.self.view_is (map arc_value c.deref.result.now) c.in-Some.building c.in_ok-gone.gone c.self.invariant (sym c.in-Some.ensures.value) same c.in_ok-gone.ensures.gone c.unit_done.new.bases c.unit_done.ensures.bases
    c.in-Whole.message c.in-Some-checked_add-2.done c.take.new.self c.in-Whole.is c.in-Some-checked_add-2.ensures.1 c.take.ensures.after).0

pub returns-in-Some-checked_add-2 : goal.returns-in-Some-checked_add-2
returns-in-Some-checked_add-2 g c =
    let p = c.self.inside in
    let same = ap (map arc_value) c.deref.ensures.value in
    (turned_whole p c.args.self.now c.self.view_is (map arc_value c.deref.result.now) c.in-Some.building c.in_ok-gone.gone c.self.invariant (sym c.in-Some.ensures.value) same c.in_ok-gone.ensures.gone c.unit_done.new.bases c.unit_done.ensures.bases
    c.in-Whole.message c.in-Some-checked_add-2.done c.take.new.self c.in-Whole.is c.in-Some-checked_add-2.ensures.1 c.take.ensures.after).1

pub invariant_of-self-in_default-left_then : goal.invariant_of-self-in_default-left_then
invariant_of-self-in_default-left_then g c = stopped c.self.inside (map arc_value c.deref.result.now) c.unit_done.new.bases c.take.new.self c.self.invariant (ap (map arc_value) c.deref.ensures.value) c.unit_done.ensures.bases c.take.ensures.after

pub invariant_of-self-in_default-checked_add : goal.invariant_of-self-in_default-checked_add
invariant_of-self-in_default-checked_add g c = stopped c.self.inside (map arc_value c.deref.result.now) c.unit_done.new.bases c.take.new.self c.self.invariant (ap (map arc_value) c.deref.ensures.value) c.unit_done.ensures.bases c.take.ensures.after

pub invariant_of-self-in_default-checked_add-2 : goal.invariant_of-self-in_default-checked_add-2
invariant_of-self-in_default-checked_add-2 g c = stopped c.self.inside (map arc_value c.deref.result.now) c.unit_done.new.bases c.take.new.self c.self.invariant (ap (map arc_value) c.deref.ensures.value) c.unit_done.ensures.bases c.take.ensures.after
