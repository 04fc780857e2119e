use Rattle.std.proofs.Common.{map, refl}
use Rattle.std.specs.Arc.{arc_value}
use Rattle.fc_phase.proofs.Sharing.{shared_can, shared_least_begun}
use Rattle.fc_phase.proofs.future.PhaseFuture.least.Goals as goal

pub begin-requires-clause-can : goal.begin-requires-clause-can
begin-requires-clause-can g c =
    let shared = c.in_ok-segments.ensures in
    shared_can (arc_value c.args.generation) c.deref.result.now (map arc_value c.in_ok-segments.segments.items) c.args.request.now c.deref.ensures shared.blocks shared.kinds shared.whole shared.limits c.requires.limits c.requires.root c.requires.valid

pub returns-clause-begun : goal.returns-clause-begun
returns-clause-begun g c =
    shared_least_begun (arc_value c.args.generation) c.deref.result.now (map arc_value c.in_ok-segments.segments.items) c.args.request.now c.args.least.now c.in_ok-own.own.items c.in_ok-progress.progress _ c.deref.ensures c.in_ok-segments.ensures.blocks c.in_ok-progress.ensures
    refl refl (c.in_ok-own.ensures.items_if_clones_equal (λ x y e. e)) refl refl refl
