use Rattle.std.proofs.Common.{get_or, map, subst, arith}
use Rattle.std.specs.Arc.{arc_value}
use Rattle.std.proofs.lemmas.List.{length-map}
use Rattle.fc_store.specs.Generated.{Generated}
use Rattle.fc_search.specs.Schemas.{HasOwnBlocks}
use Rattle.fc_search.proofs.Replaced.{below_more, own_at}
use Rattle.fc_search.proofs.schemas.all_own_blocks.Goals as goal

pub loop-number-init : goal.loop-number-init
loop-number-init c = λ k below. absurd (omega (arith, below))

pub loop-number-preserved : goal.loop-number-preserved
loop-number-preserved c =
    let gs = c.args.generations.now in
    below_more (λ k. (d : Generated) → HasOwnBlocks (get_or (map arc_value gs) k d)) c.loop-number.number c.loop-number.invariant
    (λ d. own_at gs c.loop-number.number c.index-generations-number.result d c.loop-number-test.true c.index-generations-number.is (subst HasOwnBlocks c.deref.ensures c.own_blocks.ensures))

pub returns : goal.returns
returns c = λ k d below. c.loop-number.invariant k (let long = length-map c.args.generations.now arc_value in omega (arith, long, below, c.loop-number-test.false)) d
