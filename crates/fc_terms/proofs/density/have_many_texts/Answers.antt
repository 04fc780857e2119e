use Rattle.std.proofs.Common.{◌∙◌, ◌∷◌, [], arith, append_assoc}
use Rattle.fc_terms.proofs.GatheredPlaces.{next_within}
use Rattle.fc_terms.proofs.density.have_many_texts.Goals as goal

pub ordinals_of-own-requires : goal.ordinals_of-own-requires
ordinals_of-own-requires c =
    let here = next_within c.args.docs.now c.loop-at.yielded c.in-Some.at c.next.new.self (rw c.in-Some.ensures.steps at c.loop-at.invariant.left) in
    omega (arith, here, c.requires)

pub loop-at-preserved : goal.loop-at-preserved
loop-at-preserved c = record {
  left = append_assoc c.loop-at.yielded (c.in-Some.at ∷ []) c.next.new.self ∙ (rw c.in-Some.ensures.steps at c.loop-at.invariant.left);
}
