use Rattle.std.proofs.Common.{◌∙◌, ◌∷◌, ◌<◌, [], subst, append_assoc}
use Rattle.fc_range.proofs.Selected.{position_below}
use Rattle.fc_date_range.proofs.selecting.have_fewer.Goals as goal

pub ordinals_of-requires : goal.ordinals_of-requires
ordinals_of-requires c =
    subst (λ n. c.in-Some.at < n) c.requires
    (position_below c.args.docs.now c.loop-at.yielded c.in-Some.at c.next.new.self (rw c.in-Some.ensures.steps at c.loop-at.invariant.left))

pub loop-at-preserved : goal.loop-at-preserved
loop-at-preserved c = record {
  left = append_assoc c.loop-at.yielded (c.in-Some.at ∷ []) c.next.new.self ∙ (rw c.in-Some.ensures.steps at c.loop-at.invariant.left);
}
