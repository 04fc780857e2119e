use Rattle.std.proofs.Common.{◌≡◌, [], ◌∷◌, ◌++◌, ◌∙◌, ap, drop, rules, subst, sym, take, arith}
use Rattle.std.specs.Arc.{arc_value}
use Rattle.std.proofs.lemmas.Grind.{common_steps}
use Rattle.fc_spec.specs.documents.Operations.{after_ops, blocks_added}
use Rattle.fc_spec.specs.scripts.WorldLimits.{IsWithinLimits}
use Rattle.fc_spec.specs.words.Lists.{joined}
use Rattle.fc_script.specs.PartsView.{batches_view}
use Rattle.fc_store.specs.Charters.{IsBatchOf}
use Rattle.fc_checks.proofs.ShardParts.{first_limits, first_part, left_of_parts, other_limits, other_part}
use Rattle.fc_checks.proofs.tests.scripts.generation_of.Goals as goal

pub after-requires-clause-batches : goal.after-requires-clause-batches
after-requires-clause-batches c =
    let s = arc_value c.args.schema.now in
    let first : c.split_off.new.self.items ≡ take c.min-count.result c.args.batches.items = c.in_ok-others.ensures.items in
    let schema : c.deref.result.now.schema ≡ s = first_of (search rules, grind (arith, common_steps)) in
    subst (λ z. IsBatchOf z (joined (batches_view c.split_off.new.self.items))) (sym schema)
    (subst (λ bs. IsBatchOf s (joined (batches_view bs))) (sym first) (first_part s c.min-count.result c.args.batches.items c.requires))

pub after-requires-clause-limits : goal.after-requires-clause-limits
after-requires-clause-limits c =
    let s = arc_value c.args.schema.now in
    let first : c.split_off.new.self.items ≡ take c.min-count.result c.args.batches.items = c.in_ok-others.ensures.items in
    let none : c.deref.result.now.blocks ≡ [] = first_of (search rules, grind (arith, common_steps)) in
    subst (λ blocks. IsWithinLimits ((blocks ++ blocks_added (joined (batches_view c.split_off.new.self.items))) ∷ [])) (sym none)
    (subst (λ bs. IsWithinLimits (([] ++ blocks_added (joined (batches_view bs))) ∷ [])) (sym first) (first_limits s c.min-count.result c.args.batches.items c.requires))

pub after-requires-2-clause-batches : goal.after-requires-2-clause-batches
after-requires-2-clause-batches c =
    let s = arc_value c.args.schema.now in
    let others : c.in_ok-others.others.items ≡ drop c.min-count.result c.args.batches.items = c.in_ok-others.ensures.tail in
    let schema : c.deref-2.result.now.schema ≡ s = first_of (search rules, grind (arith, common_steps)) in
    subst (λ z. IsBatchOf z (joined (batches_view c.in_ok-others.others.items))) (sym schema)
    (subst (λ bs. IsBatchOf s (joined (batches_view bs))) (sym others) (other_part s c.min-count.result c.args.batches.items c.requires))

pub after-requires-2-clause-limits : goal.after-requires-2-clause-limits
after-requires-2-clause-limits c =
    let s = arc_value c.args.schema.now in
    let n = c.min-count.result in
    let first : c.split_off.new.self.items ≡ take n c.args.batches.items = c.in_ok-others.ensures.items in
    let others : c.in_ok-others.others.items ≡ drop n c.args.batches.items = c.in_ok-others.ensures.tail in
    let middle : c.deref-2.result.now.blocks ≡ after_ops [] (joined (batches_view c.split_off.new.self.items)) = first_of (search rules, grind (arith, common_steps)) in
    subst (λ blocks. IsWithinLimits ((blocks ++ blocks_added (joined (batches_view c.in_ok-others.others.items))) ∷ [])) (sym (middle ∙ ap (λ bs. after_ops [] (joined (batches_view bs))) first))
    (subst (λ bs. IsWithinLimits ((after_ops [] (joined (batches_view (take n c.args.batches.items))) ++ blocks_added (joined (batches_view bs))) ∷ [])) (sym others)
    (other_limits s n c.args.batches.items c.requires))

pub returns-clause-blocks : goal.returns-clause-blocks
returns-clause-blocks c =
    let s = arc_value c.args.schema.now in
    let n = c.min-count.result in
    let first : c.split_off.new.self.items ≡ take n c.args.batches.items = c.in_ok-others.ensures.items in
    let others : c.in_ok-others.others.items ≡ drop n c.args.batches.items = c.in_ok-others.ensures.tail in
    let middle : c.deref-2.result.now.blocks ≡ after_ops [] (joined (batches_view c.split_off.new.self.items)) = first_of (search rules, grind (arith, common_steps)) in
    let last : (arc_value c.in_ok-last.last).blocks ≡ after_ops c.deref-2.result.now.blocks (joined (batches_view c.in_ok-others.others.items)) = first_of (search rules, grind (arith, common_steps)) in
    last
    ∙ ap (λ blocks. after_ops blocks (joined (batches_view c.in_ok-others.others.items))) (middle ∙ ap (λ bs. after_ops [] (joined (batches_view bs))) first)
    ∙ ap (λ bs. after_ops (after_ops [] (joined (batches_view (take n c.args.batches.items)))) (joined (batches_view bs))) others
    ∙ left_of_parts s n c.args.batches.items c.requires
