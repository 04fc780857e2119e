use Rattle.std.proofs.Common.{◌∙◌, ap, sym, subst}
use Rattle.std.specs.List.Sorted.{IsStrictlySortedBy}
use Rattle.std.proofs.lemmas.Bool.{ltb-true}
use Rattle.fc_spec.specs.documents.Val.{val_cmp}
use Rattle.fc_told.specs.Parts.{forks_view}
use Rattle.fc_told.specs.Trees.{values_listed, branches_at}
use Rattle.fc_told.proofs.Levels.{offered_is, node_there, no_node}
use Rattle.fc_told.proofs.Listed.{nothing_listed}
use Rattle.fc_told.proofs.tree.ToldBucket.values_at.Goals as goal

pub returns-in_ok-by_shard-in-Some-clause-listed : goal.returns-in_ok-by_shard-in-Some-clause-listed
returns-in_ok-by_shard-in-Some-clause-listed c = λ i.
    let n = c.args.node in
    let there = node_there c.deref.result.now n c.in-Some.told.now (ltb-true _ _ (sym c.in-Some.ensures.lookup.0)) c.in-Some.ensures.lookup.1 in
    c.in_ok-by_shard-in-Some.ensures.listed i
    ∙ sym (offered_is c.args.self.now n i ∙ ap (values_listed i) (ap (λ ns. branches_at n (forks_view ns)) (sym c.deref.ensures.value) ∙ there))

pub returns-in_ok-by_shard-in-Some-clause-ascend : goal.returns-in_ok-by_shard-in-Some-clause-ascend
returns-in_ok-by_shard-in-Some-clause-ascend c = λ i.
    let n = c.args.node in
    let there = node_there c.deref.result.now n c.in-Some.told.now (ltb-true _ _ (sym c.in-Some.ensures.lookup.0)) c.in-Some.ensures.lookup.1 in
    subst (IsStrictlySortedBy val_cmp) (sym (offered_is c.args.self.now n i ∙ ap (values_listed i) (ap (λ ns. branches_at n (forks_view ns)) (sym c.deref.ensures.value) ∙ there)))
    (c.in_ok-by_shard-in-Some.ensures.ascend i)

pub returns-in-None-clause-listed : goal.returns-in-None-clause-listed
returns-in-None-clause-listed c = λ i.
    let n = c.args.node in
    nothing_listed c.new.result c.new.ensures.empty i
    ∙ sym (offered_is c.args.self.now n i ∙ ap (values_listed i) (ap (λ ns. branches_at n (forks_view ns)) (sym c.deref.ensures.value) ∙ no_node c.deref.result.now n c.in-None.ensures.lookup.3))

pub returns-in-None-clause-ascend : goal.returns-in-None-clause-ascend
unfolding IsStrictlySortedBy
returns-in-None-clause-ascend c = λ i.
    let n = c.args.node in
    subst (IsStrictlySortedBy val_cmp) (sym (offered_is c.args.self.now n i ∙ ap (values_listed i) (ap (λ ns. branches_at n (forks_view ns)) (sym c.deref.ensures.value) ∙ no_node c.deref.result.now n c.in-None.ensures.lookup.3))) tt
