use Rattle.std.proofs.Common.{◌∙◌, ap, sym}
use Rattle.std.proofs.lemmas.Bool.{ltb-true}
use Rattle.fc_partial.specs.View.{key_view}
use Rattle.fc_told.specs.Trees.{find_branch, branches_at}
use Rattle.fc_told.specs.TreeView.{tree_there}
use Rattle.fc_told.specs.Parts.{forks_view}
use Rattle.std.specs.Prelude.{option_map}
use Rattle.fc_told.specs.declared.tree.ToldNode.{out-ToldNode}
use Rattle.fc_told.proofs.Levels.{child_in, node_is, node_there, no_node, branch_found}
use Rattle.fc_told.proofs.tree.ToldBucket.child.Goals as goal

pub returns-in_err-get : goal.returns-in_err-get
returns-in_err-get c =
    let b = c.args.self.now in
    let k = key_view c.args.key.now in
    let none = ap (λ ns. branches_at c.args.node (forks_view ns)) (sym c.deref.ensures.value) ∙ no_node c.deref.result.now c.args.node c.in_err-get.ensures.lookup.3 in
    ap (λ o. tree_there (option_map (λ bucket. bucket.now) o)) c.from_residual.ensures ∙ sym (child_in b c.args.node k ∙ ap (find_branch k) none)

pub returns : goal.returns
returns c =
    let b = c.args.self.now in
    let k = c.args.key.now in
    let n = c.in_ok-get.field-0.now in
    let there = ap (λ ns. branches_at c.args.node (forks_view ns)) (sym c.deref.ensures.value)
    ∙ node_there c.deref.result.now c.args.node n (ltb-true _ _ (sym c.in_ok-get.ensures.lookup.0)) c.in_ok-get.ensures.lookup.1 in
    ap tree_there c.get-2.ensures.value ∙ sym (branch_found k (out-ToldNode n).by_key.entries)
    ∙ ap (find_branch (key_view k)) (sym (node_is n)) ∙ sym (child_in b c.args.node (key_view k) ∙ ap (find_branch (key_view k)) there)
