use Rattle.std.proofs.Common.{◌≡◌, ◌∙◌, ap, sym, Some}
use Rattle.std.proofs.lemmas.Result.{err_from_is_err_and}
use Rattle.fc_spec.specs.queries.QueryRow.{tokens_of}
use Rattle.fc_spec.specs.queries.TreeReading.{tree_of}
use Rattle.fc_query.specs.TreeView.{group_view, row_of}
use Rattle.fc_query.proofs.Readings.{without_row, without_tree, with_tree, is_valid}
use Rattle.fc_query.proofs.text.parse.Goals as goal

pub returns-in_err-tokens-clause-answer : goal.returns-in_err-tokens-clause-answer
returns-in_err-tokens-clause-answer c =
    let p = err_from_is_err_and c.from_residual.result c.from_residual.ensures.1 in
    rw (p.1, p.2) (without_row c.args.schema.now c.args.text.now c.in_err-tokens.field-0.0 c.in_err-tokens.ensures)

pub returns-in_err-tree-clause-answer : goal.returns-in_err-tree-clause-answer
returns-in_err-tree-clause-answer c =
    let p = err_from_is_err_and c.from_residual-in_err-tree.result c.from_residual-in_err-tree.ensures.1 in
    let ts = row_of c.deref.result.now in
    let cut : tokens_of c.args.text.now ≡ Some ts = c.in_ok-tokens.ensures ∙ ap (λ xs. Some (row_of xs)) (sym c.deref.ensures.value) in
    rw (p.1, p.2) (without_tree c.args.schema.now c.args.text.now ts c.in_err-tree.field-0.0 cut c.in_err-tree.ensures)

pub returns-clause-answer : goal.returns-clause-answer
returns-clause-answer c =
    let ts = row_of c.deref.result.now in
    let cut : tokens_of c.args.text.now ≡ Some ts = c.in_ok-tokens.ensures ∙ ap (λ xs. Some (row_of xs)) (sym c.deref.ensures.value) in
    let tree : tree_of ts ≡ Some (group_view c.deref-2.result.now) = c.in_ok-tree.ensures ∙ ap (λ xs. Some (group_view xs)) (sym c.deref-2.ensures.value) in
    rw (with_tree c.args.schema.now c.args.text.now ts _ cut tree) c.tree_query.ensures

pub returns-clause-valid : goal.returns-clause-valid
returns-clause-valid c =
    let ts = row_of c.deref.result.now in
    let tree : tree_of ts ≡ Some (group_view c.deref-2.result.now) = c.in_ok-tree.ensures ∙ ap (λ xs. Some (group_view xs)) (sym c.deref-2.ensures.value) in
    is_valid c.args.schema.now ts _ c.tree_query.result tree c.tree_query.ensures
