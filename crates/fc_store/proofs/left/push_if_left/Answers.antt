use Rattle.std.proofs.Common.{◌+◌, ◌≤◌, ◌∷◌, [], length, ap, subst, length-append, arith}
use Rattle.fc_spec.specs.documents.Totals.{documents_of}
use Rattle.fc_docs.specs.View.{block_view, op_view}
use Rattle.fc_store.specs.Named.{op_size}
use Rattle.fc_store.proofs.left.push_if_left.Goals as goal

pub overflow_cast-parent : goal.overflow_cast-parent
overflow_cast-parent c =
    let b = block_view c.in-Add.block in
    let fits : c.args.at + length (documents_of b) ≤ length c.args.left.now = subst (λ o. c.args.at + op_size o ≤ length c.args.left.now) (ap op_view c.in-Add.is) c.requires.fits in
    omega (arith, fits, length-append b.children (b.parent ∷ []), c.len.ensures, c.len-len.ensures)

pub overflow_add-parent : goal.overflow_add-parent
overflow_add-parent c =
    let b = block_view c.in-Add.block in
    let fits : c.args.at + length (documents_of b) ≤ length c.args.left.now = subst (λ o. c.args.at + op_size o ≤ length c.args.left.now) (ap op_view c.in-Add.is) c.requires.fits in
    omega (arith, fits, length-append b.children (b.parent ∷ []), c.len.ensures, c.len-len.ensures)

pub overflow_add-result : goal.overflow_add-result
overflow_add-result c =
    let b = block_view c.in-Add.block in
    let fits : c.args.at + length (documents_of b) ≤ length c.args.left.now = subst (λ o. c.args.at + op_size o ≤ length c.args.left.now) (ap op_view c.in-Add.is) c.requires.fits in
    omega (arith, fits, length-append b.children (b.parent ∷ []), c.len.ensures, c.len-len.ensures)
