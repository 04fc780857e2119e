use Rattle.std.proofs.Common.{◌+◌, ◌++◌, ◌∷◌, [], ◌∙◌, length, take, ap, sym, refl, arith}
use Rattle.std.proofs.lemmas.List.{append-nil}
use Rattle.fc_spec.specs.documents.Operations.{blocks_added}
use Rattle.fc_spec.specs.documents.Totals.{document_total}
use Rattle.fc_spec.proofs.documents.BlockTotals.{document_total-cons}
use Rattle.fc_docs.specs.View.{block_view, op_view}
use Rattle.fc_segment.specs.Begun.{begun}
use Rattle.fc_segment.specs.Parents.{marks_of, parents_in}
use Rattle.fc_segment.proofs.Begun.{block-begun}
use Rattle.fc_segment.proofs.parents.mark.Goals as goal

pub returns-in-Add-clause-parents : goal.returns-in-Add-clause-parents
returns-in-Add-clause-parents c =
    let all = c.args.parents.now in
    let from = c.args.from in
    let block = c.in-Add.block in
    let size = ap (λ op. document_total (blocks_added (op_view op ∷ []))) c.in-Add.is ∙ document_total-cons (block_view block) [] in
    c.add.ensures
    ∙ block-begun (length all) from (length block.children.items) (from + c.len.result) all c.requires.begun refl (omega (arith, c.len.ensures)) (omega (arith, size, c.len.ensures, c.requires.room))
    ∙ ap (λ l. begun (length all) (take from all ++ l)) (sym (append-nil (marks_of (block_view block))) ∙ ap (λ op. parents_in (blocks_added (op_view op ∷ []))) (sym c.in-Add.is))
