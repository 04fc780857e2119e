use Rattle.std.proofs.Common.{◌∙◌, length, map, replicate, false, ap, arith}
use Rattle.std.proofs.lemmas.List.{length-replicate}
use Rattle.fc_spec.specs.documents.Operations.{blocks_added}
use Rattle.fc_spec.specs.documents.Totals.{document_total}
use Rattle.fc_docs.specs.View.{op_view}
use Rattle.fc_segment.specs.Begun.{begun}
use Rattle.fc_segment.proofs.AddedBatches.{none_begun, whole_begun}
use Rattle.fc_segment.proofs.parents.parents_of.Goals as goal

pub mark_each-requires : goal.mark_each-requires
mark_each-requires c =
    let total = document_total (blocks_added (map op_view c.args.ops.now)) in
    let empty = c.in_ok-parents.ensures ∙ ap (λ n. replicate n false) c.document_count.ensures in
    record {
      room = omega (arith, ap length empty, length-replicate total false);
      begun = none_begun total c.in_ok-parents.parents empty;
    }

pub returns : goal.returns
returns c =
    let total = document_total (blocks_added (map op_view c.args.ops.now)) in
    let empty = c.in_ok-parents.ensures ∙ ap (λ n. replicate n false) c.document_count.ensures in
    c.mark_each.ensures.parents ∙ whole_begun (blocks_added (map op_view c.args.ops.now)) (length c.in_ok-parents.parents) (ap length empty ∙ length-replicate total false)
