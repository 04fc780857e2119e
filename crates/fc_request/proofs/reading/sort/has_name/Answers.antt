use Rattle.std.proofs.Common.{nat_eq, ap, sym, ◌∙◌}
use Rattle.std.specs.Cmp.Lexicographic.{pointwise}
use Rattle.std.proofs.lemmas.Map.Text.{is_eq-slice_cmp}
use Rattle.fc_spec.specs.documents.Val.{same_text}
use Rattle.fc_request.specs.declared.node.Node.TheFolds.{fold_out-Node}
use Rattle.fc_request.specs.NodeView.{Part, node_step}
use Rattle.fc_request.proofs.reading.sort.has_name.Goals as goal

pub returns : goal.returns
returns c =
    c.eq.ensures ∙ ap (pointwise nat_eq c.args.name.now) c.bytes.ensures.value ∙ sym (is_eq-slice_cmp c.args.name.now _)
    ∙ ap (λ p. same_text c.args.name.now p.0) (sym (fold_out-Node Part node_step c.args.node.now))
