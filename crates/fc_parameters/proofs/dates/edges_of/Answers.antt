use Rattle.std.proofs.Common.{[], ◌∷◌, ◌++◌, Ok, ap, sym, subst, ◌∙◌}
use Rattle.fc_base.specs.Answers.{Answers}
use Rattle.fc_dates.specs.GapView.{gap_view}
use Rattle.fc_facet.specs.FaultView.{fault_view}
use Rattle.fc_parameters.proofs.DateEdges.{walked, alone}
use Rattle.fc_parameters.proofs.dates.edges_of.Goals as goal

pub returns-then-is_before : goal.returns-then-is_before
returns-then-is_before c =
    let early = sym c.is_before.ensures ∙ c.if-is_before.true in
    subst (λ d. Answers (λ edges. edges.items) fault_view c.edges_from.result d) (sym (walked (gap_view c.args.gap.now) c.args.start.now.bytes c.args.end.now.bytes c.args.hardend early)) c.edges_from.ensures

pub returns : goal.returns
returns c =
    let late = sym c.is_before.ensures ∙ c.if-is_before.false in
    let pushed = c.in_ok-push.ensures.items ∙ ap (λ es. es ++ c.in_ok-new.field-0 ∷ []) c.new-edges.ensures.items ∙ ap (λ t. t ∷ []) (c.in_ok-new.ensures ∙ c.text.ensures.bytes) in
    alone (gap_view c.args.gap.now) c.args.start.now.bytes c.args.end.now.bytes c.args.hardend late ∙ ap Ok (sym pushed)
