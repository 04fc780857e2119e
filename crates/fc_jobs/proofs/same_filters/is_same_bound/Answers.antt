use Rattle.std.proofs.Common.{ap, ◌∙◌, sym}
use Rattle.fc_query.specs.QueryView.{bound_view}
use Rattle.fc_spec.specs.queries.Query as definition
use Rattle.fc_base.specs.View.{val_view}
use Rattle.fc_spec.proofs.documents.ValOrder.{same_val_exact}
use Rattle.fc_jobs.proofs.same_filters.is_same_bound.Goals as goal

pub returns-in-Including-Including : goal.returns-in-Including-Including
returns-in-Including-Including c same =
    ap bound_view c.in-Including-Including.is-0 ∙ ap definition.including (same_val_exact (val_view c.in-Including-Including.one) (val_view c.in-Including-Including.other) (sym c.eq.ensures ∙ same))
    ∙ sym (ap bound_view c.in-Including-Including.is-1)

pub returns-in-Excluding-Excluding : goal.returns-in-Excluding-Excluding
returns-in-Excluding-Excluding c same =
    ap bound_view c.in-Excluding-Excluding.is-0 ∙ ap definition.excluding (same_val_exact (val_view c.in-Excluding-Excluding.one) (val_view c.in-Excluding-Excluding.other) (sym c.eq-in-Excluding-Excluding.ensures ∙ same))
    ∙ sym (ap bound_view c.in-Excluding-Excluding.is-1)
