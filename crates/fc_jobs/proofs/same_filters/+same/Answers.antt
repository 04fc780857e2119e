use Rattle.std.proofs.Common.{◌≡◌, ap, ap₂, sym, ◌∙◌, rules}
use Rattle.fc_base.specs.View.{val_view}
use Rattle.fc_query.specs.QueryView.{query_view}
use Rattle.fc_spec.proofs.documents.ValOrder.{same_val_exact}
use Rattle.fc_spec.specs.queries.Query as definition
use Rattle.fc_domain.proofs.QueryViews.{view_of_is}
use Rattle.fc_jobs.proofs.same_filters.+same.Goals as goal

pub is_same-returns-then-eq : goal.is_same-returns-then-eq
is_same-returns-then-eq t c same =
    let field : c.in-Is-Is.one.0 ≡ c.in-Is-Is.other.0 = search rules in
    let value = same_val_exact (val_view c.in-Is-Is.value) (val_view c.in-Is-Is.other_value) (sym c.eq-then-eq.ensures ∙ same) in
    ap query_view c.in-Is-Is.is-0 ∙ view_of_is _ _ ∙ ap₂ definition.is field value ∙ sym (view_of_is _ _) ∙ sym (ap query_view c.in-Is-Is.is-1)
