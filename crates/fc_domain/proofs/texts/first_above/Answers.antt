use Rattle.std.proofs.Common.{nat_le, sym, ap, ◌∙◌}
use Rattle.fc_column.specs.Terms.{terms_below}
use Rattle.fc_spec.specs.queries.Matching.{is_above}
use Rattle.fc_spec.specs.queries.Query.{including, excluding}
use Rattle.fc_spec.specs.documents.Val.{text}
use Rattle.fc_query.specs.QueryView.{bound_view}
use Rattle.fc_domain.proofs.TextRows.{from_including, from_excluding}
use Rattle.fc_domain.proofs.texts.first_above.Goals as goal

pub returns-in-Including : goal.returns-in-Including
returns-in-Including c = λ t among.
    let column = c.args.column.now in
    let u = c.text_of.result.now in
    ap (λ n. nat_le n (terms_below column t)) c.first_from.ensures ∙ from_including column t among u
    ∙ ap (λ v. is_above (including v) (text t)) (sym c.text_of.ensures)
    ∙ ap (λ b. is_above (bound_view b) (text t)) (sym c.in-Including.is)

pub returns-in-Excluding : goal.returns-in-Excluding
returns-in-Excluding c = λ t among.
    let column = c.args.column.now in
    let u = c.text_of-in-Excluding.result.now in
    ap (λ n. nat_le n (terms_below column t)) c.first_past.ensures ∙ from_excluding column t among u
    ∙ ap (λ v. is_above (excluding v) (text t)) (sym c.text_of-in-Excluding.ensures)
    ∙ ap (λ b. is_above (bound_view b) (text t)) (sym c.in-Excluding.is)
