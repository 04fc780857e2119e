use Rattle.std.proofs.Common.{nat_lt, sym, ap, ◌∙◌}
use Rattle.fc_column.specs.Terms.{terms_below}
use Rattle.fc_spec.specs.queries.Matching.{is_below}
use Rattle.fc_spec.specs.queries.Query.{including, excluding}
use Rattle.fc_spec.specs.documents.Val.{text}
use Rattle.fc_query.specs.QueryView.{bound_view}
use Rattle.fc_domain.proofs.TextRows.{to_including, to_excluding, to_end}
use Rattle.fc_domain.proofs.texts.first_beyond.Goals as goal

pub returns-in-Unbounded : goal.returns-in-Unbounded
returns-in-Unbounded c = λ t among.
    let column = c.args.column.now in
    ap (nat_lt (terms_below column t)) c.terms.ensures ∙ to_end column t among ∙ ap (λ b. is_below (bound_view b) (text t)) (sym c.in-Unbounded.is)

pub returns-in-Including : goal.returns-in-Including
returns-in-Including c = λ t among.
    let column = c.args.column.now in
    let u = c.text_of.result.now in
    ap (nat_lt (terms_below column t)) c.first_past.ensures ∙ to_including column t among u
    ∙ ap (λ v. is_below (including v) (text t)) (sym c.text_of.ensures)
    ∙ ap (λ b. is_below (bound_view b) (text t)) (sym c.in-Including.is)

pub returns-in-Excluding : goal.returns-in-Excluding
returns-in-Excluding c = λ t among.
    let column = c.args.column.now in
    let u = c.text_of-in-Excluding.result.now in
    ap (nat_lt (terms_below column t)) c.first_from.ensures ∙ to_excluding column t among u
    ∙ ap (λ v. is_below (excluding v) (text t)) (sym c.text_of-in-Excluding.ensures)
    ∙ ap (λ b. is_below (bound_view b) (text t)) (sym c.in-Excluding.is)
