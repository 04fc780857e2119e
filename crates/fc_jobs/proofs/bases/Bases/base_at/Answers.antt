use Rattle.std.proofs.Common.{length, sym, ap, subst, ◌∙◌}
use Rattle.fc_spec.specs.documents.Totals.{document_total}
use Rattle.fc_request.specs.RequestView.{request_view}
use Rattle.fc_jobs.specs.BasesKept.{Holds, kept_base}
use Rattle.fc_jobs.specs.FilterLists.{queries_in}
use Rattle.fc_jobs.proofs.bases.Bases.base_at.Goals as goal

pub returns-in-Some-clause-docs : goal.returns-in-Some-clause-docs
returns-in-Some-clause-docs c =
    let kept = c.requires.kept in
    let r = request_view c.args.request.now in
    subst (Holds c.args.self.now c.in-Some.number) (λ i. kept_base r (c.deref.ensures.value i) (queries_in (c.deref-2.ensures.value i)) (kept.1 i)) (c.in-Some.ensures.docs r kept.0 kept.2)

pub returns-in-Some-clause-count : goal.returns-in-Some-clause-count
returns-in-Some-clause-count c =
    let kept = c.requires.kept in
    let r = request_view c.args.request.now in
    sym (sym (c.in-Some.ensures.count r kept.0 kept.2) ∙ (λ i. length (kept_base r (c.deref.ensures.value i) (queries_in (c.deref-2.ensures.value i)) (kept.1 i))))
    ∙ ap (λ p. document_total p.blocks) kept.1
