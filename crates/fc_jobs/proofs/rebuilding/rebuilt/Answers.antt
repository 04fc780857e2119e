use Rattle.std.proofs.Common.{◌≡◌, ◌++◌, length, ap, ap₂, ◌∙◌}
use Rattle.fc_spec.specs.documents.Totals.{document_total}
use Rattle.fc_request.specs.RequestView.{request_view}
use Rattle.fc_jobs.specs.BasesKept.{kept_base}
use Rattle.fc_jobs.specs.Pieces.{piece_of}
use Rattle.fc_jobs.specs.Scopes.{filters_in, selected_inside, tags_in}
use Rattle.fc_jobs.proofs.KeptLengths.{inside_length}
use Rattle.fc_jobs.proofs.RebuiltScopes.{rebuilt_is}
use Rattle.fc_jobs.proofs.rebuilding.rebuilt.Goals as goal

pub inside_all-requires-clause-docs : goal.inside_all-requires-clause-docs
inside_all-requires-clause-docs g c = ap length (c.docs.ensures _ c.in_ok-number.ensures.docs) ∙ c.in_ok-number.ensures.count

pub returns-clause-set : goal.returns-clause-set
returns-clause-set g c =
    let r = request_view c.args.request.now in
    let p = piece_of c.args.segment.now in
    let xs = c.args.enclosing.now in
    let kept : c.docs.result.now ≡ kept_base r (tags_in xs ++ c.args.exclude.now) (filters_in xs) p =
    c.docs.ensures _ c.in_ok-number.ensures.docs ∙ ap₂ (λ ts fs. kept_base r ts fs p) c.in_ok-tags.ensures c.in_ok-filters.ensures.queries in
    c.in_ok-docs.ensures ∙ ap (selected_inside p.blocks xs) kept ∙ rebuilt_is p r xs c.args.exclude.now

pub returns-clause-length : goal.returns-clause-length
returns-clause-length g c =
    let blocks = c.args.segment.now.blocks in
    let long : length c.docs.result.now ≡ document_total blocks = ap length (c.docs.ensures _ c.in_ok-number.ensures.docs) ∙ c.in_ok-number.ensures.count in
    ap length c.in_ok-docs.ensures ∙ inside_length blocks c.args.enclosing.now c.docs.result.now long
