use Rattle.std.proofs.Common.{◌≡◌, true, false, replicate, ap, ◌∙◌, rules}
use Rattle.fc_spec.specs.words.Lists.{is_empty}
use Rattle.fc_request.specs.FacetNode.{facet_view}
use Rattle.fc_request.specs.RequestView.{request_view}
use Rattle.fc_answers.specs.SetAnswer.{base_in}
use Rattle.fc_jobs.specs.Pieces.{piece_of}
use Rattle.fc_jobs.specs.Scopes.{scope_over}
use Rattle.fc_jobs.proofs.EmptySets.{none_changed, none_found}
use Rattle.fc_jobs.proofs.facets.changed.Goals as goal

pub returns-then-is_none-clause-set : goal.returns-then-is_none-clause-set
returns-then-is_none-clause-set g c =
    let change = (facet_view c.args.node.now).change in
    let blocks = c.args.segment.now.blocks in
    let untagged : is_empty change.exclude ≡ true = search rules in
    let none = none_found c.next_from.result c.is_none.result c.args.docs.now c.next_from.ensures.found c.is_none.ensures c.if-is_none.true in
    c.in_ok-into.ensures ∙ ap (λ n. replicate n false) c.len.ensures
    ∙ none_changed change blocks (base_in (scope_over (request_view c.args.request.now) c.args.enclosing.now) change.exclude (piece_of c.args.segment.now)) c.args.docs.now untagged c.requires.docs none
