use Rattle.std.proofs.Common.{false, replicate, ◌∙◌, ap}
use Rattle.fc_partial.specs.View.{key_view}
use Rattle.fc_request.specs.FacetNode.{kind_of, kind_view}
use Rattle.fc_jobs.proofs.EmptySets.{none_found, none_selected}
use Rattle.fc_jobs.proofs.choosing.selected.Goals as goal

pub returns-then-is_none : goal.returns-then-is_none
returns-then-is_none g c =
    let none = none_found c.next_from.result c.is_none.result c.args.docs.now c.next_from.ensures.found c.is_none.ensures c.if-is_none.true in
    c.in_ok-into.ensures ∙ ap (λ n. replicate n false) c.len.ensures
    ∙ none_selected (kind_view (kind_of c.args.node.now)) (key_view c.args.key.now) c.args.segment.now.blocks c.args.docs.now c.requires.length none
