use Rattle.std.proofs.Common.{◌∙◌, ap, sym}
use Rattle.fc_spec.specs.replies.Restored.{restored_facets, with_first}
use Rattle.fc_reply.specs.ReplyView.{facets_view}
use Rattle.fc_replaced.proofs.RestoredNodes.{number_absent, number_printed}
use Rattle.fc_replaced.proofs.restoring.next_number.Goals as goal

pub returns-then-is_number_first : goal.returns-then-is_number_first
returns-then-is_number_first c = λ rest s vss empty.
    let F = facets_view c.args.left.now.items in
    c.next_facet.ensures.facet (restored_facets rest vss empty (facets_view c.next_facet.new.left.items))
    ∙ ap (λ G. with_first F (restored_facets rest vss empty G)) c.next_facet.ensures.left
    ∙ sym (number_printed rest vss empty F c.args.name.now s (sym c.is_number_first.ensures ∙ c.if-is_number_first.true))

pub returns-else-is_number_first : goal.returns-else-is_number_first
returns-else-is_number_first c = λ rest s vss empty.
    sym (number_absent rest vss empty (facets_view c.args.left.now.items) c.args.name.now s (sym c.is_number_first.ensures ∙ c.if-is_number_first.false))
