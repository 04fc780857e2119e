use Rattle.std.proofs.Common.{◌∙◌, option_map, sym}
use Rattle.fc_reply.specs.ReplyView.{facet_view, facets_view}
use Rattle.fc_replaced.specs.TopsView.{vals_view}
use Rattle.fc_replaced.proofs.RestoredNodes.{hidden_step, shown_step}
use Rattle.fc_replaced.proofs.restoring.facet.Goals as goal

pub returns-then-is_hidden : goal.returns-then-is_hidden
returns-then-is_hidden c = λ rest vss first.
    hidden_step c.args.node.now rest vss c.args.is_empty (facets_view c.args.left.now.items) c.requires (sym c.is_hidden.ensures ∙ c.if-is_hidden.true)

pub returns : goal.returns
returns c = λ rest vss first.
    shown_step c.args.node.now rest vss c.args.is_empty (facets_view c.args.left.now.items) (vals_view c.args.vals.now) (facets_view c.shown_facet.new.left.items) (option_map facet_view c.in_ok-shown.shown)
    c.requires (sym c.is_hidden.ensures ∙ c.if-is_hidden.false) first c.in_ok-shown.ensures.facet c.in_ok-shown.ensures.left
