use Rattle.std.proofs.Common.{◌∙◌, ap, map, option_map, sym, arith}
use Rattle.fc_reply.specs.ReplyView.{bucket_view, facets_view, row_body, row_view}
use Rattle.fc_reply.specs.declared.reply.ReplyBuckets.{out-ReplyBuckets}
use Rattle.fc_reply.proofs.ReplyViews.{view_of_made_buckets}
use Rattle.fc_request.specs.NodeView.{nodes_view}
use Rattle.fc_unique.proofs.Rows.{folded_row-row_with, row_with}
use Rattle.fc_unique.proofs.Sizes.{some_total}
use Rattle.fc_unique.proofs.Unasked.{none_folds, unasked_row}
use Rattle.fc_unique.proofs.folding.+folding.Goals as goal

pub folded_facets-returns-then-is_empty : goal.folded_facets-returns-then-is_empty
folded_facets-returns-then-is_empty t c = sym (none_folds c.args.is_empty c.args.nodes.now (sym c.is_empty.ensures ∙ c.if-is_empty.true) (facets_view c.args.facets.items))

pub folded_facets-folded_facet-requires : goal.folded_facets-folded_facet-requires
folded_facets-folded_facet-requires t c = (
  omega (arith, c.decreases, c.own_facet-own.ensures.inner, c.loop-facet.invariant.fewer, some_total c.args.nodes.now (sym c.is_empty.ensures ∙ c.if-is_empty.false)),
  tt,
)

pub folded_row-returns-then-not-asks_numbers : goal.folded_row-returns-then-not-asks_numbers
folded_row-returns-then-not-asks_numbers t c =
    let N = nodes_view c.args.nodes.now in
    view_of_made_buckets _ ∙ ap (row_body c.args.number) (sym (unasked_row N (sym c.asks_numbers.ensures ∙ c.if-not-asks_numbers.true) (row_view c.args.buckets)))

pub folded_row-returns : goal.folded_row-returns
folded_row-returns t c =
    let x = out-ReplyBuckets c.args.buckets in
    view_of_made_buckets _
    ∙ ap (row_body c.args.number)
    ((λ i. row_with (c.in_ok-list.ensures i) (c.in_ok-missing.ensures i) (c.in_ok-before.ensures i) (c.in_ok-between.ensures i) (c.in_ok-after.ensures i))
    ∙ sym (folded_row-row_with (nodes_view c.args.nodes.now) (map bucket_view x.list.items) (option_map bucket_view x.missing) (option_map bucket_view x.before) (option_map bucket_view x.between) (option_map bucket_view x.after)))
