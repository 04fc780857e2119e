use Rattle.std.proofs.Common.{◌≡◌, ◌∙◌, ◌++◌, map, ap, sym}
use Rattle.std.proofs.lemmas.List.{map-append}
use Rattle.fc_spec.specs.requests.Ranks.{below_rank}
use Rattle.fc_facet.specs.KindView.{sort_view}
use Rattle.fc_partial.specs.BucketView.{bucket_view, buckets_view, linked}
use Rattle.fc_refine.specs.Tops.{bare_of, of_entry, entries_in, others_of_tally, values_of_tally}
use Rattle.fc_refine.specs.ValuedView.{valued_entry}
use Rattle.fc_refine.proofs.TopEntries.{linked_bare}
use Rattle.fc_refine.proofs.tops.listed.Goals as goal

pub returns : goal.returns
returns c =
    let s = sort_view c.args.sort in
    let es = entries_in (buckets_view c.args.buckets.items) in
    let first = c.in_ok-first.first.items in
    let list = c.in_ok-list.list.items in
    let others = c.in_ok-values.others.items in
    let ranked : map valued_entry first ≡ below_rank s c.args.bound (values_of_tally es) = c.in_ok-first.ensures.ranks ∙ ap (below_rank s c.args.bound) c.in_ok-values.ensures.values in
    ap (λ l. linked (map bucket_view l)) c.in_ok-append.ensures.items
    ∙ ap linked (map-append bucket_view list others
    ∙ ap (λ l. l ++ map bucket_view others) (c.in_ok-list.ensures ∙ ap (λ l. map bare_of (map of_entry l)) ranked)
    ∙ ap (λ l. map bare_of (map of_entry (below_rank s c.args.bound (values_of_tally es))) ++ l) c.in_ok-values.ensures.others
    ∙ sym (map-append bare_of (map of_entry (below_rank s c.args.bound (values_of_tally es))) (others_of_tally es)))
    ∙ linked_bare (map of_entry (below_rank s c.args.bound (values_of_tally es)) ++ others_of_tally es)
