use Rattle.std.proofs.Common.{◌≤◌, ◌*◌, ◌-◌, ◌^◌, ◌∙◌, map, ap, sym, subst}
use Rattle.std.specs.Prelude.{All}
use Rattle.std.proofs.lemmas.List.Sorted.{All-permutation}
use Rattle.std.proofs.lemmas.List.FromFn.{length-range_with_len}
use Rattle.fc_spec.specs.laws.SortingLaw.{IsSortOf}
use Rattle.fc_spec.specs.requests.Least.{count_first, least_count}
use Rattle.fc_spec.specs.words.Lists.{numbers_below}
use Rattle.fc_facet.specs.KindView.{terms_view}
use Rattle.fc_refine.specs.Entries.{HaveAscendingValues}
use Rattle.fc_request.specs.FacetNode.{kind_view}
use Rattle.fc_exact.specs.ToldFacets.{least_in, total_entry}
use Rattle.fc_exact.specs.ToldView.{facet_view, total_view, value_view}
use Rattle.fc_exact.specs.declared.totals.Total.{Total}
use Rattle.fc_exact.proofs.TotalLists.{entries_ascend}
use Rattle.fc_exact.proofs.leasts.least_of.Goals as goal

pub ordered-requires : goal.ordered-requires
ordered-requires c =
    let H = numbers_below c.args.shards in
    let vs = (facet_view c.args.facet.now).1 in
    let all = c.in_ok-totals-in-Terms.ensures.totals ∙ ap (λ l. map (total_entry H) (map value_view l)) c.deref.ensures.value in
    subst HaveAscendingValues (sym all) (entries_ascend H vs c.requires.ascend)

pub least_at-requires-clause-bound : goal.least_at-requires-clause-bound
least_at-requires-clause-bound c =
    let P : Total → Type 0 = λ t. t.count ≤ c.args.shards * (2 ^ 64 - 1) in
    subst (All P) (sym c.deref-in-Terms.ensures.value)
    (All-permutation P c.in_ok-totals-in-Terms.totals.items c.in_ok-ordered-in-Terms.ordered.items c.in_ok-ordered-in-Terms.ensures.members c.in_ok-totals-in-Terms.ensures.bound)

pub returns-in_ok-ordered-in-Terms : goal.returns-in_ok-ordered-in-Terms
returns-in_ok-ordered-in-Terms c =
    let H = numbers_below c.args.shards in
    let vs = (facet_view c.args.facet.now).1 in
    let t = terms_view c.in-Terms.terms in
    let V = map total_view c.in_ok-totals-in-Terms.totals.items in
    let all = c.in_ok-totals-in-Terms.ensures.totals ∙ ap (λ l. map (total_entry H) (map value_view l)) c.deref.ensures.value in
    c.least_at.ensures V (subst (λ l. IsSortOf count_first V (map total_view l)) (sym c.deref-in-Terms.ensures.value) c.in_ok-ordered-in-Terms.ensures.order)
    ∙ (λ j. least_count (sym (length-range_with_len 0 c.args.shards) j) (c.top_bound.ensures j) (all j)) ∙ ap (λ k. least_in H (kind_view k) vs) (sym c.in-Terms.is)
