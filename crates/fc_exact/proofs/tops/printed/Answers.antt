use Rattle.std.proofs.Common.{◌∙◌, map, ap, sym, subst}
use Rattle.std.specs.Prelude.{nat_le}
use Rattle.fc_spec.specs.words.Lists.{numbers_below}
use Rattle.fc_refine.specs.Entries.{HaveAscendingValues}
use Rattle.fc_refine.proofs.AscendingValues.{ascending-filter}
use Rattle.fc_exact.specs.ToldFacets.{total_entry}
use Rattle.fc_exact.specs.ToldView.{facet_view, total_view, value_view}
use Rattle.fc_exact.proofs.TotalLists.{entries_ascend}
use Rattle.fc_exact.proofs.tops.printed.Goals as goal

pub page-requires : goal.page-requires
page-requires c =
    let H = numbers_below c.args.shards in
    let vs = (facet_view c.args.facet.now).1 in
    let all = c.in_ok-all-in-Terms.ensures.totals ∙ ap (λ l. map (total_entry H) (map value_view l)) c.deref.ensures.value in
    subst HaveAscendingValues (sym c.in_ok-enough-in-Terms.ensures)
    (ascending-filter (λ e. nat_le c.in-Terms.terms.mincount e.stats.count) (map total_view c.in_ok-all-in-Terms.all.items) (subst HaveAscendingValues (sym all) (entries_ascend H vs c.requires)))
