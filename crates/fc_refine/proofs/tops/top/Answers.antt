use Rattle.std.proofs.Common.{◌≡◌, ◌∙◌, ap, sym, subst}
use Rattle.fc_facet.specs.KindView.{sort_view}
use Rattle.fc_partial.specs.BucketView.{bare}
use Rattle.fc_refine.specs.Entries.{HaveAscendingValues}
use Rattle.fc_refine.specs.Tops.{entries_in, top_of, values_of_tally}
use Rattle.fc_refine.proofs.TopEntries.{entries_of_bare, values_ascend}
use Rattle.fc_refine.proofs.tops.top.Goals as goal

pub listed-requires : goal.listed-requires
listed-requires c =
    let same = ap entries_in c.in_ok-buckets.ensures.buckets ∙ entries_of_bare c.args.tally.entries in
    subst (λ l. HaveAscendingValues (values_of_tally l)) (sym same) (values_ascend c.args.tally.entries c.in_ok-buckets.ensures.tally.ascend)

pub returns-clause-buckets : goal.returns-clause-buckets
returns-clause-buckets c = λ terms is.
    let same = ap entries_in c.in_ok-buckets.ensures.buckets ∙ entries_of_bare c.args.tally.entries in
    let sort : sort_view c.in-Terms.terms.sort ≡ sort_view terms.sort = cc (c.in-Terms.is, is) in
    c.in_ok-list-in-Terms.ensures ∙ ap (λ l. bare (top_of (sort_view c.in-Terms.terms.sort) c.args.at_most l)) same ∙ ap (λ s. bare (top_of s c.args.at_most c.args.tally.entries)) sort
