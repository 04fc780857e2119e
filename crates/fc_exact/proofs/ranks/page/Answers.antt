use Rattle.std.proofs.Common.{◌≡◌, ◌∙◌, ap, sym, drop, length, map, min}
use Rattle.std.proofs.lemmas.List.{drop-map}
use Rattle.fc_spec.specs.laws.SortingLaw.{up_to}
use Rattle.fc_spec.proofs.requests.SortedEntries.{page_is_cut}
use Rattle.fc_facet.specs.KindView.{sort_view}
use Rattle.fc_refine.proofs.Cuts.{drop-min}
use Rattle.fc_exact.specs.ToldView.{total_view}
use Rattle.fc_exact.proofs.ranks.page.Goals as goal

pub returns : goal.returns
returns c =
    let offset = c.args.offset in
    let ordered = c.in_ok-ordered.ordered.items in
    let all : c.len.result ≡ length ordered = c.len.ensures ∙ c.in_ok-ordered.ordered.ok.0 in
    let rest = c.in_ok-rest.ensures.tail ∙ ap (λ k. drop k ordered) (c.min-from.ensures ∙ ap (λ n. min n offset) all) ∙ drop-min offset ordered in
    c.cut.ensures ∙ ap (up_to c.args.limit) (ap (map total_view) rest ∙ sym (drop-map total_view offset ordered))
    ∙ sym (page_is_cut (sort_view c.args.sort) offset c.args.limit (map total_view c.args.totals.items) (map total_view ordered) c.in_ok-ordered.ensures.order)
