use Rattle.std.proofs.Common.{◌≡◌, ◌∙◌, ap, sym, subst, drop, length, map, min, rules}
use Rattle.std.proofs.lemmas.List.{drop-map}
use Rattle.std.proofs.lemmas.List.Sorted.{IsPermutation-refl}
use Rattle.fc_refine.specs.Entries.{AreAmong}
use Rattle.fc_refine.proofs.Among.{among_again, rest_among}
use Rattle.fc_refine.proofs.Cuts.{drop-min}
use Rattle.fc_refine.proofs.ranking.page.Goals as goal

pub returns-clause-ranks : goal.returns-clause-ranks
returns-clause-ranks g c =
    let entry = g.T.Ranked.entry in
    let offset = c.args.offset in
    let ordered = c.in_ok-ranked.ranked.items in
    let rest = c.in_ok-page.page.items in
    let all : c.len.result ≡ length ordered = search rules in
    ap (map entry) (c.in_ok-page.ensures.tail ∙ ap (λ k. drop k ordered) (c.min-cut.ensures ∙ ap (λ n. min n offset) all) ∙ drop-min offset ordered) ∙ sym (drop-map entry offset ordered)
    ∙ sym (c.in_ok-ranked.ensures.ranks.pages offset c.args.limit c.rank_bound.ensures)

pub returns-clause-among : goal.returns-clause-among
returns-clause-among g c =
    let ordered = c.in_ok-ranked.ranked.items in
    let rest : AreAmong c.in_ok-page.page.items ordered = subst (λ l. AreAmong l ordered) (sym c.in_ok-page.ensures.tail) (rest_among c.min-cut.result ordered ordered (IsPermutation-refl ordered)) in
    among_again c.in_ok-page.page.items ordered c.args.entries.items rest c.in_ok-ranked.ensures.among
