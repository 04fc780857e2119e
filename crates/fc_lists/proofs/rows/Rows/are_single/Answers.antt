use Rattle.std.proofs.Common.{◌≤◌, length, All, eqb-true, eq-eqb, subst, sym, ap, ◌∙◌}
use Rattle.fc_lists.proofs.SingleRows.{rows_single, lists_single}
use Rattle.fc_lists.proofs.rows.Rows.are_single.Goals as goal

pub returns : goal.returns
returns g c =
    let inside = c.self.inside in
    let words = inside.words.items in
    let lists = inside.lists in
    let kept = c.self.invariant in
    let items = ap length c.flat.ensures in
    let count = c.len.ensures in (
      λ same. subst (All (λ row. length row ≤ 1)) c.self.view_is
          (rows_single words lists kept.some kept.whole inside.len kept.none_past (sym items ∙ eqb-true (length c.flat.result.now) c.len.result same ∙ count)),
      λ single. eq-eqb (length c.flat.result.now) c.len.result
          (items ∙ lists_single words lists kept.some kept.whole inside.len kept.none_past (subst (All (λ row. length row ≤ 1)) (sym c.self.view_is) single) ∙ sym count),
    )
