use Rattle.std.proofs.Common.{◌∙◌, ap, map, sym}
use Rattle.std.proofs.lemmas.List.{take-map}
use Rattle.fc_spec.specs.laws.SortingLaw.{up_to}
use Rattle.fc_exact.specs.ToldView.{total_view}
use Rattle.fc_exact.proofs.ranks.cut.Goals as goal

pub returns-in-Some : goal.returns-in-Some
returns-in-Some c =
    ap (map total_view) c.truncate.ensures.items ∙ sym (take-map total_view c.in-Some.limit c.args.totals.items) ∙ ap (λ o. up_to o (map total_view c.args.totals.items)) (sym c.in-Some.is)
