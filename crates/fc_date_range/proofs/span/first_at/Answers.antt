use Rattle.std.proofs.Common.{not, sym, ap, ◌∙◌}
use Rattle.fc_date_range.proofs.FirstTerms.{first_alike}
use Rattle.fc_date_range.proofs.HeldDates.{other_truth, turned_at}
use Rattle.fc_date_range.specs.HeldDates.{is_from, is_to}
use Rattle.fc_date_range.proofs.span.first_at.Goals as goal

pub returns : goal.returns
returns c =
    let date = c.args.date.now in
    first_alike c.args.column.now (λ t. not (is_to date c.args.with_high t)) (is_from date c.args.with_low) c.args.past
    (λ t. turned_at date c.args.with_high t ∙ ap (λ b. is_from date b t) (sym (other_truth c.args.with_low c.args.with_high c.if-with_low-with_high.false))) c.requires
