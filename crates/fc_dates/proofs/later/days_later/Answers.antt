use Rattle.std.proofs.Common.{rules, ◌∙◌, w64, to_z-of_z, refl, FitsSigned}
use Rattle.std.specs.Prelude.{pos}
use Rattle.fc_dates.proofs.Sums.{days_sum, days_can}
use Rattle.fc_dates.proofs.CivilMoments.{days_found, days_missing, days_past}
use Rattle.fc_dates.proofs.later.days_later.Goals as goal

pub returns-in-Ok-clause-value : goal.returns-in-Ok-clause-value
returns-in-Ok-clause-value c =
    let fits : FitsSigned w64 c.from.result = search rules in
    let only = rw c.from.ensures at (simp to_z-of_z at c.days.ensures) in
    let can = (days_can c.args.moment (pos c.args.number) c.days.result only).0 (c.in-Ok.ensures.succeeds.0 refl) in
    (days_found c.args.moment c.in-Ok.sum c.args.number c.requires can (c.in-Ok.ensures.value ∙ days_sum c.args.moment (pos c.args.number) c.days.result only)).0

pub returns-in-Ok-clause-whole : goal.returns-in-Ok-clause-whole
returns-in-Ok-clause-whole c =
    let fits : FitsSigned w64 c.from.result = search rules in
    let only = rw c.from.ensures at (simp to_z-of_z at c.days.ensures) in
    let can = (days_can c.args.moment (pos c.args.number) c.days.result only).0 (c.in-Ok.ensures.succeeds.0 refl) in
    (days_found c.args.moment c.in-Ok.sum c.args.number c.requires can (c.in-Ok.ensures.value ∙ days_sum c.args.moment (pos c.args.number) c.days.result only)).1

pub returns-in-Err-clause-value : goal.returns-in-Err-clause-value
returns-in-Err-clause-value c =
    let fits : FitsSigned w64 c.from.result = search rules in
    let only = rw c.from.ensures at (simp to_z-of_z at c.days.ensures) in
    days_missing c.args.moment c.args.number c.requires (λ can. let bad = c.in-Err.ensures.succeeds.1 ((days_can c.args.moment (pos c.args.number) c.days.result only).1 can) in cc)

pub returns-then-number-gt-MOST_DAYS-clause-value : goal.returns-then-number-gt-MOST_DAYS-clause-value
returns-then-number-gt-MOST_DAYS-clause-value c = days_past c.args.moment c.args.number c.requires (search rules)
