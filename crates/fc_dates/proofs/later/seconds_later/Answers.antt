use Rattle.std.proofs.Common.{rules, ◌∙◌, w64, to_z-of_z, refl, FitsSigned}
use Rattle.std.specs.Prelude.{pos}
use Rattle.fc_dates.proofs.Sums.{seconds_sum, seconds_can}
use Rattle.fc_dates.proofs.CivilMoments.{seconds_found, seconds_missing}
use Rattle.fc_dates.proofs.later.seconds_later.Goals as goal

pub returns-in-Ok-clause-value : goal.returns-in-Ok-clause-value
returns-in-Ok-clause-value c =
    let fits : FitsSigned w64 c.from.result = search rules in
    let only = rw c.from.ensures at (simp to_z-of_z at c.seconds.ensures) in
    let can = (seconds_can c.args.moment (pos c.args.number) c.seconds.result only).0 (c.in-Ok.ensures.succeeds.0 refl) in
    (seconds_found c.args.moment c.in-Ok.sum c.args.number c.requires can (c.in-Ok.ensures.value ∙ seconds_sum c.args.moment (pos c.args.number) c.seconds.result only)).0

pub returns-in-Ok-clause-whole : goal.returns-in-Ok-clause-whole
returns-in-Ok-clause-whole c =
    let fits : FitsSigned w64 c.from.result = search rules in
    let only = rw c.from.ensures at (simp to_z-of_z at c.seconds.ensures) in
    let can = (seconds_can c.args.moment (pos c.args.number) c.seconds.result only).0 (c.in-Ok.ensures.succeeds.0 refl) in
    (seconds_found c.args.moment c.in-Ok.sum c.args.number c.requires can (c.in-Ok.ensures.value ∙ seconds_sum c.args.moment (pos c.args.number) c.seconds.result only)).1

pub returns-in-Err-clause-value : goal.returns-in-Err-clause-value
returns-in-Err-clause-value c =
    let fits : FitsSigned w64 c.from.result = search rules in
    let only = rw c.from.ensures at (simp to_z-of_z at c.seconds.ensures) in
    seconds_missing c.args.moment c.args.number c.requires (λ can. let bad = c.in-Err.ensures.succeeds.1 ((seconds_can c.args.moment (pos c.args.number) c.seconds.result only).1 can) in cc)
