use Rattle.std.proofs.Common.{◌≡◌, ◌<◌, suc, ◌∷◌, length, get_or, rules, subst, ap, arith}
use Rattle.fc_partial.proofs.singles.least_at.Goals as goal

pub bounds-values-at : goal.bounds-values-at
bounds-values-at c =
    let parts : c.args.positions.now ≡ c.in_ok-first.first.now ∷ c.in_ok-first.others.now = search rules in
    let i = c.loop-at.at-index in
    subst (λ n. n < length c.args.values.now) (ap (λ l. get_or l (suc i) 0) parts) (c.requires (suc i) 0 (omega (arith, c.loop-at-test.true, ap length parts)))
