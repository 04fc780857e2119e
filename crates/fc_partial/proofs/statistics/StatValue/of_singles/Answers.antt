use Rattle.std.proofs.Common.{◌∙◌, w64, sym, ap, rules}
use Rattle.std.proofs.lemmas.Int.{to_z-of_z}
use Rattle.fc_spec.specs.requests.Statistics.{number, extreme, total_of, least_of, greatest_of}
use Rattle.fc_partial.specs.Singles.{integers_at}
use Rattle.fc_partial.proofs.ValueLists.{longs_in-longs}
use Rattle.fc_partial.proofs.statistics.StatValue.of_singles.Goals as goal

pub returns-in-Sum : goal.returns-in-Sum
returns-in-Sum c =
    rw c.in-Sum.is
    (ap number (to_z-of_z w64 c.sum_at.result (search rules) ∙ c.sum_at.ensures ∙ sym (ap total_of (longs_in-longs (integers_at c.args.values.now c.args.positions.now)))))

pub returns-in-Min : goal.returns-in-Min
returns-in-Min c = rw c.in-Min.is (ap extreme (c.least_at.ensures ∙ sym (ap least_of (longs_in-longs (integers_at c.args.values.now c.args.positions.now)))))

pub returns-in-Max : goal.returns-in-Max
returns-in-Max c = rw c.in-Max.is (ap extreme (c.greatest_at.ensures ∙ sym (ap greatest_of (longs_in-longs (integers_at c.args.values.now c.args.positions.now)))))
