use Rattle.std.proofs.Common.{sym, ap, inl, inr}
use Rattle.fc_spec.specs.requests.Statistics.{number, extreme, total_of, least_of, greatest_of}
use Rattle.fc_partial.proofs.ValueLists.{longs_in-texts}
use Rattle.fc_partial.proofs.statistics.StatValue.of_texts.Goals as goal

pub returns-in-Sum : goal.returns-in-Sum
returns-in-Sum c texts many = rw c.in-Sum.is (ap number (sym (ap total_of (longs_in-texts texts))))

pub returns-in-Min : goal.returns-in-Min
returns-in-Min c texts many =
    elim c.in-Min.is [
      | inl e ↦ rw e (ap extreme (sym (ap least_of (longs_in-texts texts))))
      | inr e ↦ rw e (ap extreme (sym (ap greatest_of (longs_in-texts texts))))
    ]
