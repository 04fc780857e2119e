use Rattle.fc_dates.specs.GapView.{unit_view}
use Rattle.fc_dates.specs.MomentView.{moment_view}
use Rattle.fc_dates.proofs.CanonicalTexts.{sum_canonical, added_is}
use Rattle.fc_dates.proofs.date.add_gap.Goals as goal

pub invariant_of-result : goal.invariant_of-result
invariant_of-result c = record { canonical = sum_canonical c.args.date.now.bytes c.written.result (unit_view c.args.gap.now.unit) c.args.gap.now.number (moment_view c.in_ok-moment.moment) (moment_view c.in_ok-sum.sum) c.in_ok-moment.ensures.value c.in_ok-sum.ensures.value c.written.ensures }

pub returns : goal.returns
returns c = added_is c.args.date.now.bytes c.written.result (unit_view c.args.gap.now.unit) c.args.gap.now.number (moment_view c.in_ok-moment.moment) (moment_view c.in_ok-sum.sum) c.in_ok-moment.ensures.value c.in_ok-sum.ensures.value c.written.ensures
