use Rattle.fc_dates.proofs.CanonicalTexts.{canonical_from}
use Rattle.fc_dates.proofs.date.canonical.Goals as goal

pub invariant_of-result : goal.invariant_of-result
invariant_of-result c = record { canonical = canonical_from c.as_bytes.result.now c.written.result _ c.in_ok-moment.ensures.value c.written.ensures }
