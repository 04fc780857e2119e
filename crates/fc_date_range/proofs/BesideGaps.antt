-- The keys of a range facet over dates are those of its gaps, and those beside them that are asked for.
use Rattle.std.proofs.Common.{◌≡◌, refl}
use Rattle.fc_spec.specs.requests.Buckets.{Key, value, missing, gap, before, between, after, whole, is_date_range_key}
use Rattle.fc_spec.specs.requests.DateGaps.{date_gap_count}
use Rattle.fc_spec.specs.requests.Request.{DateRange}
use Rattle.fc_range.proofs.BesideGaps.{is_key}

pub own_keys : (g : DateRange) (k : Key) → is_date_range_key g k ≡ is_key (date_gap_count g) g.before g.between g.after k
own_keys g (gap i) = refl
own_keys g (value v) = refl
own_keys g missing = refl
own_keys g before = refl
own_keys g between = refl
own_keys g after = refl
own_keys g whole = refl
