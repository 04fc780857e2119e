-- The statistic of integers that are picked, beside that of none.
use Rattle.std.proofs.Common.{◌≡◌, ◌≤◌, ◌<◌, ◌^◌, ◌+ℤ◌, ℕ, ℤ, pos, List, [], map, length, refl, ap, w64, arith}
use Rattle.std.specs.Prelude.{FitsSigned, nat_abs, sum_by, ◌≢◌}
use Rattle.std.proofs.lemmas.Int.{ints}
use Rattle.std.proofs.lemmas.List.{length-map}
use Rattle.fc_spec.specs.documents.Columns.{longs_in}
use Rattle.fc_spec.specs.documents.Val.{Val, long}
use Rattle.fc_spec.specs.documents.World.{Place}
use Rattle.fc_spec.specs.requests.Request.{StatKind, sum, min, max, countvals, missing}
use Rattle.fc_spec.specs.requests.Statistics.{amount, combined_value, number, pair_values, statistic_in, total_of}
use Rattle.fc_spec.specs.scripts.ScriptTotals.{total_limit}
use Rattle.fc_spec.specs.documents.Bits.{first_bits}
use Rattle.fc_lane.specs.Masked.{masked}
use Rattle.fc_lane.proofs.MaskedCounts.{count_at_most, length-masked}
use Rattle.fc_lane.proofs.PickedTotals.{fewer_picked, small_fits, total_size}
use Rattle.fc_partial.specs.OneDocument.{statistic_of}
use Rattle.fc_partial.proofs.ValueLists.{longs_in-longs}

-- a statistic goes by values alone, but for missing ones
pub by_values : (of : StatKind) → of ≢ missing → (field : ℕ) (X : List Place) → statistic_in of field X ≡ statistic_of of (pair_values field X)
by_values sum there field X = refl
by_values min there field X = refl
by_values max there field X = refl
by_values countvals there field X = refl
by_values missing there field X = absurd (there refl)

-- combined with that of none it stays
pub beside_none : (of : StatKind) → of ≢ missing → (vs : List Val) → combined_value of (statistic_of of []) (statistic_of of vs) ≡ statistic_of of vs
beside_none sum there vs = ap number (omega (arith, ints))
beside_none min there vs = refl
beside_none max there vs = refl
beside_none countvals there vs = ap number (omega (arith, ints))
beside_none missing there vs = absurd (there refl)

-- and fits
pub picked_fits : (of : StatKind) → of ≢ missing → (zs : List ℤ) → sum_by nat_abs zs ≤ total_limit → length zs < 2 ^ 63
    → FitsSigned w64 (amount (statistic_of of []) +ℤ amount (statistic_of of (map long zs)))
picked_fits sum there zs small few =
    let same : total_of (longs_in (map long zs)) ≡ total_of zs = ap total_of (longs_in-longs zs) in
    small_fits (pos 0 +ℤ total_of (longs_in (map long zs))) (omega (arith, ints, ap nat_abs same, total_size zs, small))
picked_fits min there zs small few = omega (arith, ints)
picked_fits max there zs small few = omega (arith, ints)
picked_fits countvals there zs small few = omega (arith, ints, length-map zs long, few)
picked_fits missing there zs small few = absurd (there refl)

-- so do those that a mask picks
pub masked_fits : (of : StatKind) → of ≢ missing → (words : List ℕ) (values : List ℤ) → sum_by nat_abs values ≤ total_limit → length values < 2 ^ 63
    → FitsSigned w64 (amount (statistic_of of []) +ℤ amount (statistic_of of (map long (masked words values))))
masked_fits of there words values small few =
    picked_fits of there (masked words values) (omega (arith, small, fewer_picked nat_abs (first_bits (length values) words) values))
    (omega (arith, few, length-masked words values, count_at_most (length values) words))
