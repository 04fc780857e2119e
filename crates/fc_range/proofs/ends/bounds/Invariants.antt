use Rattle.std.proofs.Common.{◌≡◌, ◌++◌, ◌-◌, map}
use Rattle.std.specs.List.{range_with_len}
use Rattle.fc_facet.specs.KindView.{range_view}
use Rattle.fc_spec.specs.requests.Gaps.{gap_count}
use Rattle.fc_spec.specs.words.Lists.{numbers_below}
use Rattle.fc_range.specs.EndsView.{ends_of, ends_view}
use Rattle.fc_range.proofs.ends.bounds.Given as goal

abbrev pub invariant-loop-number : goal.invariant-loop-number
invariant-loop-number l =
    map ends_view l.ends.items ++ map (ends_of (range_view l.range)) (range_with_len l.number (gap_count (range_view l.range) - l.number))
    ≡ map (ends_of (range_view l.range)) (numbers_below (gap_count (range_view l.range)))
