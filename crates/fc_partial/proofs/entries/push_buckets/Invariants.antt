use Rattle.std.proofs.Common.{◌≡◌, ◌++◌, map}
use Rattle.fc_partial.specs.BucketView.{bucket_view, bare_part}
use Rattle.fc_partial.specs.StatsView.{stats_view}
use Rattle.fc_partial.specs.TallyParts.{keyed}
use Rattle.fc_partial.proofs.entries.push_buckets.Given as goal

abbrev pub invariant-loop-key : goal.invariant-loop-key
invariant-loop-key g l =
    map bucket_view l.buckets.items ++ map bare_part (map (λ e. (g.K.OneKind.key e.0, stats_view e.1)) l.key-iterator)
    ≡ map bucket_view l.fn.buckets.items ++ map bare_part (keyed g.K.OneKind.key l.fn.entries)
