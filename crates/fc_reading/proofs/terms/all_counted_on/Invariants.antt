use Rattle.std.proofs.Common.{◌≡◌, ◌++◌, ℕ, List, map}
use Rattle.std.specs.Prelude.{All}
use Rattle.fc_base.specs.StatisticView.{stat_view}
use Rattle.fc_spec.specs.documents.Val.{Val}
use Rattle.fc_spec.specs.requests.Request.{Terms, Nodes, stats_of}
use Rattle.fc_reading.specs.Terms.{candidate_vals, IsOn}
use Rattle.fc_reading.proofs.terms.all_counted_on.Given as goal

abbrev pub invariant-loop-candidate : goal.invariant-loop-candidate
invariant-loop-candidate g l =
    let R = g.R.BucketReading.reading l.reading in
    (candidate_vals l.list.items ++ candidate_vals l.candidate-iterator.rest.items ≡ candidate_vals l.fn.candidates.items)
    × ((t : Terms) (inner : Nodes) (Y : g.R.BucketReading.Over) (counted : Val → List ℕ) → stats_of inner ≡ map stat_view l.stats
    → All (IsOn R t inner l.shards Y g.R.BucketReading.held counted) l.fn.candidates.items
    → All (IsOn R t inner l.shards Y g.R.BucketReading.held (λ v. l.shards)) l.list.items × All (IsOn R t inner l.shards Y g.R.BucketReading.held counted) l.candidate-iterator.rest.items)
