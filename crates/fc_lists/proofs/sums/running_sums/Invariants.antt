use Rattle.std.proofs.Common.{◌≡◌, ℕ, ◌<◌, get_or, sum, take, vec_len}
use Rattle.fc_lists.proofs.sums.running_sums.Given as goal

abbrev pub invariant-loop-count : goal.invariant-loop-count
invariant-loop-count l = record {
  size : vec_len l.sums ≡ l.count-index;
  total : l.total ≡ sum (take l.count-index l.counts);
  sums : (k : ℕ) → k < l.count-index → get_or l.sums.items k 0 ≡ sum (take k l.counts);
}
