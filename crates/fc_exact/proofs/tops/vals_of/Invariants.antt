use Rattle.std.proofs.Common.{◌≡◌, ◌++◌, map, drop}
use Rattle.fc_spec.specs.requests.Ranks.{Entry}
use Rattle.fc_base.specs.View.{val_view}
use Rattle.fc_exact.specs.ToldView.{total_view}
use Rattle.fc_exact.proofs.tops.vals_of.Given as goal

abbrev pub invariant-loop-one : goal.invariant-loop-one
invariant-loop-one l = map val_view l.vals.items ++ map (λ (e : Entry). e.val) (map total_view (drop l.one-index l.totals)) ≡ map (λ (e : Entry). e.val) (map total_view l.totals)
