use Rattle.std.proofs.Common.{ℕ, ◌<◌, get_or, map, take}
use Rattle.std.specs.List.{list_any}
use Rattle.fc_partial.specs.View.{stat_value_view}
use Rattle.fc_count.specs.Counted.{HaveCounted}
use Rattle.fc_date_range.specs.GapSpans.{is_held}
use Rattle.fc_date_range.specs.Reached.{AreReached}
use Rattle.fc_date_range.proofs.numbers.GapSpansNumbering.count.Given as goal

abbrev pub invariant-loop-ord : goal.invariant-loop-ord
invariant-loop-ord l = record {
  counted : HaveCounted (λ i. list_any (λ ord. is_held l.self.spans.now ord i) (take l.ord-index l.ord-items)) (map stat_value_view l.values) l.initial.cells l.cells;
  reached : (least : ℕ) → ((m : ℕ) → m < l.ord-index → get_or l.ord-items m 0 < least)
      → AreReached l.self.spans.now (λ i. list_any (λ ord. is_held l.self.spans.now ord i) (take l.ord-index l.ord-items)) least l.reached;
}
