use Rattle.std.proofs.Common.{◌≡◌, ◌++◌, ◌+◌, drop, map}
use Rattle.std.specs.List.{list_any}
use Rattle.fc_docset.specs.Positions.{contains}
use Rattle.fc_column.specs.TextMerger.{numbered_terms}
use Rattle.fc_column.proofs.text_merger.add_terms.Given as goal

abbrev pub invariant-loop-ord : goal.invariant-loop-ord
invariant-loop-ord l =
    l.texts.items ++ numbered_terms (l.first + l.ord) (drop l.ord l.terms) (drop l.ord (map (list_any (contains l.live)) l.positions))
    ≡ l.fn.texts.items ++ numbered_terms l.first l.terms (map (list_any (contains l.live)) l.positions)
