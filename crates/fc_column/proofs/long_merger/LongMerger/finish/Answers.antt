use Rattle.std.proofs.Common.{ℕ, ℤ, Bool, List, ◌≡◌, ◌∙◌, [], sym, ap, get_or, count_by}
use Rattle.fc_column.specs.LongMerger.{count_entries}
use Rattle.fc_lists.specs.Ordered.{AreInOrder, AreInOrderOf}
use Rattle.fc_lists.specs.declared.entries.Entry.{Entry}
use Rattle.fc_column.proofs.long_merger.LongMerger.finish.Goals as goal

order_of : (entries : List (Entry ℤ)) (rows made : List (List ℤ)) (values : List ℤ) (positions : List ℕ) → made ≡ rows
    → ((passes : ℤ → Bool) (at : ℕ) → count_entries passes at entries ≡ count_by passes (get_or rows at [])) → AreInOrderOf entries values positions → AreInOrder values positions made
order_of entries rows made values positions is_made same are = record {
  even = are.even;
  rising = are.rising;
  same = λ passes at. are.same passes at ∙ same passes at ∙ ap (λ l. count_by passes (get_or l at [])) (sym is_made);
}

pub of-requires-clause-order : goal.of-requires-clause-order
of-requires-clause-order c =
    order_of c.self.inside.ordered.items c.self.inside.rows.rows c.in_ok-rows.rows c.in_ok-values.values.items c.in_ok-values.positions.items
    c.in_ok-rows.ensures c.self.invariant.same c.in_ok-values.ensures
