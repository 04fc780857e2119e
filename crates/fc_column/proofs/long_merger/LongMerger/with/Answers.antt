use Rattle.std.proofs.Common.{◌≡◌, ◌∙◌, ◌+◌, ◌-◌, ◌++◌, ◌<◌, ◌≤◌, ◌⊎◌, inl, inr, ℕ, ℤ, Bool, true, [], List, length, get_or, count_by, All, sym, ap, subst, arith, length-append, ◌^◌}
use Rattle.std.proofs.lemmas.Bool.{cases_lt}
use Rattle.std.proofs.lemmas.List.{get_or_append_left, get_or-append-add, get_or_past}
use Rattle.std.proofs.lemmas.List.Elements.{All-append}
use Rattle.std.specs.List.{items_where_true}
use Rattle.std.specs.Ordering.{int_cmp}
use Rattle.fc_spec.specs.documents.Columns.{IsAscending}
use Rattle.fc_spec.specs.documents.IntegerTexts.{is_long}
use Rattle.fc_column.specs.LongMerger.{MovesWith, count_entries}
use Rattle.fc_lists.specs.declared.entries.Entry.{Entry}
use Rattle.fc_lists.proofs.KeptRows.{kept_hold}
use Rattle.fc_lists.proofs.KeptCounts.{length-items_where_true}
use Rattle.fc_column.proofs.long_merger.LongMerger.with.Goals as goal

-- the new rows are as many as a `u32` counts
few : (first end : ℕ) (rows made column : List (List ℤ)) (live : List Bool) → first ≡ length rows → end ≡ length made → made ≡ rows ++ items_where_true live column → length live ≡ length column → end < 2 ^ 32
    → first + count_by (λ here. here) live < 2 ^ 32
few first end rows made column live from to is long small =
    omega (arith, ap length is, length-append rows (items_where_true live column), length-items_where_true live column long)

pub add_kept-requires-clause-small : goal.add_kept-requires-clause-small
add_kept-requires-clause-small c =
    few c.len-first.result c.len-end.result c.self.inside.rows.rows c.add_rows.new.self.rows c.args.column.now c.args.live.now c.len-first.ensures c.len-end.ensures
    (ap (λ l. l.rows) c.in_ok-add_rows.ensures ∙ ap (λ l. c.self.inside.rows.rows ++ items_where_true c.args.live.now l) c.rows.ensures.rows)
    c.requires (omega arith)

-- the entries are those of all rows
same_more : (rows column : List (List ℤ)) (live : List Bool) (old new : List (Entry ℤ)) → ((passes : ℤ → Bool) (at : ℕ) → count_entries passes at old ≡ count_by passes (get_or rows at []))
    → MovesWith column live (length rows) old new → (passes : ℤ → Bool) (at : ℕ) → count_entries passes at new ≡ count_by passes (get_or (rows ++ items_where_true live column) at [])
same_more rows column live old new same moves passes at = go (cases_lt at (length rows))
  where
    kept : List (List ℤ)
    kept = items_where_true live column

    go : ((at < length rows) ⊎ (length rows ≤ at)) → count_entries passes at new ≡ count_by passes (get_or (rows ++ items_where_true live column) at [])
    go (inl before) = (moves passes at).0 before ∙ same passes at ∙ ap (count_by passes) (sym (get_or_append_left rows (items_where_true live column) [] at before))
    go (inr behind) =
        let place : length rows + (at - length rows) ≡ at = omega arith in
        let none = same passes at ∙ ap (count_by passes) (get_or_past rows at [] behind) in
        let more = (moves passes at).1 behind in
        let there = ap (count_by passes) (sym (get_or-append-add rows (items_where_true live column) (at - length rows) []) ∙ ap (λ n. get_or (rows ++ items_where_true live column) n []) place) in
        omega (arith, none, more, there)

pub invariant_of-result : goal.invariant_of-result
invariant_of-result c =
    let rows = c.self.inside.rows.rows in
    let live = c.args.live.now in
    let column = c.args.column.now in
    let made : c.add_rows.new.self.rows ≡ rows ++ items_where_true live column =
    ap (λ l. l.rows) c.in_ok-add_rows.ensures ∙ ap (λ l. rows ++ items_where_true live l) c.rows.ensures.rows in
    let kept = c.self.invariant in
    record {
      ascending = subst (All (IsAscending int_cmp)) (sym made) (All-append (IsAscending int_cmp) rows (items_where_true live column) kept.ascending (kept_hold (IsAscending int_cmp) live column c.rows.ensures.ascending));
      long = subst (All (All (λ value. is_long value ≡ true))) (sym made)
          (All-append (All (λ value. is_long value ≡ true)) rows (items_where_true live column) kept.long (kept_hold (All (λ value. is_long value ≡ true)) live column c.rows.ensures.long));
      whole = ap (λ l. l.next) c.in_ok-add_rows.ensures;
      same = λ passes at.
          same_more rows column live c.self.inside.ordered.items c.add_kept.new.ordered.items kept.same
          (subst (λ n. MovesWith column live n c.self.inside.ordered.items c.add_kept.new.ordered.items) c.len-first.ensures c.in_ok-add_kept.ensures) passes at
          ∙ ap (λ l. count_by passes (get_or l at [])) (sym made);
    }
