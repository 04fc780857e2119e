-- What a merger of columns of integers keeps.
use Rattle.std.specs.Prelude.{◌≡◌, ℕ, ℤ, ◌+◌, ◌-◌, ◌<◌, ◌≤◌, ◌==◌, ◌&&◌, Bool, List, [], true, count_by, slice_index_or, All}
use Rattle.std.specs.List.{items_where_true}
use Rattle.std.specs.Ordering.{int_cmp}
use Rattle.fc_spec.specs.documents.Columns.{IsAscending}
use Rattle.fc_spec.specs.documents.IntegerTexts.{is_long}
use Rattle.fc_lists.specs.declared.entries.Entry.{Entry}
use Rattle.fc_column.specs.declared.long_merger.LongMerger.TheInside.{Inside}

-- how many entries of a position have an integer that passes a test
abbrev pub count_entries : (ℤ → Bool) → ℕ → List (Entry ℤ) → ℕ
count_entries passes at entries = count_by (λ entry. passes entry.item && (entry.at == at)) entries

-- the integers of each position ascend and fit 64 bits signed, and the entries are those of the positions
pub record IsSound (merger : Inside) : Type 0 where
  pub ascending : All (IsAscending int_cmp) merger.rows.rows
  pub long : All (All (λ value. is_long value ≡ true)) merger.rows.rows
  pub whole : merger.rows.next ≡ []
  pub same : (passes : ℤ → Bool) (at : ℕ) → count_entries passes at merger.ordered.items ≡ count_by passes (slice_index_or merger.rows.rows at [])

-- entries with those of the kept rows of a column, which get the positions from one on
abbrev pub MovesWith : List (List ℤ) → List Bool → ℕ → List (Entry ℤ) → List (Entry ℤ) → Type 0
MovesWith column live first old new = (passes : ℤ → Bool) (at : ℕ)
    → (at < first → count_entries passes at new ≡ count_entries passes at old)
    × (first ≤ at → count_entries passes at new ≡ count_entries passes at old + count_by passes (slice_index_or (items_where_true live column) (at - first) []))
