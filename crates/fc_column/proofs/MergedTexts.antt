-- What a merger of columns of texts keeps, with one more column.
use Rattle.std.proofs.Common.{◌≡◌, ℕ, ◌+◌, ◌<◌, Bool, true, ◌||◌, List, ◌++◌, length, map, All, sym, ap, ap₂, subst, ◌∙◌}
use Rattle.std.specs.List.{list_any, items_where_true}
use Rattle.std.proofs.lemmas.List.{map-append}
use Rattle.std.proofs.lemmas.List.Elements.{All-append, All-map}
use Rattle.std.proofs.lemmas.List.Folds.{list_any-append}
use Rattle.fc_spec.specs.documents.Val.{Text, text_cmp}
use Rattle.fc_spec.specs.documents.Columns.{IsAscending}
use Rattle.fc_spec.proofs.words.WhereTrue.{items_where_true-map}
use Rattle.fc_column.specs.Dictionary.{term_at}
use Rattle.fc_column.specs.Terms.{has_text}
use Rattle.fc_column.specs.Numbering.{has_number, text_numbered, texts_numbered}
use Rattle.fc_column.specs.TextMerger.{Keeps, numbered_terms, used_numbers}
use Rattle.fc_lists.proofs.KeptRows.{kept_hold}
use Rattle.fc_column.proofs.Numberings.{text_of_first}
use Rattle.fc_column.proofs.MergedNumbers.{has_number-front, below_more, one_text, term_text, term_number, rows_by, moved_rows, used_at, in_row, used_texts, texts_of_terms}

module _ (old : List (Text × ℕ)) (count : ℕ) (rows : List (List ℕ)) (keeps : Keeps old count rows) (terms : List Text) (column : List (List ℕ)) (within : All (All (λ ord. ord < length terms)) column)
    (ascending : All (IsAscending text_cmp) (map (map (term_at terms)) column)) (live : List Bool) where
  -- the kept rows, their terms with numbers, and all rows
  pub kept : List (List ℕ)
  kept = items_where_true live column

  pub fresh : List (Text × ℕ)
  fresh = numbered_terms count terms (used_numbers (length terms) (items_where_true live column))

  kept_within : All (All (λ ord. ord < length terms)) (items_where_true live column)
  kept_within = kept_hold (All (λ ord. ord < length terms)) live column within

  -- the texts of the new rows
  new_texts : map (map (text_numbered (old ++ numbered_terms count terms (used_numbers (length terms) (items_where_true live column))))) (map (map (λ n. n + count)) (items_where_true live column))
      ≡ items_where_true live (map (map (term_at terms)) column)
  new_texts =
      let all = old ++ numbered_terms count terms (used_numbers (length terms) (items_where_true live column)) in
      moved_rows (text_numbered all) count (items_where_true live column)
      ∙ rows_by (λ n. text_numbered all (n + count)) (term_at terms) (items_where_true live column)
      (λ k d inside j e there. term_text old count terms (used_numbers (length terms) (items_where_true live column)) keeps.below _ (kept_within k d inside j e there)
      (used_at (length terms) (items_where_true live column) _ (kept_within k d inside j e there) ∙ in_row (items_where_true live column) k d j e inside there))
      ∙ sym (items_where_true-map (map (term_at terms)) live column)

  old_texts : map (map (text_numbered (old ++ numbered_terms count terms (used_numbers (length terms) (items_where_true live column))))) rows ≡ map (map (text_numbered old)) rows
  old_texts =
      let new = numbered_terms count terms (used_numbers (length terms) (items_where_true live column)) in
      rows_by (text_numbered (old ++ new)) (text_numbered old) rows (λ k d inside j e there. text_of_first old new _ (keeps.numbered k d inside j e there))

  pub all_texts : map (map (text_numbered (old ++ numbered_terms count terms (used_numbers (length terms) (items_where_true live column))))) (rows ++ map (map (λ n. n + count)) (items_where_true live column))
      ≡ map (map (text_numbered old)) rows ++ items_where_true live (map (map (term_at terms)) column)
  all_texts =
      let all = old ++ numbered_terms count terms (used_numbers (length terms) (items_where_true live column)) in
      map-append (map (text_numbered all)) rows (map (map (λ n. n + count)) (items_where_true live column)) ∙ ap₂ (λ a b. a ++ b) old_texts new_texts

  numbered_row : (row : List ℕ) → All (λ ord. has_number (ord + count) (old ++ numbered_terms count terms (used_numbers (length terms) (items_where_true live column))) ≡ true) row
      → All (λ n. has_number n (old ++ numbered_terms count terms (used_numbers (length terms) (items_where_true live column))) ≡ true) (map (λ n. n + count) row)
  numbered_row row all = All-map (λ n. has_number n (old ++ numbered_terms count terms (used_numbers (length terms) (items_where_true live column))) ≡ true) (λ n. n + count) row all

  pub keeps_more : Keeps (old ++ numbered_terms count terms (used_numbers (length terms) (items_where_true live column))) (count + length terms) (rows ++ map (map (λ n. n + count)) (items_where_true live column))
  keeps_more =
      let new = numbered_terms count terms (used_numbers (length terms) (items_where_true live column)) in
      record {
        below = below_more old count terms (used_numbers (length terms) (items_where_true live column)) keeps.below;
        one = one_text old count terms (used_numbers (length terms) (items_where_true live column)) keeps.below keeps.one;
        numbered =
            All-append (All (λ n. has_number n (old ++ new) ≡ true)) rows (map (map (λ n. n + count)) (items_where_true live column))
            (λ k d inside j e there. has_number-front _ old new (keeps.numbered k d inside j e there))
            (All-map (All (λ n. has_number n (old ++ new) ≡ true)) (map (λ n. n + count)) (items_where_true live column)
            (λ k d inside. numbered_row _ (λ j e there. term_number old count terms (used_numbers (length terms) (items_where_true live column)) keeps.below _ (kept_within k d inside j e there)
            (used_at (length terms) (items_where_true live column) _ (kept_within k d inside j e there) ∙ in_row (items_where_true live column) k d j e inside there))));
        ascending = subst (All (IsAscending text_cmp)) (sym all_texts)
            (All-append (IsAscending text_cmp) (map (map (text_numbered old)) rows) (items_where_true live (map (map (term_at terms)) column)) keeps.ascending (kept_hold (IsAscending text_cmp) live (map (map (term_at terms)) column) ascending));
        used = λ t.
            ap (has_text t) (map-append (λ (one : Text × ℕ). one.0) old new) ∙ list_any-append _ (texts_numbered old) (texts_numbered new)
            ∙ ap₂ (λ a b. a || b) (keeps.used t)
            (ap (has_text t) (texts_of_terms count terms (used_numbers (length terms) (items_where_true live column))) ∙ used_texts t terms (items_where_true live column) kept_within
            ∙ ap (list_any (has_text t)) (sym (items_where_true-map (map (term_at terms)) live column)))
            ∙ sym (ap (list_any (has_text t)) all_texts ∙ list_any-append (has_text t) (map (map (text_numbered old)) rows) (items_where_true live (map (map (term_at terms)) column)));
      }
