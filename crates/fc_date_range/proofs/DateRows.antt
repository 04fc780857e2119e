-- The gaps that hold some of the dates of a document, one date after another, by their ordinals.
use Rattle.std.proofs.Common.{◌≡◌, ℕ, ◌<◌, ◌≤◌, All, Bool, true, ◌&&◌, ◌||◌, List, [], ◌∷◌, length, map, get_or, take, refl, ap, ap₂, ◌∙◌}
use Rattle.std.specs.List.{list_any}
use Rattle.std.specs.List.Sorted.{IsStrictlyIncreasing}
use Rattle.std.specs.Ordering.{is_lt}
use Rattle.std.proofs.lemmas.Bool.{or_left, or_right}
use Rattle.std.proofs.lemmas.List.Folds.{list_any_at}
use Rattle.std.proofs.lemmas.List.Kept.{AllPairs-from_increasing}
use Rattle.fc_spec.specs.documents.Columns.{column_of}
use Rattle.fc_spec.specs.documents.Document.{Block}
use Rattle.fc_spec.specs.documents.Totals.{document_total, documents_in}
use Rattle.fc_spec.specs.documents.Val.{Text, same_text, text}
use Rattle.fc_spec.specs.requests.Buckets.{gap, in_bucket, in_date_range}
use Rattle.fc_spec.specs.requests.DateGaps.{date_gap_count, in_date_gap}
use Rattle.fc_spec.specs.requests.Request.{DateRange, date_range}
use Rattle.fc_spec.proofs.words.Texts.{same_itself}
use Rattle.fc_column.specs.Terms.{has_text, ordinals_in, terms_below, terms_of}
use Rattle.fc_column.proofs.TermOrder.{term_placed, terms_ascend}
use Rattle.fc_facet.specs.RangeGaps.{HasFewEdges}
use Rattle.fc_kind.specs.PlaceAt.{place_at}
use Rattle.fc_kind.proofs.PlaceColumns.{row_at}
use Rattle.fc_date_range.proofs.NearDates.{gaps_ascend}
use Rattle.fc_range.proofs.GapRows.{some_of_first}
use Rattle.fc_range.proofs.GapSteps.{there_parts}
use Rattle.fc_range.proofs.Tests.{below_is}
use Rattle.fc_date_range.specs.GapDates.{has_date}

-- the term of an ordinal
abbrev pub term_at : List (List Text) → ℕ → Text
term_at column ord = get_or (terms_of column) ord []

-- a gap that is there holds the term of an ordinal
abbrev pub has_term : List (List Text) → DateRange → ℕ → ℕ → Bool
has_term column g i ord = has_date g (term_at column ord) i

module _ (g : DateRange) where
  -- of ordinals that increase, the gaps of a later one are none before those of an earlier one
  pub later_gaps : (column : List (List Text)) → HasFewEdges g → (row : List ℕ) (k : ℕ) → IsStrictlyIncreasing row → All (λ ord. ord < length (terms_of column)) row → k < length row
      → (i j : ℕ) → list_any (has_term column g j) (take k row) ≡ true → has_term column g i (get_or row k 0) ≡ true → j ≤ i
  later_gaps column few row k rises within here i j earlier later =
      some_of_first {P = j ≤ i} (has_term column g j) row k 0
      (λ m before e.
      let t = term_at column (get_or row k 0) in
      let s = term_at column (get_or row m 0) in
      let first = there_parts (date_gap_count g) (λ n. in_date_gap g n t) i later in
      let second = there_parts (date_gap_count g) (λ n. in_date_gap g n s) j e in
      gaps_ascend g few i j t s first.0 second.0 second.1 first.1
      (ap is_lt (terms_ascend column (get_or row m 0) (get_or row k 0) [] (AllPairs-from_increasing row rises m k 0 before here) (within k 0 here)))) earlier

  -- the ordinals of a row pass where its texts do
  row_passes : (column : List (List Text)) (i : ℕ) → i < date_gap_count g → (texts : List Text) → ((t : Text) → has_text t texts ≡ true → list_any (has_text t) column ≡ true)
      → list_any (has_term column g i) (ordinals_in column texts) ≡ list_any (in_date_gap g i) texts
  row_passes column i there [] among = refl
  row_passes column i there (t ∷ texts) among =
      ap₂ (λ a b. a || b)
      ((λ j. below_is i (date_gap_count g) there j && in_date_gap g i (term_at column (terms_below column t))) ∙ ap (in_date_gap g i) (term_placed column t (among t (or_left (same_text t t) (has_text t texts) (same_itself t)))))
      (row_passes column i there texts (λ u h. among u (or_right (same_text u t) (has_text u texts) h)))

  pub any_held : (column : List (List Text)) (at i : ℕ) → at < length column → i < date_gap_count g
      → list_any (has_term column g i) (ordinals_in column (get_or column at [])) ≡ list_any (in_date_gap g i) (get_or column at [])
  any_held column at i here there = row_passes column i there (get_or column at []) (λ t h. list_any_at (has_text t) column at [] here h)

  any_text : (i : ℕ) (texts : List Text) → list_any (in_date_gap g i) texts ≡ list_any (in_date_range g (gap i)) (map text texts)
  any_text i [] = refl
  any_text i (t ∷ texts) = ap (λ b. in_date_gap g i t || b) (any_text i texts)

  -- a row of the column tells whether the document is in the bucket of a gap
  pub date_rows : (column : List (List Text)) (blocks : List Block) → map (map text) column ≡ column_of g.field (documents_in blocks) → (bound i at : ℕ) → i < bound → at < document_total blocks
      → list_any (in_date_gap g i) (get_or column at []) ≡ in_bucket (date_range g) (gap i) (place_at blocks at).document
  date_rows column blocks is bound i at here there = any_text i (get_or column at []) ∙ ap (list_any (in_date_range g (gap i))) (row_at text column blocks g.field at is there)
