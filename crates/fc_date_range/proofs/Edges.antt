-- The edges of a range ascend.
use Rattle.std.proofs.Common.{◌≡◌, ◌+◌, ◌<◌, ℕ, true, List, [], ◌∷◌, length, ap, arith}
use Rattle.std.specs.List.Sorted.{IsStrictlySortedBy}
use Rattle.std.specs.Ordering.{is_lt}
use Rattle.std.specs.declared.cmp.Ordering.TheVariants.{Less}
use Rattle.std.proofs.lemmas.List.Kept.{AllPairs-cons}
use Rattle.std.proofs.lemmas.Map.Keys.{sorted_tail}
use Rattle.std.proofs.lemmas.Map.Views.{All-after_first}
use Rattle.fc_spec.specs.documents.Columns.{IsAscending}
use Rattle.fc_spec.specs.documents.Val.{Text, text_cmp}
use Rattle.fc_spec.specs.requests.DateGaps.{date_gap_count, high_date, is_before, last_date, low_date}
use Rattle.fc_spec.specs.requests.Request.{DateRange}
use Rattle.fc_facet.specs.RangeGaps.{HasFewEdges}

pub ascending : (ts : List Text) → IsStrictlySortedBy text_cmp ts → IsAscending text_cmp ts
ascending [] sorted = λ i j d order inside. absurd (omega arith)
ascending (t ∷ ts) sorted = AllPairs-cons (λ low high. text_cmp low high ≡ Less) t ts (All-after_first text_cmp t ts sorted) (ascending ts (sorted_tail text_cmp t ts sorted))

module _ (g : DateRange) (few : HasFewEdges g) where
  pub edge_before : (i j : ℕ) → i < j → j < length g.edges → is_before (low_date g i) (low_date g j) ≡ true
  edge_before i j order inside = ap is_lt (ascending g.edges few.ascending i j [] order inside)

  -- a gap's ends, and the range's where there is a gap
  pub ends_in_order : (i : ℕ) → i < date_gap_count g → is_before (low_date g i) (high_date g i) ≡ true
  ends_in_order i there = edge_before i (i + 1) (omega arith) (omega arith)

  pub range_in_order : 0 < date_gap_count g → is_before (low_date g 0) (last_date g) ≡ true
  range_in_order some = edge_before 0 (date_gap_count g) some (let one = few.some in omega arith)
