-- The positions of the ordinals from one up to another, in a column with its dictionary.
use Rattle.std.proofs.Common.{◌≡◌, ℕ, ◌<◌, ◌≤◌, Bool, false, min, List, [], length, get_or, map, slice_range, count_by, All, sym, ap, ap₂, ◌∙◌, subst, arith}
use Rattle.std.specs.List.{filter, flat_map, range_with_len}
use Rattle.std.specs.List.Sorted.{IsPermutation}
use Rattle.std.specs.Ordering.{is_lt}
use Rattle.std.proofs.lemmas.List.{length-map}
use Rattle.std.proofs.lemmas.List.Elements.{filter_agree}
use Rattle.std.proofs.lemmas.List.Sorted.{IsPermutation-refl}
use Rattle.fc_spec.specs.documents.Val.{Text, text_cmp}
use Rattle.fc_spec.specs.documents.Columns.{IsAscending}
use Rattle.fc_lists.specs.Among.{is_among}
use Rattle.fc_column.specs.Terms.{terms_of, has_from_to, ordinals_in}
use Rattle.fc_column.specs.Dictionary.{term_at}
use Rattle.fc_column.proofs.PermutedPositions.{AreSingle, none_pass, single_back, span_once}
use Rattle.fc_column.proofs.TermLists.{ordinals_back}
use Rattle.fc_column.proofs.TermPositions.{places, span_among, from_to_min, from_to_none, row_at_map, all_at}

module _ (terms : List Text) (rows : List (List ℕ)) (column : List (List Text))
    (known : terms_of column ≡ terms) (sorted : IsAscending text_cmp terms)
    (within : All (All (λ ord. ord < length terms)) rows) (is : map (map (term_at terms)) rows ≡ column) (first past : ℕ) where
  abbrev top : ℕ
  top = min past (length terms)

  abbrev in_span : ℕ → Bool
  in_span at = has_from_to first past (ordinals_in column (get_or column at []))

  -- the ordinals of a position's texts are those of the position
  ordinals_at : (at : ℕ) → get_or rows at [] ≡ ordinals_in column (get_or column at [])
  ordinals_at at =
      sym (ap₂ (λ ts l. map (λ t. count_by (λ term. is_lt (text_cmp term t)) ts) l) known (ap (λ l. get_or l at []) (sym is) ∙ row_at_map (term_at terms) rows at)
      ∙ ordinals_back terms sorted (get_or rows at []) (all_at (λ ord. ord < length terms) rows at within))

  tested : (at : ℕ) → has_from_to first top (get_or rows at []) ≡ in_span at
  tested at =
      from_to_min first past (length terms) (get_or rows at []) (all_at (λ ord. ord < length terms) rows at within)
      ∙ ap (has_from_to first past) (ordinals_at at)

  pub listed : first ≤ top → (at : ℕ) → is_among at (flat_map (λ list. list) (slice_range (map (places rows) (range_with_len 0 (length terms))) first top)) ≡ in_span at
  listed order at = span_among rows (length terms) first top at order (omega arith) ∙ tested at

  pub none_listed : top ≤ first → (at : ℕ) → in_span at ≡ false
  none_listed crossed at = sym (tested at) ∙ from_to_none first top (get_or rows at []) crossed

  pub listed_once : first ≤ top → AreSingle column
      → IsPermutation (flat_map (λ list. list) (slice_range (map (places rows) (range_with_len 0 (length terms))) first top)) (filter in_span (range_with_len 0 (length column)))
  listed_once order single =
      let rows_single = single_back (term_at terms) rows (subst AreSingle (sym is) single) in
      let size = sym (length-map rows (map (term_at terms))) ∙ ap length is in
      let same = filter_agree (λ at. has_from_to first top (get_or rows at [])) in_span tested (range_with_len 0 (length rows)) ∙ ap (λ n. filter in_span (range_with_len 0 n)) size in
      subst (IsPermutation (flat_map (λ (list : List ℕ). list) (slice_range (map (places rows) (range_with_len 0 (length terms))) first top))) same
      (span_once rows rows_single (length terms) first top order (omega arith))

  pub none_once : top ≤ first → IsPermutation [] (filter in_span (range_with_len 0 (length column)))
  none_once crossed =
      let all = range_with_len 0 (length column) in
      subst (IsPermutation []) (sym (filter_agree in_span (λ at. false) (none_listed crossed) all ∙ none_pass all)) (IsPermutation-refl [])
