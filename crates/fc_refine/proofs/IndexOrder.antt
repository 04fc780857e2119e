-- Entries in index order again.
use Rattle.std.proofs.Common.{◌≡◌, List, map, true, false, sym, ap, ◌∙◌, arith}
use Rattle.std.specs.Prelude.{AllPairs, None}
use Rattle.std.specs.Ordering.{is_lt, ordering_then}
use Rattle.std.proofs.lemmas.List.{get_or-map, length-map}
use Rattle.std.proofs.lemmas.List.Sorted.{IsPermutation-refl}
use Rattle.std.proofs.lemmas.Map.Keys.{Less-from_sorted}
use Rattle.fc_spec.specs.documents.Val.{val_cmp}
use Rattle.fc_spec.specs.laws.SortingLaw.{IsSortOf}
use Rattle.fc_spec.specs.requests.Request.{Sort, by_index}
use Rattle.fc_spec.specs.requests.Ranks.{Entry, is_ahead}
use Rattle.fc_spec.proofs.requests.SortedEntries.{page_is_cut}
use Rattle.fc_refine.specs.Entries.{HaveAscendingValues}

-- a list is sorted in one way
same_sort : (s : Sort) (V L M : List Entry) → IsSortOf s V L → IsSortOf s V M → L ≡ M
same_sort s V L M h k = sym (page_is_cut s 0 None V L h) ∙ page_is_cut s 0 None V M k

abbrev pub index_order : Sort
index_order = record { by = by_index; descending = false }

ascending_ahead : (es : List Entry) → HaveAscendingValues es → AllPairs (λ a b. is_ahead index_order a b ≡ true) es
ascending_ahead es h i j d l m =
    let known = length-map es (λ (e : Entry). e.val) in
    let first = get_or-map (λ (e : Entry). e.val) es i d d.val (omega arith) in
    let later = get_or-map (λ (e : Entry). e.val) es j d d.val m in
    let below = Less-from_sorted val_cmp (map (λ e. e.val) es) i j d.val h l (omega (arith, known)) in
    ap (λ o. is_lt (ordering_then o o)) (rw (first, later) at below)

-- sorted by their values they stand as they did
pub ascending_again : (es fs : List Entry) → HaveAscendingValues es → IsSortOf index_order es fs → fs ≡ es
ascending_again es fs h sorted = same_sort index_order es fs es sorted (record { members = IsPermutation-refl es; ahead = ascending_ahead es h })
