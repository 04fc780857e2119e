-- The values that were given, field by field.
use Rattle.std.proofs.Common.{◌≡◌, ℕ, ◌<◌, ◌+◌, List, [], ◌++◌, length, map, replicate, set, arith, sym, subst, ◌∙◌, inl, inr}
use Rattle.std.specs.List.{range_with_len}
use Rattle.std.proofs.lemmas.Bool.{cases_eq}
use Rattle.std.proofs.lemmas.List.{get_or-replicate, get_or-set_other, get_or-set_same, length-replicate, length-set}
use Rattle.std.proofs.lemmas.List.FromFn.{fill_by_all, get_or-map-range_with_len, length-map-range_with_len}
use Rattle.std.proofs.lemmas.Map.Keys.{sorted_from_all_adjacent}
use Rattle.fc_spec.specs.documents.Val.{Val, text, distinct, val_cmp}
use Rattle.fc_spec.specs.documents.ValOrder.{val_cmp_total}
use Rattle.fc_spec.specs.documents.Columns.{IsAscending}
use Rattle.fc_spec.specs.documents.Document.{Document, values_of}
use Rattle.fc_spec.proofs.documents.Ascending.{same_ascending, distinct_ascends, has_val-distinct}
use Rattle.fc_docs.specs.Direct.{Given, document_given, given_to, giving}
use Rattle.fc_docs.proofs.GivenValues.{given_elsewhere, given_here}

abbrev pub gathered : ℕ → Given → Document
gathered fields ps = map (λ n. given_to n ps) (range_with_len 0 fields)

length-gathered : (fields : ℕ) (ps : Given) → length (gathered fields ps) ≡ fields
length-gathered fields ps = length-map-range_with_len (λ n. given_to n ps) 0 fields

values_of-gathered : (fields : ℕ) (ps : Given) (k : ℕ) → k < fields → values_of (gathered fields ps) k ≡ given_to k ps
values_of-gathered fields ps k within = get_or-map-range_with_len (λ n. given_to n ps) 0 fields k k [] within (omega arith)

pub gathered-nothing : (fields : ℕ) → gathered fields [] ≡ replicate fields []
gathered-nothing fields =
    sym (fill_by_all (λ n. given_to n []) (replicate fields []) fields [] (length-replicate fields []) (λ k within. get_or-replicate fields k [] [] within))

-- the values of one more field
pub gathered-more : (fields j : ℕ) (ps : Given) (vs : List Val) → j < fields → values_of (gathered fields ps) j ≡ [] → gathered fields (ps ++ giving j vs) ≡ set (gathered fields ps) j vs
gathered-more fields j ps vs below none =
    let before : given_to j ps ≡ [] = sym (values_of-gathered fields ps j below) ∙ none in
    sym (fill_by_all (λ n. given_to n (ps ++ giving j vs)) (set (gathered fields ps) j vs) fields [] (length-set _ _ _ ∙ length-gathered fields ps)
    (λ k within. elim (cases_eq k j) [
      | inl is ↦ rw is (get_or-set_same (gathered fields ps) j vs [] (rw (length-gathered fields ps) below) ∙ sym (given_here j ps vs before))
      | inr apart ↦ get_or-set_other (gathered fields ps) j k vs [] apart ∙ values_of-gathered fields ps k within ∙ sym (given_elsewhere k j ps vs apart)
    ]))

-- ---- values that ascend are different
ascending_distinct : (vs : List Val) → IsAscending val_cmp vs → distinct vs ≡ vs
ascending_distinct vs up =
    same_ascending (distinct vs) vs (distinct_ascends vs) (sorted_from_all_adjacent val_cmp_total vs (text []) (λ k within. up k (k + 1) (text []) (omega arith) within)) (λ v. has_val-distinct v vs)

pub document_given-gathered : (fields : ℕ) (ps : Given) → ((k : ℕ) → k < fields → IsAscending val_cmp (values_of (gathered fields ps) k)) → document_given fields ps ≡ gathered fields ps
document_given-gathered fields ps ascend =
    sym (fill_by_all (λ n. distinct (given_to n ps)) (gathered fields ps) fields [] (length-gathered fields ps)
    (λ k within. values_of-gathered fields ps k within ∙ sym (ascending_distinct (given_to k ps) (subst (IsAscending val_cmp) (values_of-gathered fields ps k within) (ascend k within)))))
