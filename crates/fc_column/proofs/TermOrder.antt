-- The terms of a column ascend.
use Rattle.std.proofs.Common.{◌≡◌, zero, suc, true, All, List, [], ◌∷◌, get_or, map, count_by, sym, ap, ◌∙◌, arith}
use Rattle.std.specs.List.{AllByRecursion, flat_map, list_any}
use Rattle.std.specs.List.Sorted.{IsStrictlySortedBy}
use Rattle.std.specs.Ordering.{is_lt}
use Rattle.std.specs.declared.cmp.Ordering.TheVariants.{Less}
use Rattle.std.proofs.lemmas.List.{get_or_default}
use Rattle.std.proofs.lemmas.List.Folds.{Any-from_list_any}
use Rattle.std.proofs.lemmas.List.Kept.{AllPairs-cons}
use Rattle.fc_spec.specs.documents.Columns.{IsAscending, texts_in}
use Rattle.fc_spec.specs.documents.Val.{Text, Val, text, long, val_cmp, text_cmp, same_text, distinct}
use Rattle.fc_spec.proofs.documents.Ascending.{distinct_ascends}
use Rattle.fc_spec.proofs.words.Texts.{equal}
use Rattle.fc_column.specs.Terms.{terms_of, terms_below, has_text}
use Rattle.fc_column.proofs.SortedTerms.{place_of_term}
use Rattle.fc_column.proofs.TermLists.{has_text-terms_of}

texts_above : (t : Text) (vs : List Val) → AllByRecursion (λ v. val_cmp (text t) v ≡ Less) vs → All (λ u. text_cmp t u ≡ Less) (texts_in vs)
texts_above t [] above = λ k d inside. absurd (omega arith)
texts_above t (long z ∷ vs) above = texts_above t vs above.1
texts_above t (text u ∷ vs) above = with_first u (texts_in vs) above.0 (texts_above t vs above.1)
  where
    with_first : (u : Text) (us : List Text) → text_cmp t u ≡ Less → All (λ w. text_cmp t w ≡ Less) us → All (λ w. text_cmp t w ≡ Less) (u ∷ us)
    with_first u us first rest zero d inside = first
    with_first u us first rest (suc k) d inside = rest k d (omega arith)

texts_ascend : (vs : List Val) → IsStrictlySortedBy val_cmp vs → IsAscending text_cmp (texts_in vs)
unfolding IsStrictlySortedBy
texts_ascend [] sorted = λ i j d order inside. absurd (omega arith)
texts_ascend (long z ∷ vs) sorted = texts_ascend vs sorted.1
texts_ascend (text t ∷ vs) sorted = AllPairs-cons (λ low high. text_cmp low high ≡ Less) t (texts_in vs) (texts_above t vs sorted.0) (texts_ascend vs sorted.1)

pub terms_ascend : (column : List (List Text)) → IsAscending text_cmp (terms_of column)
terms_ascend column = texts_ascend (distinct (map text (flat_map (λ texts. texts) column))) (distinct_ascends (map text (flat_map (λ texts. texts) column)))

-- a text of the column stands at its ordinal
pub term_placed : (column : List (List Text)) (t : Text) → list_any (has_text t) column ≡ true → get_or (terms_of column) (terms_below column t) [] ≡ t
term_placed column t among =
    let terms = terms_of column in
    let found = Any-from_list_any (same_text t) terms (has_text-terms_of t column ∙ among) in
    let k = found.0 in
    let is : get_or terms k [] ≡ t = get_or_default terms k [] found.1 found.2 ∙ found.3 ∙ sym (equal t found.1 found.4) in
    let placed : terms_below column t ≡ k = ap (λ (u : Text). count_by (λ term. is_lt (text_cmp term u)) terms) (sym is) ∙ place_of_term terms (terms_ascend column) k [] found.2 in
    ap (λ n. get_or terms n []) placed ∙ is
