-- The terms of a column are its texts, each once.
use Rattle.std.proofs.Common.{◌≡◌, ℕ, suc, ◌+◌, ◌<◌, ◌≤◌, ◌⊎◌, inl, inr, true, false, ◌||◌, List, [], ◌∷◌, length, get_or, map, count_by, All, refl, sym, ap, ap₂, ◌∙◌, arith}
use Rattle.std.proofs.lemmas.Bool.{cases_lt}
use Rattle.std.proofs.lemmas.Cmp.{nat_list_cmp_total, tied_itself}
use Rattle.std.proofs.lemmas.List.{get_or-map, length-map}
use Rattle.std.proofs.lemmas.List.Folds.{list_any-append, list_any_at, list_any_none}
use Rattle.std.proofs.lemmas.Map.Lookups.{exact_bytes}
use Rattle.std.specs.List.{list_any, flat_map}
use Rattle.std.specs.List.Sorted.{IsStrictlyIncreasing}
use Rattle.std.specs.Ordering.{is_lt, is_eq, ordering_reverse}
use Rattle.std.specs.declared.cmp.Ordering.TheVariants.{Less, Equal, Greater}
use Rattle.fc_spec.specs.documents.Val.{Text, Val, text, long, text_cmp, same_text, has_val, distinct}
use Rattle.fc_spec.specs.documents.Columns.{IsAscending, texts_in}
use Rattle.fc_spec.proofs.documents.Ascending.{has_val-distinct}
use Rattle.fc_column.specs.Terms.{terms_of, has_text}
use Rattle.fc_column.specs.Dictionary.{term_at}
use Rattle.fc_column.proofs.SortedTerms.{earlier, place_of_term}

-- ---- a text among texts
pub has_val-texts : (t : Text) (ts : List Text) → has_val (text t) (map text ts) ≡ has_text t ts
has_val-texts t [] = refl
has_val-texts t (u ∷ us) = ap (λ b. is_eq (text_cmp t u) || b) (has_val-texts t us)

has_text-texts_in : (t : Text) (vs : List Val) → has_text t (texts_in vs) ≡ has_val (text t) vs
has_text-texts_in t [] = refl
has_text-texts_in t (text u ∷ vs) = ap (λ b. is_eq (text_cmp t u) || b) (has_text-texts_in t vs)
has_text-texts_in t (long z ∷ vs) = has_text-texts_in t vs

pub has_text-flat : (t : Text) (column : List (List Text)) → has_text t (flat_map (λ texts. texts) column) ≡ list_any (has_text t) column
has_text-flat t [] = refl
has_text-flat t (texts ∷ column) = list_any-append _ texts (flat_map (λ ts. ts) column) ∙ ap (λ b. has_text t texts || b) (has_text-flat t column)

pub has_text-terms_of : (t : Text) (column : List (List Text)) → has_text t (terms_of column) ≡ list_any (has_text t) column
has_text-terms_of t column =
    let all = flat_map (λ texts. texts) column in
    has_text-texts_in t (distinct (map text all)) ∙ has_val-distinct (text t) (map text all) ∙ has_val-texts t all ∙ has_text-flat t column

-- ---- ordinals of terms
pub ordinals_back : (terms : List Text) → IsAscending text_cmp terms → (row : List ℕ) → All (λ ord. ord < length terms) row
    → map (λ t. count_by (λ term. is_lt (text_cmp term t)) terms) (map (term_at terms) row) ≡ row
ordinals_back terms sorted [] within = refl
ordinals_back terms sorted (ord ∷ row) within =
    ap₂ (λ o l. o ∷ l) (place_of_term terms sorted ord [] (within 0 ord (omega arith)))
    (ordinals_back terms sorted row (λ k d below. within (suc k) d (omega arith)))

-- the terms at two places compare as the places do
pub ordinals_rise : (terms : List Text) → IsAscending text_cmp terms → (low high : ℕ) → low < length terms → high < length terms
    → text_cmp (term_at terms low) (term_at terms high) ≡ Less → low < high
ordinals_rise terms sorted low high low_within high_within less = go (cases_lt low high)
  where
    not_before : text_cmp (term_at terms high) (term_at terms low) ≡ Less → ⊥
    not_before more =
        let back = nat_list_cmp_total.antisymm (term_at terms low) (term_at terms high) ∙ ap ordering_reverse more in
        let wrong = sym less ∙ back in cc

    not_same : term_at terms high ≡ term_at terms low → ⊥
    not_same same =
        let tied = ap (text_cmp (term_at terms low)) same ∙ tied_itself nat_list_cmp_total (term_at terms low) in
        let wrong = sym less ∙ tied in cc

    go : ((low < high) ⊎ (high ≤ low)) → low < high
    go (inl before) = before
    go (inr after) = absurd (elim (earlier terms sorted high low [] after low_within) [ inl more ↦ not_before more | inr same ↦ not_same same ])

-- the ordinals of ascending texts
pub row_rises : (terms : List Text) → IsAscending text_cmp terms → (row : List ℕ) → All (λ ord. ord < length terms) row
    → IsAscending text_cmp (map (term_at terms) row) → IsStrictlyIncreasing row
row_rises terms sorted row within ascending k inside =
    let size = length-map row (term_at terms) in
    ordinals_rise terms sorted (get_or row k 0) (get_or row (k + 1) 0) (within k 0 (omega arith)) (within (k + 1) 0 inside)
    (sym (ap₂ text_cmp (get_or-map (term_at terms) row k 0 [] (omega arith)) (get_or-map (term_at terms) row (k + 1) 0 [] inside))
    ∙ ascending k (k + 1) [] (omega arith) (omega (arith, size)))

-- ---- a text that is found, and one that is not
pub text_at_place : (terms : List Text) → IsAscending text_cmp terms → (t : Text) (place : ℕ) → place < length terms → text_cmp (get_or terms place t) t ≡ Equal
    → (has_text t terms ≡ true) × (count_by (λ term. is_lt (text_cmp term t)) terms ≡ place)
text_at_place terms sorted t place inside tied =
    let is : get_or terms place t ≡ t = exact_bytes (get_or terms place t) t tied in (
      list_any_at (same_text t) terms place t inside (ap (λ u. same_text t u) is ∙ ap is_eq (tied_itself nat_list_cmp_total t)),
      ap (λ u. count_by (λ term. is_lt (text_cmp term u)) terms) (sym is) ∙ place_of_term terms sorted place t inside,
    )

pub text_missing : (terms : List Text) (t : Text) (place : ℕ)
    → ((k : ℕ) (d : Text) → 0 ≤ k → k < place → text_cmp (get_or terms k d) t ≡ Less) → ((k : ℕ) (d : Text) → place ≤ k → k < length terms → text_cmp (get_or terms k d) t ≡ Greater)
    → has_text t terms ≡ false
text_missing terms t place front rest = list_any_none (same_text t) terms (λ k d inside. go k d inside (cases_lt k place))
  where
    go : (k : ℕ) (d : Text) → k < length terms → ((k < place) ⊎ (place ≤ k)) → same_text t (get_or terms k d) ≡ false
    go k d inside (inl below) =
        ap is_eq (nat_list_cmp_total.antisymm t (get_or terms k d) ∙ ap ordering_reverse (front k d (omega arith) below))
    go k d inside (inr above) =
        ap is_eq (nat_list_cmp_total.antisymm t (get_or terms k d) ∙ ap ordering_reverse (rest k d above inside))
