-- The positions of the parents that have a text, by the ordinals of their texts.
use Rattle.std.proofs.Common.{◌≡◌, ℕ, zero, suc, ◌+◌, ◌<◌, ◌⊎◌, inl, inr, Bool, true, false, cond, ◌&&◌, ◌||◌, ◌==◌, List, [], ◌∷◌, length, get_or, map, replicate, All, refl, sym, ap, ap₂, ◌∙◌, arith, eq-eqb, ne_eqb, zero-add, true≢false}
use Rattle.std.specs.Prelude.{count_by}
use Rattle.std.specs.List.{list_any, items_where_true, range_with_len}
use Rattle.std.proofs.lemmas.Bool.{cases_eq, cases_lt, or_parts}
use Rattle.std.proofs.lemmas.List.{ext_get_or, get_or-map, get_or_past, length-map}
use Rattle.std.proofs.lemmas.List.Folds.{list_any_at}
use Rattle.std.proofs.lemmas.List.FromFn.{fill_by_all, get_or-map-range_with_len, length-map-range_with_len}
use Rattle.fc_spec.specs.documents.Sets.{zip_with}
use Rattle.fc_spec.specs.documents.Val.{Text, same_text}
use Rattle.fc_spec.proofs.words.Texts.{differs, same_itself}
use Rattle.fc_spec.proofs.words.WhereTrue.{length-zip_with}
use Rattle.std.proofs.lemmas.List.Sums.{count_by-le-length}
use Rattle.fc_spec.proofs.words.Counting.{count_by-cons}
use Rattle.fc_docset.specs.Positions.{contains, positions, positions_from}
use Rattle.fc_lists.specs.Among.{is_among}
use Rattle.fc_lists.proofs.OfNumbers.{is_among-positions}
use Rattle.fc_column.specs.Terms.{has_text, ordinals_in, terms_below, terms_of}
use Rattle.fc_column.proofs.SortedTerms.{place_of_term}
use Rattle.fc_column.proofs.TermOrder.{term_placed, terms_ascend}
use Rattle.fc_segment.specs.Ids.{parent_ordinals, parents_having}

-- ---- positions in both of two sets
pub contains_both : (a b : List Bool) (k : ℕ) → length a ≡ length b → contains (zip_with ◌&&◌ a b) k ≡ (contains a k && contains b k)
contains_both [] b k even = refl
contains_both (x ∷ a) [] k even = absurd (omega arith)
contains_both (x ∷ a) (y ∷ b) zero even = refl
contains_both (x ∷ a) (y ∷ b) (suc k) even = contains_both a b k (omega arith)

-- each position of a set is in it
pub positions_in : (set : List Bool) → All (λ at. contains set at ≡ true) (positions set)
positions_in set k d inside =
    let at = get_or (positions set) k d in
    sym (ap (λ n. is_among n (positions set)) (sym (zero-add at)) ∙ is_among-positions 0 set at)
    ∙ list_any_at (λ n. at == n) (positions set) k d inside (eq-eqb at at refl)

pub contains_within : (set : List Bool) (at : ℕ) → contains set at ≡ true → at < length set
contains_within set at is = elim (cases_lt at (length set)) [
  | inl within ↦ within
  | inr past ↦ absurd (true≢false (sym is ∙ get_or_past set at false past))
]

all_both : (n : ℕ) (b : List Bool) → length b ≡ n → zip_with ◌&&◌ (replicate n true) b ≡ b
all_both zero [] even = refl
all_both zero (y ∷ b) even = absurd (omega arith)
all_both (suc n) [] even = absurd (omega arith)
all_both (suc n) (y ∷ b) even = ap (λ l. y ∷ l) (all_both n b (omega arith))

-- where each document is a parent
pub all_having : (t : Text) (parents : List Bool) (texts : List (List Text)) → parents ≡ replicate (length parents) true → length parents ≡ length texts
    → parents_having t parents texts ≡ map (has_text t) texts
all_having t parents texts all even =
    ap (λ l. zip_with ◌&&◌ l (map (has_text t) texts)) all ∙ all_both (length parents) (map (has_text t) texts) (length-map texts (has_text t) ∙ sym even)

from_none : {X : Type 0} (p : X → Bool) (from : ℕ) (parents : List Bool) (xs : List X) → list_any p xs ≡ false → positions_from from (zip_with ◌&&◌ parents (map p xs)) ≡ []
from_none p from [] xs none = refl
from_none p from (b ∷ parents) [] none = refl
from_none p from (b ∷ parents) (x ∷ xs) none =
    let parts = or_parts (p x) (list_any p xs) none in
    ap (λ (c : Bool). items_where_true (c ∷ zip_with ◌&&◌ parents (map p xs)) (range_with_len from (suc (length (zip_with ◌&&◌ parents (map p xs)))))) (ap (λ c. b && c) parts.0 ∙ neither b)
    ∙ from_none p (from + 1) parents xs parts.1
  where
    neither : (c : Bool) → (c && false) ≡ false
    neither true = refl
    neither false = refl

-- where no document has the text
pub none_having : (t : Text) (parents : List Bool) (texts : List (List Text)) → list_any (has_text t) texts ≡ false → positions (parents_having t parents texts) ≡ []
none_having t parents texts none = from_none (has_text t) 0 parents texts none

-- a set of all positions
pub all_in : (set : List Bool) → count_by (λ here. here) set ≡ length set → set ≡ replicate (length set) true
all_in [] all = refl
all_in (true ∷ set) all = ap (λ l. true ∷ l) (all_in set (omega (arith, all, count_by-cons (λ here. here) true set)))
all_in (false ∷ set) all = absurd (omega (arith, all, count_by-cons (λ here. here) false set, count_by-le-length (λ here. here) set))

-- ---- ordinals and texts
module _ (column : List (List Text)) where
  term : ℕ → Text
  term ord = get_or (terms_of column) ord []

  -- two texts are one where their ordinals are
  same_ordinal : (ord : ℕ) (t : Text) → ord < length (terms_of column) → list_any (has_text t) column ≡ true → (ord == terms_below column t) ≡ same_text (term ord) t
  unfolding term
  same_ordinal ord t within there = go (cases_eq ord (terms_below column t))
    where
      go : ((ord ≡ terms_below column t) ⊎ (ord ≡ terms_below column t → ⊥)) → (ord == terms_below column t) ≡ same_text (get_or (terms_of column) ord []) t
      go (inl same) =
          eq-eqb ord (terms_below column t) same
          ∙ sym (ap (λ s. same_text s t) (ap (λ n. get_or (terms_of column) n []) same ∙ term_placed column t there) ∙ same_itself t)
      go (inr other) =
          ne_eqb ord (terms_below column t) other
          ∙ sym (differs (get_or (terms_of column) ord []) t (λ same. other (sym (ap (terms_below column) (sym same) ∙ place_of_term (terms_of column) (terms_ascend column) ord [] within))))

  row_has : (ord : ℕ) (row : List Text) → ord < length (terms_of column) → All (λ t. list_any (has_text t) column ≡ true) row → is_among ord (ordinals_in column row) ≡ has_text (term ord) row
  unfolding term
  row_has ord [] within there = refl
  row_has ord (t ∷ row) within there =
      ap₂ (λ a b. a || b) (same_ordinal ord t within (there 0 t (omega arith))) (row_has ord row within (λ k d below. there (suc k) d (omega arith)))

  there_in_row : (at : ℕ) → at < length column → All (λ t. list_any (has_text t) column ≡ true) (get_or column at [])
  there_in_row at inside k d below =
      let row = get_or column at [] in
      let t = get_or row k d in
      list_any_at (has_text t) column at [] inside (list_any_at (same_text t) row k d below (same_itself t))

  module _ (parents : List Bool) (even : length parents ≡ length column) where
    mark_has : (ord at : ℕ) → ord < length (terms_of column) → at < length column → is_among ord (parent_ordinals column parents at) ≡ (contains parents at && has_text (term ord) (get_or column at []))
    unfolding term
    mark_has ord at within inside = go (contains parents at)
      where
        go : (here : Bool) → is_among ord (cond here (ordinals_in column (get_or column at [])) []) ≡ (here && has_text (get_or (terms_of column) ord []) (get_or column at []))
        go true = row_has ord (get_or column at []) within (there_in_row at inside)
        go false = refl

    set_has : (ord : ℕ) → ord < length (terms_of column) → map (is_among ord) (map (parent_ordinals column parents) (range_with_len 0 (length column))) ≡ parents_having (term ord) parents column
    unfolding term
    set_has ord within =
        let n = length column in
        let rows = map (parent_ordinals column parents) (range_with_len 0 n) in
        let t = get_or (terms_of column) ord [] in
        let long = length-map rows (is_among ord) ∙ length-map-range_with_len (parent_ordinals column parents) 0 n in
        let size = length-zip_with ◌&&◌ parents (map (has_text t) column) (even ∙ sym (length-map column (has_text t))) in
        ext_get_or false (map (is_among ord) rows) (parents_having t parents column) (long ∙ sym (size ∙ even))
        (λ at inside.
        let below : at < n = omega (arith, long) in
        get_or-map (is_among ord) rows at [] false (omega (arith, long, length-map rows (is_among ord)))
        ∙ ap (is_among ord) (get_or-map-range_with_len (parent_ordinals column parents) 0 n at at [] below (omega arith))
        ∙ mark_has ord at within below
        ∙ ap (λ b. contains parents at && b) (sym (get_or-map (has_text t) column at [] false below))
        ∙ sym (contains_both parents (map (has_text t) column) at (even ∙ sym (length-map column (has_text t)))))

    pub lists_are : map (λ number. positions (map (is_among number) (map (parent_ordinals column parents) (range_with_len 0 (length column))))) (range_with_len 0 (length (terms_of column)))
        ≡ map (λ t. positions (parents_having t parents column)) (terms_of column)
    unfolding term
    lists_are =
        let rows = map (parent_ordinals column parents) (range_with_len 0 (length column)) in
        let lists = map (λ t. positions (parents_having t parents column)) (terms_of column) in
        sym (fill_by_all (λ number. positions (map (is_among number) rows)) lists (length (terms_of column)) [] (length-map (terms_of column) (λ t. positions (parents_having t parents column)))
        (λ ord within. get_or-map (λ t. positions (parents_having t parents column)) (terms_of column) ord [] [] within ∙ ap positions (sym (set_has ord within))))
