-- Terms in ascending order: what is below a text stands in front, and the place of a term is how many are below it.
use Rattle.std.proofs.Common.{◌≡◌, ℕ, ◌+◌, ◌<◌, ◌≤◌, ◌⊎◌, inl, inr, Bool, true, false, List, length, get_or, count_by, refl, sym, ap, ◌∙◌, arith}
use Rattle.std.proofs.lemmas.Bool.{cases_lt}
use Rattle.std.proofs.lemmas.Cmp.{nat_list_cmp_total, tied_itself}
use Rattle.std.proofs.lemmas.List.{get_or_default}
use Rattle.std.proofs.lemmas.List.Sorted.{searchable_from_sorted}
use Rattle.std.proofs.lemmas.Map.Lookups.{exact_bytes}
use Rattle.std.specs.List.Sorted.{IsPartitionedBy, IsNonDecreasingBy}
use Rattle.std.specs.Ordering.{is_lt, is_le, ordering_reverse, ordering_index}
use Rattle.std.specs.declared.cmp.Ordering.{Ordering}
use Rattle.std.specs.declared.cmp.Ordering.TheVariants.{Less, Equal, Greater}
use Rattle.fc_spec.specs.documents.Val.{Text, text_cmp}
use Rattle.fc_spec.specs.documents.Columns.{IsAscending}
use Rattle.fc_spec.proofs.words.Orderings.{Less-from_is_lt}
use Rattle.fc_lists.proofs.Counts.{count_at_point}

-- ---- answers of a comparison
cases_is_le : (o : Ordering) → is_le o ≡ true → (o ≡ Less) ⊎ (o ≡ Equal)
cases_is_le Less e = inl refl
cases_is_le Equal e = inr refl
cases_is_le Greater e = cc

module _ (terms : List Text) (sorted : IsAscending text_cmp terms) where
  -- a term is the later one, or stands before it
  pub earlier : (i j : ℕ) (d : Text) → i ≤ j → j < length terms → (text_cmp (get_or terms i d) (get_or terms j d) ≡ Less) ⊎ (get_or terms i d ≡ get_or terms j d)
  earlier i j d order within = go (cases_lt i j)
    where
      go : ((i < j) ⊎ (j ≤ i)) → (text_cmp (get_or terms i d) (get_or terms j d) ≡ Less) ⊎ (get_or terms i d ≡ get_or terms j d)
      go (inl before) = inl (sorted i j d before within)
      go (inr same) = inr (let e : i ≡ j = omega arith in ap (λ k. get_or terms k d) e)

  pub below_in_front : (t : Text) → IsPartitionedBy (λ term. is_lt (text_cmp term t)) terms
  below_in_front t i j d order within below = go (earlier i j d order within)
    where
      go : ((text_cmp (get_or terms i d) (get_or terms j d) ≡ Less) ⊎ (get_or terms i d ≡ get_or terms j d)) → is_lt (text_cmp (get_or terms i d) t) ≡ true
      go (inl less) =
          ap is_lt (nat_list_cmp_total.trans (get_or terms i d) (get_or terms j d) t less (Less-from_is_lt (text_cmp (get_or terms j d) t) below))
      go (inr same) = ap (λ term. is_lt (text_cmp term t)) same ∙ below

  pub up_to_in_front : (t : Text) → IsPartitionedBy (λ term. is_le (text_cmp term t)) terms
  up_to_in_front t i j d order within up_to = go (earlier i j d order within) (cases_is_le (text_cmp (get_or terms j d) t) up_to)
    where
      go : ((text_cmp (get_or terms i d) (get_or terms j d) ≡ Less) ⊎ (get_or terms i d ≡ get_or terms j d))
          → ((text_cmp (get_or terms j d) t ≡ Less) ⊎ (text_cmp (get_or terms j d) t ≡ Equal)) → is_le (text_cmp (get_or terms i d) t) ≡ true
      go (inl less) (inl below) = ap is_le (nat_list_cmp_total.trans (get_or terms i d) (get_or terms j d) t less below)
      go (inl less) (inr tied) =
          ap is_le (ap (text_cmp (get_or terms i d)) (sym (exact_bytes (get_or terms j d) t tied)) ∙ less)
      go (inr same) _ = ap (λ term. is_le (text_cmp term t)) same ∙ up_to

  -- what a binary search asks for
  pub searchable : (t : Text) → IsNonDecreasingBy (λ term. ordering_index (text_cmp term t)) terms
  searchable t =
      searchable_from_sorted nat_list_cmp_total (λ term. term) terms t
      (λ k d from within. ap is_lt (nat_list_cmp_total.antisymm (get_or terms (k + 1) d) (get_or terms k d) ∙ ap ordering_reverse (sorted k (k + 1) d (omega arith) within)))

  -- the place of a term
  pub place_of_term : (ord : ℕ) (d : Text) → ord < length terms → count_by (λ term. is_lt (text_cmp term (get_or terms ord d))) terms ≡ ord
  place_of_term ord d within =
      count_at_point (λ term. is_lt (text_cmp term (get_or terms ord d))) terms ord (omega arith)
      (λ k e below. ap is_lt (before k e below)) (λ k e from inside. after k e from inside (cases_lt ord k))
    where
      at : (k : ℕ) (e : Text) → k < length terms → get_or terms k e ≡ get_or terms k d
      at k e inside = get_or_default terms k e d inside

      before : (k : ℕ) (e : Text) → k < ord → text_cmp (get_or terms k e) (get_or terms ord d) ≡ Less
      before k e below = ap (λ term. text_cmp term (get_or terms ord d)) (at k e (omega arith)) ∙ sorted k ord d below within

      after : (k : ℕ) (e : Text) → ord ≤ k → k < length terms → ((ord < k) ⊎ (k ≤ ord)) → is_lt (text_cmp (get_or terms k e) (get_or terms ord d)) ≡ false
      after k e from inside (inl later) =
          ap is_lt (ap (λ term. text_cmp term (get_or terms ord d)) (at k e inside)
          ∙ nat_list_cmp_total.antisymm (get_or terms k d) (get_or terms ord d) ∙ ap ordering_reverse (sorted ord k d later inside))
      after k e from inside (inr here) =
          let same : k ≡ ord = omega arith in
          ap is_lt (ap (λ term. text_cmp term (get_or terms ord d)) (at k e inside ∙ ap (λ j. get_or terms j d) same) ∙ tied_itself nat_list_cmp_total (get_or terms ord d))

  -- a place is where the terms below a text end
  pub terms_in_front : (p : Text → Bool) (place : ℕ) → place ≤ length terms
      → ((k : ℕ) (d : Text) → 0 ≤ k → k < place → p (get_or terms k d) ≡ true) → ((k : ℕ) (d : Text) → place ≤ k → k < length terms → p (get_or terms k d) ≡ false)
      → count_by p terms ≡ place
  terms_in_front p place within front rest = count_at_point p terms place within (λ k d below. front k d (omega arith) below) rest
