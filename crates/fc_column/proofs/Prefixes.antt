-- Terms that begin with a prefix stand behind those that are below it.
use Rattle.std.proofs.Common.{◌≡◌, ℕ, ◌<◌, ◌≤◌, ◌⊎◌, inl, inr, Bool, true, false, cond, ◌&&◌, ◌||◌, ◌==◌, nat_eq, nat_le, nat_lt, List, [], ◌∷◌, length, get_or, refl, sym, ap, ap₂, ◌∙◌, arith, lt-ltb, eq-eqb, ne_eqb, eqb-true}
use Rattle.std.proofs.lemmas.Bool.{cases_order, cases_lt, le-leb, lt-leb, le-ltb, false≢true}
use Rattle.std.specs.List.{starts_with}
use Rattle.std.specs.List.Sorted.{IsPartitionedBy}
use Rattle.std.specs.Ordering.{is_lt, nat_cmp, ordering_then}
use Rattle.std.specs.declared.cmp.Ordering.TheVariants.{Less, Equal, Greater}
use Rattle.fc_spec.specs.documents.Val.{Text, text_cmp}
use Rattle.fc_spec.specs.documents.Columns.{IsAscending}
use Rattle.fc_column.proofs.SortedTerms.{earlier}

-- the text begins with the prefix, or is below it
abbrev pub is_up_to_prefix : Text → Text → Bool
is_up_to_prefix prefix t = is_lt (text_cmp t prefix) || starts_with nat_eq t prefix

or_true : (b : Bool) → (b || true) ≡ true
or_true true = refl
or_true false = refl

-- ---- numbers that compare
less : (x y : ℕ) → x < y → nat_cmp x y ≡ Less
less x y e = ap (λ b. cond b Less (cond (x == y) Equal Greater)) (lt-ltb x y e)

even : (x y : ℕ) → x ≡ y → nat_cmp x y ≡ Equal
even x y e = ap₂ (λ a b. cond a Less (cond b Equal Greater)) (le-ltb x y (omega arith)) (eq-eqb x y e)

more : (x y : ℕ) → y < x → nat_cmp x y ≡ Greater
more x y e = ap₂ (λ a b. cond a Less (cond b Equal Greater)) (le-ltb x y (omega arith)) (ne_eqb x y (λ same. omega arith))

-- ---- a text that begins with a prefix is not below it
pub not_below : (t p : Text) → starts_with nat_eq t p ≡ true → is_lt (text_cmp t p) ≡ false
not_below [] [] e = refl
not_below (x ∷ t) [] e = refl
not_below [] (a ∷ p) e = cc
not_below (x ∷ t) (a ∷ p) e = go (nat_eq a x) refl e (not_below t p)
  where
    go : (b : Bool) → nat_eq a x ≡ b → (b && starts_with nat_eq t p) ≡ true → (starts_with nat_eq t p ≡ true → is_lt (text_cmp t p) ≡ false)
        → is_lt (ordering_then (nat_cmp x a) (text_cmp t p)) ≡ false
    go true same rest further = ap (λ o. is_lt (ordering_then o (text_cmp t p))) (even x a (sym (eqb-true a x same))) ∙ further rest
    go false same rest further = absurd (false≢true rest)

-- ---- what is below a text up to the prefix is up to the prefix
pub up_to_in_front : (t u p : Text) → text_cmp t u ≡ Less → is_up_to_prefix p u ≡ true → is_up_to_prefix p t ≡ true
up_to_in_front t u [] below up_to = or_true (is_lt (text_cmp t []))
up_to_in_front [] u (a ∷ p) below up_to = refl
up_to_in_front (x ∷ t) [] (a ∷ p) below up_to = cc
up_to_in_front (x ∷ t) (y ∷ u) (a ∷ p) below up_to = go (cases_order x y) (cases_order y a) (up_to_in_front t u p)
  where
    front : nat_cmp x a ≡ Less → is_up_to_prefix (a ∷ p) (x ∷ t) ≡ true
    front first = ap (λ o. is_lt (ordering_then o (text_cmp t p)) || (nat_eq a x && starts_with nat_eq t p)) first

    go : ((x ≡ y) ⊎ ((x < y) ⊎ (y < x))) → ((y ≡ a) ⊎ ((y < a) ⊎ (a < y))) → (text_cmp t u ≡ Less → is_up_to_prefix p u ≡ true → is_up_to_prefix p t ≡ true)
        → is_up_to_prefix (a ∷ p) (x ∷ t) ≡ true
    go (inl same) (inl here) further =
        let rest : text_cmp t u ≡ Less = sym (ap (λ o. ordering_then o (text_cmp t u)) (even x y same)) ∙ below in
        let more_up_to : is_up_to_prefix p u ≡ true =
        sym (ap₂ (λ o b. is_lt (ordering_then o (text_cmp u p)) || (b && starts_with nat_eq u p)) (even y a here) (eq-eqb a y (sym here))) ∙ up_to in
        ap₂ (λ o b. is_lt (ordering_then o (text_cmp t p)) || (b && starts_with nat_eq t p)) (even x a (same ∙ here)) (eq-eqb a x (sym (same ∙ here)))
        ∙ further rest more_up_to
    go (inl same) (inr (inl lower)) further = front (less x a (omega arith))
    go (inr (inl before)) (inl here) further = front (less x a (omega arith))
    go (inr (inl before)) (inr (inl lower)) further = front (less x a (omega arith))
    go (inr (inr after)) _ further = let o : Greater ≡ Less = sym (ap (λ o. ordering_then o (text_cmp t u)) (more x y after)) ∙ below in cc
    go _ (inr (inr higher)) further =
        absurd (false≢true (sym (ap₂ (λ o b. is_lt (ordering_then o (text_cmp u p)) || (b && starts_with nat_eq u p)) (more y a higher) (ne_eqb a y (λ e. omega arith))) ∙ up_to))

module _ (terms : List Text) (sorted : IsAscending text_cmp terms) (p : Text) where
  pub prefix_in_front : IsPartitionedBy (is_up_to_prefix p) terms
  prefix_in_front i j d order within up_to = go (earlier terms sorted i j d order within)
    where
      go : ((text_cmp (get_or terms i d) (get_or terms j d) ≡ Less) ⊎ (get_or terms i d ≡ get_or terms j d)) → is_up_to_prefix p (get_or terms i d) ≡ true
      go (inl below) = up_to_in_front (get_or terms i d) (get_or terms j d) p below up_to
      go (inr same) = ap (is_up_to_prefix p) same ∙ up_to

-- the texts at and behind the first that is not below the prefix, and before the first that is neither below it nor begins with it
module _ (terms : List Text) (p : Text) (from to : ℕ)
    (below : (k : ℕ) (d : Text) → 0 ≤ k → k < from → is_lt (text_cmp (get_or terms k d) p) ≡ true)
    (reached : (k : ℕ) (d : Text) → from ≤ k → k < length terms → is_lt (text_cmp (get_or terms k d) p) ≡ false)
    (up_to : (k : ℕ) (d : Text) → 0 ≤ k → k < to → is_up_to_prefix p (get_or terms k d) ≡ true)
    (past : (k : ℕ) (d : Text) → to ≤ k → k < length terms → is_up_to_prefix p (get_or terms k d) ≡ false) where
  or_left : (a b : Bool) → a ≡ true → (a || b) ≡ false → from ≤ to
  or_left a b e f = absurd (false≢true (sym f ∙ ap (λ c. c || b) e))

  pub prefix_order : from ≤ length terms → from ≤ to
  prefix_order within = elim (cases_lt to from) [
    | inl less ↦ or_left (is_lt (text_cmp (get_or terms to []) p)) (starts_with nat_eq (get_or terms to []) p) (below to [] (omega arith) less) (past to [] (omega arith) (omega arith))
    | inr order ↦ order
  ]

  starts : (t : Text) (b : Bool) → is_lt (text_cmp t p) ≡ b → is_up_to_prefix p t ≡ (b || starts_with nat_eq t p)
  starts t b e = ap (λ a. a || starts_with nat_eq t p) e

  pub prefix_span : (k : ℕ) (d : Text) → k < length terms → starts_with nat_eq (get_or terms k d) p ≡ (nat_le from k && nat_lt k to)
  prefix_span k d inside = go (cases_lt k from) (cases_lt k to)
    where
      t : Text
      t = get_or terms k d

      not_in_front : (b : Bool) → starts_with nat_eq t p ≡ b → k < from → b ≡ false
      not_in_front true e before = absurd (false≢true (sym (not_below t p e) ∙ below k d (omega arith) before))
      not_in_front false e before = refl

      none_left : (a b : Bool) → (a || b) ≡ false → b ≡ false
      none_left true b e = cc
      none_left false b e = e

      go : ((k < from) ⊎ (from ≤ k)) → ((k < to) ⊎ (to ≤ k)) → starts_with nat_eq t p ≡ (nat_le from k && nat_lt k to)
      go (inl before) _ = not_in_front (starts_with nat_eq t p) refl before ∙ sym (ap (λ b. b && nat_lt k to) low)
        where
          low : nat_le from k ≡ false
          low = lt-leb from k before
      go (inr from_on) (inl before) =
          sym (starts t false (reached k d from_on inside)) ∙ up_to k d (omega arith) before
          ∙ sym (ap₂ (λ a b. a && b) (le-leb from k from_on) (lt-ltb k to before))
      go (inr from_on) (inr behind) =
          none_left (is_lt (text_cmp t p)) (starts_with nat_eq t p) (past k d behind inside)
          ∙ sym (ap₂ (λ a b. a && b) (le-leb from k from_on) (le-ltb k to behind))
