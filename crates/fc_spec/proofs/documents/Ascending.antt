-- Ascending lists of values: the different values of a list are one, and the members determine it.
use Rattle.std.proofs.Common.{◌≡◌, List, [], ◌∷◌, Bool, true, false, ◌||◌, refl, sym, ◌∙◌, ap, subst}
use Rattle.std.specs.Ordering.{is_eq, match_ordering, ordering_reverse}
use Rattle.std.specs.declared.cmp.Ordering.{Ordering}
use Rattle.std.specs.declared.cmp.Ordering.TheVariants.{Less, Equal, Greater}
use Rattle.std.specs.List.{AllByRecursion}
use Rattle.std.specs.List.Sorted.{IsStrictlySortedBy}
use Rattle.std.proofs.Math.Bool.{or_self_left}
use Rattle.std.proofs.lemmas.Bool.{false≢true}
use Rattle.fc_spec.specs.documents.Val.{Val, val_cmp, same_val, has_val, insert_val, distinct}
use Rattle.fc_spec.specs.documents.ValOrder.{val_cmp_total}
use Rattle.fc_spec.proofs.words.Members.{or_swap}
use Rattle.fc_spec.proofs.documents.ValOrder.{exact_val, same_val_itself, same_val_exact}

-- whether a value is in a list into which another was put
pub has_val-insert_val : (v w : Val) (ws : List Val) → has_val v (insert_val w ws) ≡ (same_val v w || has_val v ws)
has_val-insert_val v w [] = refl
has_val-insert_val v w (x ∷ xs) = go (val_cmp w x) refl (has_val-insert_val v w xs)
  where
    go : (o : Ordering) → val_cmp w x ≡ o → has_val v (insert_val w xs) ≡ (same_val v w || has_val v xs)
        → has_val v (match_ordering o (w ∷ x ∷ xs) (x ∷ xs) (x ∷ insert_val w xs)) ≡ (same_val v w || (same_val v x || has_val v xs))
    go Less e ih = refl
    go Equal e ih = sym (or_self_left (same_val v x) (has_val v xs)) ∙ ap (λ y. same_val v y || (same_val v x || has_val v xs)) (sym (exact_val w x e))
    go Greater e ih = ap (λ b. same_val v x || b) ih ∙ or_swap (same_val v x) (same_val v w) (has_val v xs)

-- the different values of a list are its values
pub has_val-distinct : (v : Val) (vs : List Val) → has_val v (distinct vs) ≡ has_val v vs
has_val-distinct v [] = refl
has_val-distinct v (w ∷ ws) = has_val-insert_val v w (distinct ws) ∙ ap (λ b. same_val v w || b) (has_val-distinct v ws)

-- v stands before each of the list
abbrev pub IsUnder : Val → List Val → Type 0
IsUnder v ws = AllByRecursion (λ w. val_cmp v w ≡ Less) ws

Less_from_Greater : (v w : Val) → val_cmp v w ≡ Greater → val_cmp w v ≡ Less
Less_from_Greater v w h = val_cmp_total.antisymm w v ∙ ap ordering_reverse h

-- what is under the first is under all
under_all : (u v : Val) (ws : List Val) → val_cmp u v ≡ Less → IsUnder v ws → IsUnder u ws
under_all u v [] h e = tt
under_all u v (w ∷ ws) h e = (val_cmp_total.trans u v w h e.0, under_all u v ws h e.1)

IsUnder-insert_val : (v w : Val) (ws : List Val) → val_cmp v w ≡ Less → IsUnder v ws → IsUnder v (insert_val w ws)
IsUnder-insert_val v w [] h e = (h, tt)
IsUnder-insert_val v w (x ∷ xs) h e = go (val_cmp w x) (IsUnder-insert_val v w xs h e.1)
  where
    go : (o : Ordering) → IsUnder v (insert_val w xs) → IsUnder v (match_ordering o (w ∷ x ∷ xs) (x ∷ xs) (x ∷ insert_val w xs))
    go Less ih = (h, e)
    go Equal ih = e
    go Greater ih = (e.0, ih)

pub insert_val_ascends : (w : Val) (ws : List Val) → IsStrictlySortedBy val_cmp ws → IsStrictlySortedBy val_cmp (insert_val w ws)
unfolding IsStrictlySortedBy
insert_val_ascends w [] a = (tt, tt)
insert_val_ascends w (x ∷ xs) a = go (val_cmp w x) refl (insert_val_ascends w xs a.1)
  where
    go : (o : Ordering) → val_cmp w x ≡ o → IsStrictlySortedBy val_cmp (insert_val w xs) → IsStrictlySortedBy val_cmp (match_ordering o (w ∷ x ∷ xs) (x ∷ xs) (x ∷ insert_val w xs))
    go Less e ih = ((e, under_all w x xs e a.0), a)
    go Equal e ih = a
    go Greater e ih = (IsUnder-insert_val x w xs (Less_from_Greater w x e) a.0, ih)

-- the different values of a list ascend
pub distinct_ascends : (vs : List Val) → IsStrictlySortedBy val_cmp (distinct vs)
unfolding IsStrictlySortedBy
distinct_ascends [] = tt
distinct_ascends (v ∷ vs) = insert_val_ascends v (distinct vs) (distinct_ascends vs)

-- a value under all of a list is not in it
pub not_among : (v : Val) (ws : List Val) → IsUnder v ws → has_val v ws ≡ false
not_among v [] e = refl
not_among v (w ∷ ws) e = ap (λ o. is_eq o || has_val v ws) e.0 ∙ not_among v ws e.1

has_first : (v : Val) (vs : List Val) → has_val v (v ∷ vs) ≡ true
has_first v vs = ap (λ b. b || has_val v vs) (same_val_itself v)

-- without a first value that is under both, the lists still have the same values
same_rest : (x : Val) (xs ys : List Val) → IsUnder x xs → IsUnder x ys → ((v : Val) → has_val v (x ∷ xs) ≡ has_val v (x ∷ ys)) → (v : Val) → has_val v xs ≡ has_val v ys
same_rest x xs ys e f h v = go (same_val v x) refl (h v)
  where
    go : (b : Bool) → same_val v x ≡ b → (b || has_val v xs) ≡ (b || has_val v ys) → has_val v xs ≡ has_val v ys
    go true s k = let is_x = same_val_exact v x s in subst (λ u. has_val u xs ≡ has_val u ys) (sym is_x) (not_among x xs e ∙ sym (not_among x ys f))
    go false s k = k

-- ascending lists of the same values are one list
pub same_ascending : (xs ys : List Val) → IsStrictlySortedBy val_cmp xs → IsStrictlySortedBy val_cmp ys → ((v : Val) → has_val v xs ≡ has_val v ys) → xs ≡ ys
unfolding IsStrictlySortedBy
same_ascending [] [] a b h = refl
same_ascending [] (y ∷ ys) a b h = absurd (false≢true (h y ∙ has_first y ys))
same_ascending (x ∷ xs) [] a b h = absurd (false≢true (sym (h x) ∙ has_first x xs))
same_ascending (x ∷ xs) (y ∷ ys) a b h = go (val_cmp x y) refl (λ e. same_ascending xs ys a.1 b.1 e)
  where
    go : (o : Ordering) → val_cmp x y ≡ o → (((v : Val) → has_val v xs ≡ has_val v ys) → xs ≡ ys) → x ∷ xs ≡ y ∷ ys
    go Less e ih = absurd (false≢true (sym (not_among x (y ∷ ys) (e, under_all x y ys e b.0)) ∙ sym (h x) ∙ has_first x xs))
    go Equal e ih =
        let same = exact_val x y e in
        subst (λ z. x ∷ xs ≡ z ∷ ys) same
        (ap (λ zs. x ∷ zs) (ih (same_rest x xs ys a.0 (subst (λ z. IsUnder z ys) (sym same) b.0) (λ v. h v ∙ ap (λ z. has_val v (z ∷ ys)) (sym same)))))
    go Greater e ih = let less = Less_from_Greater x y e in absurd (false≢true (sym (not_among y (x ∷ xs) (less, under_all y x xs less a.0)) ∙ h y ∙ has_first y ys))
