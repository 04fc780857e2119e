-- A branch of a key changed: what it has then, what the others have, and the order of keys.
use Rattle.std.proofs.Common.{◌≡◌, List, [], ◌∷◌, false, cond, refl, sym, ◌∙◌, ap}
use Rattle.std.specs.List.{AllByRecursion}
use Rattle.std.specs.List.Sorted.{IsStrictlySortedBy}
use Rattle.std.specs.Ordering.{match_ordering, is_eq, ordering_reverse}
use Rattle.std.specs.declared.cmp.Ordering.{Ordering}
use Rattle.std.specs.declared.cmp.Ordering.TheVariants.{Less, Equal, Greater}
use Rattle.fc_spec.specs.requests.Buckets.{Key}
use Rattle.fc_spec.specs.messages.KeyOrder.{key_cmp, same_key}
use Rattle.fc_spec.proofs.messages.Keys.{same_key_exact, same_key_itself}
use Rattle.fc_partial.specs.KeyLaws.{key_cmp_total}
use Rattle.fc_told.specs.Trees.{Tree, Branches, no_branches, branch, nothing, keys_in, find_branch}
use Rattle.fc_told.specs.Adding.{changed_branch}

-- ---- keys

pub greater_is : (k l : Key) → key_cmp k l ≡ Greater → key_cmp l k ≡ Less
greater_is k l e = key_cmp_total.antisymm l k ∙ ap ordering_reverse e

-- each of some keys stands behind this one
abbrev pub AllBehind : Key → List Key → Type 0
AllBehind k ks = AllByRecursion (λ j. key_cmp k j ≡ Less) ks

pub behind_earlier : (k l : Key) (ks : List Key) → key_cmp k l ≡ Less → AllBehind l ks → AllBehind k ks
behind_earlier k l [] h b = tt
behind_earlier k l (j ∷ js) h b = (key_cmp_total.trans k l j h b.0, behind_earlier k l js h b.1)

-- ---- branches

abbrev pub Ascend : Branches → Type 0
Ascend bs = IsStrictlySortedBy key_cmp (keys_in bs)

pub none_ascend : Ascend no_branches
unfolding IsStrictlySortedBy
none_ascend = tt

find_none : (k : Key) (bs : Branches) → AllBehind k (keys_in bs) → find_branch k bs ≡ nothing
find_none k no_branches b = refl
find_none k (branch l T bs) b = ap (λ o. cond (is_eq o) T (find_branch k bs)) b.0 ∙ find_none k bs b.1

-- before all branches stands none
pub find_before : (k l : Key) (T : Tree) (bs : Branches) → Ascend (branch l T bs) → key_cmp k l ≡ Less → find_branch k bs ≡ nothing
unfolding IsStrictlySortedBy
find_before k l T bs a e = find_none k bs (behind_earlier k l (keys_in bs) e a.0)

pub find_changed : (k : Key) (f : Tree → Tree) (bs : Branches) → Ascend bs → find_branch k (changed_branch k f bs) ≡ f (find_branch k bs)
unfolding IsStrictlySortedBy
find_changed k f no_branches a = ap (λ b. cond b (f nothing) nothing) (same_key_itself k)
find_changed k f (branch l T bs) a = go (key_cmp k l) refl (find_changed k f bs a.1)
  where
    go : (o : Ordering) → key_cmp k l ≡ o → find_branch k (changed_branch k f bs) ≡ f (find_branch k bs)
        → find_branch k (match_ordering o (branch k (f nothing) (branch l T bs)) (branch l (f T) bs) (branch l T (changed_branch k f bs))) ≡ f (cond (is_eq o) T (find_branch k bs))
    go Less e ih = ap (λ b. cond b (f nothing) (find_branch k (branch l T bs))) (same_key_itself k) ∙ ap f (sym (find_before k l T bs a e))
    go Equal e ih = ap (λ o. cond (is_eq o) (f T) (find_branch k bs)) e
    go Greater e ih = ap (λ o. cond (is_eq o) T (find_branch k (changed_branch k f bs))) e ∙ ih

pub find_changed_other : (j k : Key) (f : Tree → Tree) (bs : Branches) → same_key j k ≡ false → find_branch j (changed_branch k f bs) ≡ find_branch j bs
find_changed_other j k f no_branches other = ap (λ b. cond b (f nothing) nothing) other
find_changed_other j k f (branch l T bs) other = go (key_cmp k l) refl (find_changed_other j k f bs other)
  where
    go : (o : Ordering) → key_cmp k l ≡ o → find_branch j (changed_branch k f bs) ≡ find_branch j bs
        → find_branch j (match_ordering o (branch k (f nothing) (branch l T bs)) (branch l (f T) bs) (branch l T (changed_branch k f bs))) ≡ cond (same_key j l) T (find_branch j bs)
    go Less e ih = ap (λ b. cond b (f nothing) (find_branch j (branch l T bs))) other
    go Equal e ih =
        let no : same_key j l ≡ false = ap (same_key j) (sym (same_key_exact k l (ap is_eq e))) ∙ other in
        ap (λ b. cond b (f T) (find_branch j bs)) no ∙ sym (ap (λ b. cond b T (find_branch j bs)) no)
    go Greater e ih = ap (cond (same_key j l) T) ih

-- ---- their order

behind_kept : (l k : Key) (f : Tree → Tree) (bs : Branches) → key_cmp l k ≡ Less → AllBehind l (keys_in bs) → AllBehind l (keys_in (changed_branch k f bs))
behind_kept l k f no_branches h b = (h, tt)
behind_kept l k f (branch j T bs) h b = go (key_cmp k j) (behind_kept l k f bs h b.1)
  where
    go : (o : Ordering) → AllBehind l (keys_in (changed_branch k f bs)) → AllBehind l (keys_in (match_ordering o (branch k (f nothing) (branch j T bs)) (branch j (f T) bs) (branch j T (changed_branch k f bs))))
    go Less ih = (h, b)
    go Equal ih = b
    go Greater ih = (b.0, ih)

pub ascend_changed : (k : Key) (f : Tree → Tree) (bs : Branches) → Ascend bs → Ascend (changed_branch k f bs)
unfolding IsStrictlySortedBy
ascend_changed k f no_branches a = (tt, tt)
ascend_changed k f (branch l T bs) a = go (key_cmp k l) refl (ascend_changed k f bs a.1)
  where
    go : (o : Ordering) → key_cmp k l ≡ o → Ascend (changed_branch k f bs) → Ascend (match_ordering o (branch k (f nothing) (branch l T bs)) (branch l (f T) bs) (branch l T (changed_branch k f bs)))
    go Less e ih = ((e, behind_earlier k l (keys_in bs) e a.0), a)
    go Equal e ih = a
    go Greater e ih = (behind_kept l k f bs (greater_is k l e) a.0, ih)
