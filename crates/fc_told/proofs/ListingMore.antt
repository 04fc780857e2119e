-- The values that a shard listed of a node, where it had listed nothing and a row is added.
use Rattle.std.proofs.Common.{◌≡◌, ℕ, List, [], ◌∷◌, ◌++◌, Bool, true, false, Some, refl, sym, ◌∙◌, ap, subst, append_assoc, append-nil}
use Rattle.std.specs.List.{AllByRecursion}
use Rattle.std.specs.List.Sorted.{IsStrictlySortedBy}
use Rattle.std.specs.Ordering.{match_ordering, is_eq, is_lt, is_gt, ordering_reverse}
use Rattle.std.specs.declared.cmp.Ordering.{Ordering}
use Rattle.std.specs.declared.cmp.Ordering.TheVariants.{Less, Equal, Greater}
use Rattle.std.proofs.lemmas.Bool.{false≢true}
use Rattle.fc_spec.specs.documents.Val.{Val}
use Rattle.fc_spec.specs.requests.Buckets.{Key, value}
use Rattle.fc_spec.specs.requests.Request.{Nodes}
use Rattle.fc_spec.specs.messages.KeyOrder.{key_cmp}
use Rattle.fc_spec.specs.messages.Message.{Partials, no_partials, partial}
use Rattle.fc_spec.specs.messages.Held.{HeldBucket, listed_value, listed_values}
use Rattle.fc_spec.proofs.messages.HeldFurther.{all_append}
use Rattle.fc_spec.proofs.messages.Keys.{same_key_exact}
use Rattle.fc_partial.specs.KeyLaws.{key_cmp_total}
use Rattle.fc_told.specs.Trees.{Tree, Branches, no_branches, branch, nothing, keys_in, teller_of, was_listed, is_listed_by, with_value, values_listed, tellers_in}
use Rattle.fc_told.specs.Adding.{changed_branch, partials_added}
use Rattle.fc_told.proofs.Branches.{AllBehind, Ascend, behind_earlier, ascend_changed}
use Rattle.fc_told.proofs.Tellers.{teller_itself}
use Rattle.fc_told.proofs.Rising.{Rise, rise_later, keys_of}
use Rattle.fc_told.proofs.Putting.{teller_by, put, put_tellers}
use Rattle.fc_told.proofs.ListedAt.{unlisted}

-- ---- one key

listed_one : (k : Key) → with_value true k [] ≡ listed_value k []
listed_one (value v) = refl
listed_one _ = refl

listed_first : (k : Key) (vs : List Val) → listed_value k [] ++ vs ≡ listed_value k vs
listed_first (value v) vs = refl
listed_first _ vs = refl

with_value-append : (b : Bool) (k : Key) (vs ws : List Val) → with_value b k (vs ++ ws) ≡ with_value b k vs ++ ws
with_value-append false k vs ws = unlisted k (vs ++ ws) ∙ ap (λ us. us ++ ws) (sym (unlisted k vs))
with_value-append true (value v) vs ws = refl
with_value-append true _ vs ws = refl

-- ---- a branch behind all that the shard listed, which it lists

abbrev AllBefore : Key → List Val → Type 0
AllBefore k vs = AllByRecursion (λ v. key_cmp (value v) k ≡ Less) vs

-- none of some keys stands before this one
abbrev NoneBefore : Key → List Key → Type 0
NoneBefore k ks = AllByRecursion (λ j. key_cmp j k ≡ Less → ⊥) ks

not_both : (k j : Key) → key_cmp k j ≡ Less → key_cmp j k ≡ Less → ⊥
not_both k j h e = false≢true (sym (ap is_gt h) ∙ ap is_gt (key_cmp_total.antisymm k j ∙ ap ordering_reverse e))

none_before : (k : Key) (ks : List Key) → AllBehind k ks → NoneBefore k ks
none_before k [] b = tt
none_before k (j ∷ js) b = (not_both k j b.0, none_before k js b.1)

rest_before : (k l : Key) (b : Bool) (vs : List Val) → AllBefore k (with_value b l vs) → AllBefore k vs
rest_before k l false vs h = subst (AllBefore k) (unlisted l vs) h
rest_before k (value v) true vs h = h.1
rest_before k _ true vs h = h

head_unlisted : (k l : Key) (b : Bool) → (key_cmp l k ≡ Less → ⊥) → AllBefore k (with_value b l []) → with_value b l [] ≡ []
head_unlisted k l false later h = unlisted l []
head_unlisted k (value v) true later h = absurd (later h.0)
head_unlisted k _ true later h = refl

nothing_listed : (i : ℕ) (k : Key) (bs : Branches) → NoneBefore k (keys_in bs) → AllBefore k (values_listed i bs) → values_listed i bs ≡ []
nothing_listed i k no_branches later h = refl
nothing_listed i k (branch l T bs) later h =
    let rest = nothing_listed i k bs later.1 (rest_before k l (is_listed_by i T) (values_listed i bs) h) in
    ap (with_value (is_listed_by i T) l) rest ∙ head_unlisted k l (is_listed_by i T) later.0 (subst (λ vs. AllBefore k (with_value (is_listed_by i T) l vs)) rest h)

module _ (i : ℕ) (f : Tree → Tree) (lists : (U : Tree) → is_listed_by i (f U) ≡ true) where
  listing_more : (k : Key) (bs : Branches) → Ascend bs → AllBefore k (values_listed i bs) → values_listed i (changed_branch k f bs) ≡ values_listed i bs ++ listed_value k []
  unfolding IsStrictlySortedBy
  listing_more k no_branches a h = ap (λ b. with_value b k []) (lists nothing) ∙ listed_one k
  listing_more k (branch l T bs) a h = go (key_cmp k l) refl (listing_more k bs a.1 (rest_before k l (is_listed_by i T) (values_listed i bs) h))
    where
      go : (o : Ordering) → key_cmp k l ≡ o → values_listed i (changed_branch k f bs) ≡ values_listed i bs ++ listed_value k []
          → values_listed i (match_ordering o (branch k (f nothing) (branch l T bs)) (branch l (f T) bs) (branch l T (changed_branch k f bs))) ≡ values_listed i (branch l T bs) ++ listed_value k []
      go Less e ih =
          let none : values_listed i (branch l T bs) ≡ [] = nothing_listed i k (branch l T bs) (not_both k l e, none_before k (keys_in bs) (behind_earlier k l (keys_in bs) e a.0)) h in
          (λ t. with_value (lists nothing t) k (none t)) ∙ listed_one k ∙ sym (ap (λ vs. vs ++ listed_value k []) none)
      go Equal e ih =
          let same = same_key_exact k l (ap is_eq e) in
          let not_less : key_cmp l k ≡ Less → ⊥ = λ less. false≢true (sym (ap is_lt e) ∙ ap is_lt (ap (λ x. key_cmp x l) same ∙ ap (key_cmp l) (sym same) ∙ less)) in
          let rest : values_listed i bs ≡ [] = nothing_listed i k bs (subst (λ x. NoneBefore x (keys_in bs)) (sym same) (none_before l (keys_in bs) a.0)) (rest_before k l (is_listed_by i T) (values_listed i bs) h) in
          let none : values_listed i (branch l T bs) ≡ [] = nothing_listed i k (branch l T bs) (not_less, subst (λ x. NoneBefore x (keys_in bs)) (sym same) (none_before l (keys_in bs) a.0)) h in
          (λ t. with_value (lists T t) l (rest t)) ∙ listed_one l ∙ ap (λ x. listed_value x []) (sym same) ∙ sym (ap (λ vs. vs ++ listed_value k []) none)
      go Greater e ih = ap (with_value (is_listed_by i T) l) ih ∙ with_value-append (is_listed_by i T) l (values_listed i bs) (listed_value k [])

-- ---- a row

put_lists : (i : ℕ) (b : HeldBucket) (T : Tree) → is_listed_by i (put i true (Some b) T) ≡ true
put_lists i b T = ap (λ ts. was_listed (teller_of i ts)) (put_tellers i true b T) ∙ ap was_listed (teller_itself (teller_by i true b) (tellers_in T))

-- all that was listed stands before each of some keys
abbrev EachBefore : List Key → List Val → Type 0
EachBefore ks vs = AllByRecursion (λ k. AllBefore k vs) ks

each_before : (k : Key) (ks : List Key) (vs : List Val) → AllBehind k ks → EachBefore ks vs → EachBefore ks (vs ++ listed_value k [])
each_before k [] vs b h = tt
each_before k (j ∷ js) vs b h = (all_append (λ v. key_cmp (value v) j ≡ Less) vs (listed_value k []) h.0 (go k b.0), each_before k js vs b.1 h.1)
  where
    go : (k : Key) → key_cmp k j ≡ Less → AllBefore j (listed_value k [])
    go (value v) e = (e, tt)
    go _ e = tt

row_listed_more : (i : ℕ) (ps : Partials) (inner : Nodes) (bs : Branches) → Ascend bs → Rise ps → EachBefore (keys_of ps) (values_listed i bs) → values_listed i (partials_added i ps inner bs) ≡ values_listed i bs ++ listed_values ps
row_listed_more i no_partials inner bs a up h = sym (append-nil (values_listed i bs))
row_listed_more i (partial l stats rows rest) inner bs a up h =
    row_listed_more i rest inner (changed_branch l add bs) (ascend_changed l add bs a) later.1 (subst (EachBefore (keys_of rest)) (sym one) (each_before l (keys_of rest) (values_listed i bs) later.0 h.1))
    ∙ ap (λ vs. vs ++ listed_values rest) one ∙ append_assoc (values_listed i bs) (listed_value l []) (listed_values rest) ∙ ap (λ vs. values_listed i bs ++ vs) (listed_first l (listed_values rest))
  where
    here : HeldBucket
    here = record { stats = stats; nodes = inner; rows = rows }

    add : Tree → Tree
    add = put i true (Some here)

    later : AllBehind l (keys_of rest) × Rise rest
    later = rise_later l stats rows rest up

    one : values_listed i (changed_branch l add bs) ≡ values_listed i bs ++ listed_value l []
    one = listing_more i add (put_lists i here) l bs a h.0

none_each : (ks : List Key) → EachBefore ks []
none_each [] = tt
none_each (k ∷ ks) = (tt, none_each ks)

-- where the shard had listed nothing
pub row_listed : (i : ℕ) (ps : Partials) (inner : Nodes) (bs : Branches) → Ascend bs → Rise ps → values_listed i bs ≡ [] → values_listed i (partials_added i ps inner bs) ≡ listed_values ps
row_listed i ps inner bs a up none = row_listed_more i ps inner bs a up (subst (EachBefore (keys_of ps)) (sym none) (none_each (keys_of ps))) ∙ ap (λ vs. vs ++ listed_values ps) none
