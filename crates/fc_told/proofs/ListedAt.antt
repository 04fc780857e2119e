-- The values that a shard listed are as they were, as branches are changed of which it lists as much as before.
use Rattle.std.proofs.Common.{◌≡◌, ℕ, List, [], Bool, true, false, cond, Some, refl, ◌∙◌, ap, subst}
use Rattle.std.specs.List.Sorted.{IsStrictlySortedBy}
use Rattle.std.specs.Ordering.{match_ordering, is_eq}
use Rattle.std.specs.declared.cmp.Ordering.{Ordering}
use Rattle.std.specs.declared.cmp.Ordering.TheVariants.{Less, Equal, Greater}
use Rattle.fc_spec.specs.documents.Val.{Val}
use Rattle.fc_spec.specs.requests.Buckets.{Key, value}
use Rattle.fc_spec.specs.requests.Request.{Nodes}
use Rattle.fc_spec.specs.messages.KeyOrder.{key_cmp}
use Rattle.fc_spec.specs.messages.Message.{Partials, no_partials, partial}
use Rattle.fc_spec.specs.messages.Held.{HeldBucket}
use Rattle.fc_told.specs.Trees.{Tree, Branches, no_branches, branch, nothing, find_branch, teller_of, was_listed, is_listed_by, with_value, values_listed, tellers_in}
use Rattle.fc_told.specs.Adding.{changed_branch, partials_added}
use Rattle.fc_told.proofs.Branches.{Ascend, find_before, ascend_changed}
use Rattle.fc_told.proofs.Tellers.{teller_other}
use Rattle.fc_told.proofs.Putting.{teller_by, put, put_tellers}

pub unlisted : (k : Key) (vs : List Val) → with_value false k vs ≡ vs
unlisted (value v) vs = refl
unlisted _ vs = refl

pub listing_kept : (j : ℕ) (k : Key) (f : Tree → Tree) (bs : Branches) → Ascend bs → is_listed_by j (f (find_branch k bs)) ≡ is_listed_by j (find_branch k bs) → values_listed j (changed_branch k f bs) ≡ values_listed j bs
unfolding IsStrictlySortedBy
listing_kept j k f no_branches a same = ap (λ b. with_value b k []) same ∙ unlisted k []
listing_kept j k f (branch l T bs) a same = go (key_cmp k l) refl same (listing_kept j k f bs a.1)
  where
    go : (o : Ordering) → key_cmp k l ≡ o → is_listed_by j (f (cond (is_eq o) T (find_branch k bs))) ≡ is_listed_by j (cond (is_eq o) T (find_branch k bs))
        → (is_listed_by j (f (find_branch k bs)) ≡ is_listed_by j (find_branch k bs) → values_listed j (changed_branch k f bs) ≡ values_listed j bs)
        → values_listed j (match_ordering o (branch k (f nothing) (branch l T bs)) (branch l (f T) bs) (branch l T (changed_branch k f bs))) ≡ values_listed j (branch l T bs)
    go Less e h ih =
        let new : is_listed_by j (f nothing) ≡ false = subst (λ U. is_listed_by j (f U) ≡ is_listed_by j U) (find_before k l T bs a e) h in
        ap (λ b. with_value b k (values_listed j (branch l T bs))) new ∙ unlisted k (values_listed j (branch l T bs))
    go Equal e h ih = ap (λ b. with_value b l (values_listed j bs)) h
    go Greater e h ih = ap (with_value (is_listed_by j T) l) (ih h)

pub put_lists_other : (i j : ℕ) (listed : Bool) (b : HeldBucket) (T : Tree) → (i ≡ j → ⊥) → is_listed_by j (put i listed (Some b) T) ≡ is_listed_by j T
put_lists_other i j listed b T other = ap (λ ts. was_listed (teller_of j ts)) (put_tellers i listed b T) ∙ ap was_listed (teller_other j (teller_by i listed b) (tellers_in T) other)

pub row_listed_other : (i j : ℕ) (ps : Partials) (inner : Nodes) (bs : Branches) → (i ≡ j → ⊥) → Ascend bs → values_listed j (partials_added i ps inner bs) ≡ values_listed j bs
row_listed_other i j no_partials inner bs other a = refl
row_listed_other i j (partial l stats rows rest) inner bs other a =
    row_listed_other i j rest inner (changed_branch l add bs) other (ascend_changed l add bs a) ∙ listing_kept j l add bs a (put_lists_other i j true here (find_branch l bs) other)
  where
    here : HeldBucket
    here = record { stats = stats; nodes = inner; rows = rows }

    add : Tree → Tree
    add = put i true (Some here)
