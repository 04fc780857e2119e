-- What shards listed, teller by teller and bucket by bucket.
use Rattle.std.proofs.Common.{◌≡◌, ℕ, List, [], ◌∷◌, ◌++◌, map, Bool, true, false, cond, ◌==◌, Some, None, refl, sym, ap, ◌∙◌, subst, append-nil, arith, Bor, Vec, unwrap_or}
use Rattle.std.specs.Prelude.{option_map}
use Rattle.std.specs.BTreeMap.{is_at}
use Rattle.std.specs.declared.alloc.Global.{Global}
use Rattle.std.specs.List.{All, AllByRecursion}
use Rattle.std.specs.List.Sorted.{IsStrictlySortedBy}
use Rattle.std.specs.Map.{keys_of, lookup}
use Rattle.std.specs.Ordering.{nat_cmp, is_eq}
use Rattle.std.specs.declared.cmp.Ordering.TheVariants.{Less}
use Rattle.std.proofs.lemmas.List.Elements.{All-nil, All-cons}
use Rattle.fc_spec.specs.documents.Val.{Val, val_cmp}
use Rattle.fc_spec.specs.messages.KeyOrder.{key_cmp}
use Rattle.fc_spec.specs.requests.Buckets as definition
use Rattle.fc_partial.specs.View.{key_view}
use Rattle.fc_partial.proofs.ViewedEntries.{keys_of-seen, sorted_seen}
use Rattle.fc_told.specs.ListedView.{ShardMap, list_of, listed_once}
use Rattle.fc_base.specs.declared.value.Val as value
use Rattle.fc_request.specs.FacetNode.{vals_view}
use Rattle.fc_told.specs.Parts.{tellers_view}
use Rattle.fc_told.specs.Trees as trees
use Rattle.fc_told.specs.Trees.{was_listed, teller_of, is_listed_by, values_listed, with_value}
use Rattle.fc_told.specs.TreeView.{teller_view, linked, tree_view, node_view}
use Rattle.fc_told.specs.declared.teller.Teller as code
use Rattle.fc_told.specs.declared.tree.ToldNode.{ToldNode, out-ToldNode}
use Rattle.fc_told.proofs.Levels.{code_cmp, node_is, same_number}

-- a map of nothing
pub nothing_listed : (m : ShardMap) → m.entries ≡ [] → (i : ℕ) → list_of i m ≡ []
nothing_listed m none i = ap (λ (es : List (ℕ × Vec (Bor value.Val) Global)). unwrap_or (option_map (λ v. vals_view v.items) (lookup (is_at (nat_cmp i)) es)) []) none

-- ---- tellers

-- a shard before all of them is none of them
none_later : (i : ℕ) (es : List (ℕ × code.Teller)) → AllByRecursion (λ j. nat_cmp i j ≡ Less) (keys_of es) → teller_of i (tellers_view es) ≡ None
none_later i [] h = refl
none_later i (e ∷ es) h =
    let other : (e.0 == i) ≡ false = sym (same_number i e.0) ∙ ap is_eq h.0 in
    ap (λ b. cond b (Some (teller_view e.0 e.1)) (teller_of i (tellers_view es))) other ∙ none_later i es h.1

module _ (v : Val) (i : ℕ) where
  -- the values that a shard gets of tellers
  abbrev pub given : List (ℕ × code.Teller) → List Val
  given es = listed_once (was_listed (teller_of i (tellers_view es))) v

  first_given : (b : Bool) (j : ℕ) (t : code.Teller) (rest : List (ℕ × code.Teller)) (old now : List Val) → t.listed ≡ true → (b ≡ true → teller_of i (tellers_view rest) ≡ None) → now ≡ old ++ listed_once b v
      → now ++ given rest ≡ old ++ listed_once (was_listed (cond b (Some (teller_view j t)) (teller_of i (tellers_view rest)))) v
  first_given true j t rest old now listed none is =
      ap (λ o. now ++ listed_once (was_listed o) v) (none refl) ∙ append-nil now ∙ is ∙ ap (λ b. old ++ listed_once b v) (sym listed)
  first_given false j t rest old now listed none is = ap (λ l. l ++ given rest) (is ∙ append-nil old)

  first_passed : (b : Bool) (j : ℕ) (t : code.Teller) (rest : List (ℕ × code.Teller)) (old : List Val) → t.listed ≡ false → (b ≡ true → teller_of i (tellers_view rest) ≡ None)
      → old ++ given rest ≡ old ++ listed_once (was_listed (cond b (Some (teller_view j t)) (teller_of i (tellers_view rest)))) v
  first_passed true j t rest old listed none = ap (λ o. old ++ listed_once (was_listed o) v) (none refl) ∙ ap (λ b. old ++ listed_once b v) (sym listed)
  first_passed false j t rest old listed none = refl

  apart : (j : ℕ) (t : code.Teller) (rest : List (ℕ × code.Teller)) → IsStrictlySortedBy nat_cmp (keys_of ((j, t) ∷ rest)) → (j == i) ≡ true → teller_of i (tellers_view rest) ≡ None
  unfolding IsStrictlySortedBy
  apart j t rest sorted same =
      let is : j ≡ i = grind (arith) in
      none_later i rest (subst (λ n. AllByRecursion (λ m. nat_cmp n m ≡ Less) (keys_of rest)) is sorted.0)

  pub was_given : (es : List (ℕ × code.Teller)) (j : ℕ) (t : code.Teller) (rest : List (ℕ × code.Teller)) (all old now : List Val) → es ≡ (j, t) ∷ rest → IsStrictlySortedBy nat_cmp (keys_of es) → t.listed ≡ true
      → old ++ given es ≡ all → now ≡ old ++ listed_once (j == i) v → now ++ given rest ≡ all
  was_given es j t rest all old now split sorted listed before is =
      first_given (j == i) j t rest old now listed (apart j t rest (subst (λ l. IsStrictlySortedBy nat_cmp (keys_of l)) split sorted)) is ∙ ap (λ l. old ++ given l) (sym split) ∙ before

  pub was_passed : (es : List (ℕ × code.Teller)) (j : ℕ) (t : code.Teller) (rest : List (ℕ × code.Teller)) (all old : List Val) → es ≡ (j, t) ∷ rest → IsStrictlySortedBy nat_cmp (keys_of es) → t.listed ≡ false
      → old ++ given es ≡ all → old ++ given rest ≡ all
  was_passed es j t rest all old split sorted listed before =
      first_passed (j == i) j t rest old listed (apart j t rest (subst (λ l. IsStrictlySortedBy nat_cmp (keys_of l)) split sorted)) ∙ ap (λ l. old ++ given l) (sym split) ∙ before

-- those left are in order
pub later_sorted : (es : List (ℕ × code.Teller)) (j : ℕ) (t : code.Teller) (rest : List (ℕ × code.Teller)) → es ≡ (j, t) ∷ rest → IsStrictlySortedBy nat_cmp (keys_of es) → IsStrictlySortedBy nat_cmp (keys_of rest)
unfolding IsStrictlySortedBy
later_sorted es j t rest split sorted = (subst (λ l. IsStrictlySortedBy nat_cmp (keys_of l)) split sorted).1

-- ---- buckets

abbrev Seen : Type 0
Seen = definition.Key × trees.Tree

under : (i : ℕ) (v : Val) (bs : List Seen) → AllByRecursion (λ k. key_cmp (definition.value v) k ≡ Less) (keys_of bs) → AllByRecursion (λ w. val_cmp v w ≡ Less) (values_listed i (linked bs))
under i v [] h = tt
under i v (b ∷ bs) h = go (is_listed_by i b.1) b.0 h.0 (under i v bs h.1)
  where
    go : (l : Bool) (k : definition.Key) → key_cmp (definition.value v) k ≡ Less → AllByRecursion (λ w. val_cmp v w ≡ Less) (values_listed i (linked bs)) → AllByRecursion (λ w. val_cmp v w ≡ Less) (with_value l k (values_listed i (linked bs)))
    go true (definition.value w) e ih = (e, ih)
    go true definition.missing e ih = ih
    go true (definition.gap g) e ih = ih
    go true definition.before e ih = ih
    go true definition.between e ih = ih
    go true definition.after e ih = ih
    go true definition.whole e ih = ih
    go false k e ih = ih

values_sorted : (i : ℕ) (bs : List Seen) → IsStrictlySortedBy key_cmp (keys_of bs) → IsStrictlySortedBy val_cmp (values_listed i (linked bs))
unfolding IsStrictlySortedBy
values_sorted i [] h = tt
values_sorted i (b ∷ bs) h = go (is_listed_by i b.1) b.0 h.0 (values_sorted i bs h.1)
  where
    go : (l : Bool) (k : definition.Key) → AllByRecursion (λ y. key_cmp k y ≡ Less) (keys_of bs) → IsStrictlySortedBy val_cmp (values_listed i (linked bs)) → IsStrictlySortedBy val_cmp (with_value l k (values_listed i (linked bs)))
    go true (definition.value w) u ih = (under i w bs u, ih)
    go true definition.missing u ih = ih
    go true (definition.gap g) u ih = ih
    go true definition.before u ih = ih
    go true definition.between u ih = ih
    go true definition.after u ih = ih
    go true definition.whole u ih = ih
    go false k u ih = ih

-- the values of a node ascend
pub node_ascends : (n : ToldNode) → IsStrictlySortedBy code_cmp (keys_of (out-ToldNode n).by_key.entries) → (i : ℕ) → IsStrictlySortedBy val_cmp (values_listed i (node_view n))
node_ascends n sorted i =
    let es = (out-ToldNode n).by_key.entries in
    let keys : IsStrictlySortedBy key_cmp (keys_of (map (λ e. (key_view e.0, tree_view e.1)) es)) =
    subst (IsStrictlySortedBy key_cmp) (sym (keys_of-seen key_view tree_view es)) (sorted_seen key_view key_cmp (keys_of es) sorted) in
    subst (λ bs. IsStrictlySortedBy val_cmp (values_listed i bs)) (sym (node_is n)) (values_sorted i (map (λ e. (key_view e.0, tree_view e.1)) es) keys)

-- lists that are those of shards ascend where those do
pub all_ascend : {X : Type 0} (see : X → List Val) (lists : ℕ → List Val) (xs : List X) (shards : List ℕ) → map see xs ≡ map lists shards → ((i : ℕ) → IsStrictlySortedBy val_cmp (lists i)) → All (λ x. IsStrictlySortedBy val_cmp (see x)) xs
all_ascend see lists [] shards same sorted = All-nil (λ x. IsStrictlySortedBy val_cmp (see x))
all_ascend see lists (x ∷ xs) [] same sorted = absurd (cc same)
all_ascend see lists (x ∷ xs) (i ∷ is) same sorted =
    let first : see x ≡ lists i = cc same in
    let rest : map see xs ≡ map lists is = cc same in
    All-cons (λ x. IsStrictlySortedBy val_cmp (see x)) x xs (subst (IsStrictlySortedBy val_cmp) (sym first) (sorted i)) (all_ascend see lists xs is rest sorted)

pub same_lists : (f g : ℕ → List Val) (shards : List ℕ) → ((i : ℕ) → f i ≡ g i) → map f shards ≡ map g shards
same_lists f g [] same = refl
same_lists f g (i ∷ is) same = λ k. same i k ∷ same_lists f g is same k
