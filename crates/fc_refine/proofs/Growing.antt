-- Items put under values, one after another.
use Rattle.std.proofs.Common.{◌≡◌, List, [], ◌∷◌, ◌++◌, map, Bor, Bool, true, false, cond, ◌||◌, Option, Some, None, Vec, unwrap_or, option_map, is_some, length, not, suc, arith, refl, sym, ◌∙◌, ap, subst, append-nil}
use Rattle.std.specs.BTreeMap.{get, insert_entry, is_at}
use Rattle.std.specs.List.{AllByRecursion}
use Rattle.std.specs.List.Sorted.{IsStrictlySortedBy}
use Rattle.std.specs.Map.{lookup, keys_of}
use Rattle.std.specs.Ordering.{on}
use Rattle.std.specs.declared.alloc.Global.{Global}
use Rattle.std.specs.declared.cmp.Ordering.{Ordering}
use Rattle.std.specs.declared.cmp.Ordering.TheVariants.{Less}
use Rattle.std.proofs.lemmas.Bool.{true≢false, false≢true, ne_eqb}
use Rattle.std.proofs.lemmas.List.{map_push}
use Rattle.fc_base.specs.View.{val_view}
use Rattle.fc_base.specs.declared.value.Val as code
use Rattle.fc_partial.proofs.ViewedEntries.{lookup-seen, keys_of-seen, insert_entry-seen, sorted_seen, lookup-insert_entry}
use Rattle.fc_refine.specs.Grouped.{Group, ValueMap, map_view, list_at, grown, Ascend, Grows, if_any, Holds}
use Rattle.fc_spec.specs.words.Lists.{is_empty}
use Rattle.fc_spec.specs.documents.Val.{Val, val_cmp, same_val, has_val}
use Rattle.fc_spec.specs.documents.ValOrder.{val_cmp_total}
use Rattle.fc_spec.proofs.documents.Ascending.{not_among}
use Rattle.fc_spec.proofs.documents.ValOrder.{same_val_exact, same_val_itself}

-- a key of the code's map, and its order
abbrev pub val_at : Bor code.Val → Val
val_at r = val_view r.now

abbrev pub code_cmp : Bor code.Val → Bor code.Val → Ordering
code_cmp = on val_at val_cmp

module _ {T V : Type 0} (see : T → V) where
  abbrev pub Stored : Type 0
  Stored = Bor code.Val × Vec T Global

  abbrev pub stored_list : Vec T Global → List V
  stored_list ps = map see ps.items

  abbrev pub seen : List Stored → List (Group V)
  seen es = map (λ e. (val_at e.0, stored_list e.1)) es

  -- what stands at a value is what the map finds
  pub list_at-map : (es : List Stored) (k : Bor code.Val) → list_at (val_at k) (seen es) ≡ option_map stored_list (lookup (is_at (code_cmp k)) es)
  list_at-map es k = lookup-seen val_at stored_list (same_val (val_at k)) es

  pub seen_ascend : (es : List Stored) → IsStrictlySortedBy code_cmp (keys_of es) → Ascend (seen es)
  seen_ascend es h = subst (IsStrictlySortedBy val_cmp) (sym (keys_of-seen val_at stored_list es)) (sorted_seen val_at val_cmp (keys_of es) h)

  -- one value gets one more item
  grown_at : (old new : List (Group V)) (k : Val) (p : V) (now : List V) → ((v : Val) → list_at v new ≡ cond (same_val v k) (Some now) (list_at v old))
      → now ≡ unwrap_or (list_at k old) [] ++ p ∷ [] → (v : Val) → list_at v new ≡ grown (has_val v (k ∷ [])) p (list_at v old)
  grown_at old new k p now at is v = at v ∙ go (same_val v k) refl
    where
      go : (b : Bool) → same_val v k ≡ b → cond b (Some now) (list_at v old) ≡ grown (b || false) p (list_at v old)
      go true e = ap Some (is ∙ ap (λ w. unwrap_or (list_at w old) [] ++ p ∷ []) (sym (same_val_exact v k e)))
      go false e = refl

  -- what the map's entry for a value writes
  stored : (empty : Vec T Global) → empty.items ≡ [] → (o : Option (Vec T Global)) → stored_list (unwrap_or o empty) ≡ unwrap_or (option_map stored_list o) []
  stored empty none None = ap (map see) none
  stored empty none (Some ps) = refl

  pub pushed_written : (old new : ValueMap T) (written : Vec T Global → ValueMap T) (k : Bor code.Val) → ((w : Vec T Global) → (written w).entries ≡ insert_entry code_cmp old.entries k w)
      → ((w : Vec T Global) → IsStrictlySortedBy code_cmp (keys_of (written w).entries)) → (empty there now : Vec T Global) (x : T) → empty.items ≡ []
      → there ≡ unwrap_or (get code_cmp old k) empty → now.items ≡ there.items ++ x ∷ [] → new ≡ written now → Grows see old new (val_at k ∷ []) (see x)
  pushed_written old new written k writes orders empty there now x none found pushed_to is =
      let before : map see there.items ≡ unwrap_or (list_at (val_at k) (seen old.entries)) [] =
      ap stored_list found ∙ stored empty none (get code_cmp old k) ∙ ap (λ o. unwrap_or o []) (sym (list_at-map old.entries k)) in
      let items : stored_list now ≡ unwrap_or (list_at (val_at k) (seen old.entries)) [] ++ see x ∷ [] =
      ap (map see) pushed_to ∙ map_push see there.items x ∙ ap (λ ps. ps ++ see x ∷ []) before in
      subst (λ (m : ValueMap T). Grows see old m (val_at k ∷ []) (see x)) (sym is) (record {
        lists = grown_at (seen old.entries) (seen (written now).entries) (val_at k) (see x) (stored_list now)
            (λ v. ap (λ l. list_at v (seen l)) (writes now) ∙ ap (list_at v) (insert_entry-seen val_at stored_list val_cmp old.entries k now) ∙ lookup-insert_entry val_cmp_total (seen old.entries) (val_at k) (stored_list now) v)
            items;
        ascend = λ _. seen_ascend (written now).entries (orders now);
      })

-- values that ascend get the item in turn: these are left of them
pub record IsGrowing {V : Type 0} (old now : List (Group V)) (left all : List Val) (p : V) : Type 0 where
  pub lists : (v : Val) → grown (has_val v left) p (list_at v now) ≡ grown (has_val v all) p (list_at v old)
  pub ascend : Ascend old → Ascend now
  pub sorted : IsStrictlySortedBy val_cmp left

-- the first of those left is in the list but once
first_once : (k : Val) (left : List Val) → AllByRecursion (λ w. val_cmp k w ≡ Less) left → (v : Val) → same_val v k ≡ true → has_val v left ≡ false
first_once k left under v e = subst (λ w. has_val w left ≡ false) (sym (same_val_exact v k e)) (not_among k left under)

module _ {V : Type 0} where
  pub growing_none : (gs : List (Group V)) (vals : List Val) (p : V) → IsStrictlySortedBy val_cmp vals → IsGrowing gs gs vals vals p
  growing_none gs vals p sorted = record { lists = λ v. refl; ascend = λ a. a; sorted = sorted }

  pub growing_all : {T : Type 0} (see : T → V) (old now : ValueMap T) (all : List Val) (p : V) → IsGrowing (map_view see old) (map_view see now) [] all p → Grows see old now all p
  growing_all see old now all p growing = record { lists = growing.lists; ascend = growing.ascend }

  grown_both : (b c : Bool) (p : V) (o : Option (List V)) → (b ≡ true → c ≡ false) → grown c p (grown (b || false) p o) ≡ grown (b || c) p o
  grown_both true true p o h = absurd (true≢false (h refl))
  grown_both true false p o h = refl
  grown_both false c p o h = refl

  pub growing_more : {T : Type 0} (see : T → V) (old : List (Group V)) (now new : ValueMap T) (k : Val) (left all : List Val) (p : V) → IsGrowing old (map_view see now) (k ∷ left) all p
      → Grows see now new (k ∷ []) p → IsGrowing old (map_view see new) left all p
  unfolding IsStrictlySortedBy
  growing_more see old now new k left all p growing grows = record {
    lists = λ v. ap (grown (has_val v left) p) (grows.lists v) ∙ grown_both (same_val v k) (has_val v left) p (list_at v (map_view see now)) (first_once k left growing.sorted.0 v) ∙ growing.lists v;
    ascend = λ a. grows.ascend (growing.ascend a);
    sorted = growing.sorted.1;
  }

  -- an item is under each of its values
  pub grown_any : (b : Bool) (p : V) (xs : List V) → grown b p (if_any xs) ≡ if_any (xs ++ cond b (p ∷ []) [])
  grown_any true p [] = refl
  grown_any true p (x ∷ xs) = refl
  grown_any false p [] = refl
  grown_any false p (x ∷ xs) = ap (λ ys. Some (x ∷ ys)) (sym (append-nil xs))

  pub holds_more : {T : Type 0} (see : T → V) (f g : Val → List V) (p : V) (old new : ValueMap T) (vals : List Val)
      → Holds f (map_view see old) → Grows see old new vals p → ((v : Val) → g v ≡ f v ++ cond (has_val v vals) (p ∷ []) []) → Holds g (map_view see new)
  holds_more see f g p old new vals holds grows more = record {
    lists = λ v. grows.lists v ∙ ap (grown (has_val v vals) p) (holds.lists v) ∙ grown_any (has_val v vals) p (f v) ∙ ap if_any (sym (more v));
    ascend = grows.ascend holds.ascend;
  }

  -- a value is a key where something stands at it
  pub has_val-keys : (v : Val) (gs : List (Group V)) → has_val v (keys_of gs) ≡ is_some (list_at v gs)
  has_val-keys v [] = refl
  has_val-keys v (g ∷ gs) = go (same_val v g.0) (has_val-keys v gs)
    where
      go : (b : Bool) → has_val v (keys_of gs) ≡ is_some (list_at v gs) → (b || has_val v (keys_of gs)) ≡ is_some (cond b (Some g.1) (list_at v gs))
      go true h = refl
      go false h = h

  some_list : (xs ys : List V) → Some xs ≡ Some ys → xs ≡ ys
  some_list xs ys h = ap (λ o. unwrap_or o xs) h

  -- behind the first group its value is not found again
  apart : (g : Group V) (gs : List (Group V)) → AllByRecursion (λ w. val_cmp g.0 w ≡ Less) (keys_of gs) → (v : Val) → has_val v (keys_of gs) ≡ true → same_val v g.0 ≡ false
  apart g gs under v among = go (same_val v g.0) refl
    where
      go : (b : Bool) → same_val v g.0 ≡ b → b ≡ false
      go true e = absurd (false≢true (sym (subst (λ w. has_val w (keys_of gs) ≡ false) (sym (same_val_exact v g.0 e)) (not_among g.0 (keys_of gs) under)) ∙ among))
      go false e = refl

  -- ascending keys, and what stands at each, determine the groups
  pub groups_by_key : (f : Val → List V) (gs : List (Group V)) → Ascend gs → ((v : Val) → has_val v (keys_of gs) ≡ true → list_at v gs ≡ Some (f v)) → gs ≡ map (λ v. (v, f v)) (keys_of gs)
  unfolding IsStrictlySortedBy
  groups_by_key f [] sorted at = refl
  groups_by_key f (g ∷ gs) sorted at =
      let itself : same_val g.0 g.0 ≡ true = same_val_itself g.0 in
      let first : g.1 ≡ f g.0 = some_list g.1 (f g.0) (ap (λ b. cond b (Some g.1) (list_at g.0 gs)) (sym itself) ∙ at g.0 (ap (λ b. b || has_val g.0 (keys_of gs)) itself)) in
      let later : (v : Val) → has_val v (keys_of gs) ≡ true → list_at v gs ≡ Some (f v) = λ v among.
      let other = apart g gs sorted.0 v among in
      ap (λ b. cond b (Some g.1) (list_at v gs)) (sym other) ∙ at v (ap (λ b. b || has_val v (keys_of gs)) other ∙ among) in
      let rest = groups_by_key f gs sorted.1 later in
      λ i. (g.0, first i) ∷ rest i

  pub is_some-if_any : (xs : List V) → is_some (if_any xs) ≡ not (is_empty xs)
  is_some-if_any [] = refl
  is_some-if_any (x ∷ xs) = sym (ap not (ne_eqb (suc (length xs)) 0 (λ e. omega arith)))

  pub if_any-some : (xs : List V) → is_some (if_any xs) ≡ true → if_any xs ≡ Some xs
  if_any-some [] h = absurd (false≢true h)
  if_any-some (x ∷ xs) h = refl

  -- a map that holds the lists of f is those of the values that have some
  pub held_groups : (f : Val → List V) (gs : List (Group V)) → Holds f gs → gs ≡ map (λ v. (v, f v)) (keys_of gs)
  held_groups f gs holds = groups_by_key f gs holds.ascend (λ v among. holds.lists v ∙ if_any-some (f v) (sym (has_val-keys v gs ∙ ap is_some (holds.lists v)) ∙ among))
