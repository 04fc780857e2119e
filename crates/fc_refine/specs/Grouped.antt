-- Lists under values.
use Rattle.std.specs.Prelude.{◌≡◌, List, [], ◌∷◌, ◌++◌, map, Bool, true, false, Option, Some, None, Vec, unwrap_or}
use Rattle.std.specs.Borrow.{Bor}
use Rattle.std.specs.BTreeMap.{BTreeMap}
use Rattle.std.specs.List.Sorted.{IsStrictlySortedBy}
use Rattle.std.specs.Map.{lookup, keys_of}
use Rattle.std.specs.declared.alloc.Global.{Global}
use Rattle.fc_base.specs.View.{val_view}
use Rattle.fc_base.specs.declared.value.Val as code
use Rattle.fc_spec.specs.documents.Val.{Val, val_cmp, same_val, has_val}

-- a value with its list
abbrev pub Group : Type 0 → Type 0
Group T = Val × List T

-- the code's map of lists by value, each item seen as something
abbrev pub ValueMap : Type 0 → Type 0
ValueMap T = BTreeMap (Bor code.Val) (Vec T Global)

abbrev pub map_view : {T V : Type 0} → (T → V) → ValueMap T → List (Group V)
map_view see m = map (λ e. (val_view e.0.now, map see e.1.items)) m.entries

-- the list under a value, where it has one
abbrev pub list_at : {V : Type 0} → Val → List (Group V) → Option (List V)
list_at v gs = lookup (same_val v) gs

-- that, with one more where the test is true
abbrev pub grown : {V : Type 0} → Bool → V → Option (List V) → Option (List V)
grown true p o = Some (unwrap_or o [] ++ p ∷ [])
grown false p o = o

-- the values ascend in index order
abbrev pub Ascend : {V : Type 0} → List (Group V) → Type 0
Ascend gs = IsStrictlySortedBy val_cmp (keys_of gs)

-- each of the values has one more item, and every other value has what it had
pub record Grows {T V : Type 0} (see : T → V) (old new : ValueMap T) (vals : List Val) (p : V) : Type 0 where
  pub lists : (v : Val) → list_at v (map_view see new) ≡ grown (has_val v vals) p (list_at v (map_view see old))
  pub ascend : Ascend (map_view see old) → Ascend (map_view see new)

-- a list, unless it is empty
abbrev pub if_any : {V : Type 0} → List V → Option (List V)
if_any [] = None
if_any (p ∷ ps) = Some (p ∷ ps)

-- each value that has some has its list
pub record Holds {V : Type 0} (f : Val → List V) (gs : List (Group V)) : Type 0 where
  pub lists : (v : Val) → list_at v gs ≡ if_any (f v)
  pub ascend : Ascend gs
