-- Values by the shards that listed them.
use Rattle.std.specs.Prelude.{ℕ, List, [], ◌∷◌, Bool, true, false, Vec, option_map, unwrap_or}
use Rattle.std.specs.Borrow.{Bor}
use Rattle.std.specs.BTreeMap.{BTreeMap, is_at}
use Rattle.std.specs.Map.{lookup}
use Rattle.std.specs.Ordering.{nat_cmp}
use Rattle.std.specs.declared.alloc.Global.{Global}
use Rattle.fc_base.specs.declared.value.Val as code
use Rattle.fc_request.specs.FacetNode.{vals_view}
use Rattle.fc_spec.specs.documents.Val.{Val}

-- the code's lists by shard
abbrev pub ShardMap : Type 0
ShardMap = BTreeMap ℕ (Vec (Bor code.Val) Global)

-- the list of a shard; none stands for an empty one
abbrev pub list_of : ℕ → ShardMap → List Val
list_of i m = unwrap_or (option_map (λ v. vals_view v.items) (lookup (is_at (nat_cmp i)) m.entries)) []

-- the value, where it was listed
abbrev pub listed_once : Bool → Val → List Val
listed_once true v = v ∷ []
listed_once false v = []
