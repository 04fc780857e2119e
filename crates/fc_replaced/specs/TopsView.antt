-- What lists of top values stand for.
use Rattle.std.specs.Prelude.{List, map, Vec}
use Rattle.std.specs.declared.alloc.Global.{Global}
use Rattle.fc_spec.specs.documents.Val as definition
use Rattle.fc_base.specs.View.{val_view}
use Rattle.fc_base.specs.declared.value.Val.{Val}

abbrev pub vals_view : List Val → List definition.Val
vals_view vs = map val_view vs

-- one list for each exact facet
abbrev pub tops_view : List (Vec Val Global) → List (List definition.Val)
tops_view lists = map (λ list. vals_view list.items) lists
