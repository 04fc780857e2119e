-- What one list with the places where lists start stands for.
use Rattle.std.specs.Prelude.{List, vec_len}
use Rattle.fc_lists.specs.Starts.{AreStarts, cut, starts_in}
use Rattle.fc_lists.specs.declared.lists.Lists.TheInside.{Inside}

abbrev pub lists_in : {T : Type 0} → Inside T → List (List T)
lists_in inside = cut (starts_in inside.starts (vec_len inside.items)) inside.items.items

abbrev pub AreLists : {T : Type 0} → Inside T → Type 0
AreLists inside = AreStarts (starts_in inside.starts (vec_len inside.items)) (vec_len inside.items)
