use Rattle.std.proofs.Common.{◌≡◌, ◌≤◌, List, ◌++◌, length}
use Rattle.fc_spec.specs.documents.Val.{Val}
use Rattle.fc_base.specs.View.{field_type_view}
use Rattle.fc_docs.specs.Direct.{given_view, giving}
use Rattle.fc_docs.proofs.ItemsSoFar.{ItemsSoFar}
use Rattle.fc_docs.proofs.direct.values.read_items.Given as goal

abbrev pub invariant-items : goal.invariant-items
invariant-items l =
    (vs : List Val) × ItemsSoFar (field_type_view l.kind) l.initial.reader l.reader vs
    × (given_view l.given.items ≡ given_view l.fn.given.items ++ giving l.field.0 vs)
    × (length l.reader ≤ length l.initial.reader)

abbrev pub decreases-items : goal.decreases-items
decreases-items l = length l.reader
