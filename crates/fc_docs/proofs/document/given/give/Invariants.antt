use Rattle.std.proofs.Common.{◌≡◌, ◌++◌, map}
use Rattle.fc_base.specs.View.{val_view}
use Rattle.fc_docs.specs.Direct.{given_view, giving}
use Rattle.fc_docs.proofs.document.given.give.Given as goal

abbrev pub invariant-loop-val : goal.invariant-loop-val
invariant-loop-val l =
    given_view l.given.items ++ giving l.field.0 (map val_view l.val-iterator.rest.items) ≡ given_view l.fn.given.items ++ giving l.field.0 (map val_view l.fn.values.items)
