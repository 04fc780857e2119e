-- Buckets with nothing nested, one for each entry.
use Rattle.std.proofs.Common.{◌≡◌, List, [], ◌∷◌, map, refl, ap}
use Rattle.fc_spec.specs.messages.Message.{partial, no_rows}
use Rattle.fc_partial.specs.BucketView.{linked, bare, bare_part}
use Rattle.fc_partial.specs.Tallied.{Entry}

pub linked_bare : (es : List Entry) → linked (map bare_part es) ≡ bare es
linked_bare [] = refl
linked_bare (e ∷ es) = ap (λ ps. partial e.0 e.1 no_rows ps) (linked_bare es)
