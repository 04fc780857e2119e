-- Blocks of different ids.
use Rattle.std.specs.Prelude.{◌≡◌, List, [], map}
use Rattle.fc_spec.specs.documents.Document.{Block, adding}
use Rattle.fc_spec.specs.documents.Operations.{after_ops}

-- no block overwrites another where they are added one after another
abbrev pub HaveOwnIds : List Block → Type 0
HaveOwnIds blocks = after_ops [] (map adding blocks) ≡ blocks
