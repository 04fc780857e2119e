-- What is left of the limits on documents and values.
use Rattle.std.specs.Prelude.{◌+◌, ◌-◌, List, length, ◌&&◌, nat_le, Option, None, Some, if◌then◌else◌}
use Rattle.fc_spec.specs.documents.Document.{Block}
use Rattle.fc_spec.specs.documents.Totals.{documents_of, document_total, value_count, value_total}
use Rattle.fc_spec.specs.scripts.ScriptTotals.{Limits}

-- what is left of the limits when a block takes its places
abbrev pub limits_after : Limits → Block → Option Limits
limits_after left b =
    let documents = length (documents_of b) in
    let values = value_count (documents_of b) in
    if nat_le documents left.documents && nat_le values left.values
    then Some (record { documents = left.documents - documents; values = left.values - values })
    else None

-- the limits of which so much is left behind the blocks
abbrev pub limits_with : Limits → List Block → Limits
limits_with left blocks = record { documents = left.documents + document_total blocks; values = left.values + value_total blocks }
