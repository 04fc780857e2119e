-- Statistics of documents, each of which has exactly one integer in the field.
use Rattle.std.specs.Prelude.{ℕ, ℤ, pos, List, map, slice_index_or}
use Rattle.fc_spec.specs.documents.Val.{long}
use Rattle.fc_spec.specs.requests.Request.{StatKind, missing}
use Rattle.fc_spec.specs.requests.Statistics.{StatValue, number}
use Rattle.fc_partial.specs.OneDocument.{statistic_of}

-- the integers of the documents at positions
abbrev pub integers_at : List ℤ → List ℕ → List ℤ
integers_at values positions = map (λ at. slice_index_or values at (pos 0)) positions

-- of the documents that have these integers, one each
abbrev pub statistic_of_singles : StatKind → List ℤ → StatValue
statistic_of_singles missing zs = number (pos 0)
statistic_of_singles of zs = statistic_of of (map long zs)
