-- What stands inside the buckets of a range: nothing where they are empty.
use Rattle.std.specs.Prelude.{pos, true, refl, codes}
use Rattle.fc_spec.specs.queries.Query.{all}
use Rattle.fc_spec.specs.requests.Request.{Range, sum, range, query, no_nodes, statistic, facet, Request}
use Rattle.fc_rows.proofs.Words.{written, BothSay, range_on, stat, named, asking}
use Rattle.fc_rows.proofs.replies.RangeEnds.{documents}

-- from 13 to 21 by 4, above all numbers
abbrev pub above : Range
above = record (range_on 1 (pos 13) (pos 21) (pos 4)) { before = true; after = true }

abbrev pub request : Request
request = asking (facet (named "r" (range above)) (facet (named "q" (query all)) no_nodes (statistic (codes "s") (stat sum 1) no_nodes)) no_nodes)

pub empty_gaps : BothSay request documents
    (codes "{\"count\":5,\"r\":{\"after\":{\"count\":0},\"before\":{\"count\":5,\"q\":{\"count\":5},\"s\":34},\"buckets\":[{\"count\":0,\"val\":13},{\"count\":0,\"val\":17}]}}")
unfolding written
empty_gaps = (refl, refl)
