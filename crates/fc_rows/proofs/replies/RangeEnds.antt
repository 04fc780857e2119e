-- A range facet: which ends its buckets hold.
use Rattle.std.specs.Prelude.{◌≡◌, pos, [], ◌∷◌, true, false, refl, codes}
use Rattle.fc_spec.specs.documents.World.{World}
use Rattle.fc_spec.specs.requests.Request.{Range, range, no_nodes, facet, Request}
use Rattle.fc_spec.specs.requests.Gaps.{low_end}
use Rattle.fc_rows.proofs.Words.{written, BothSay, said, numbered, alone, range_on, named, asking}

-- fields: id, n
abbrev pub documents : World
documents =
    (alone (said "1" ∷ numbered (pos 0) ∷ []) ∷ alone (said "2" ∷ numbered (pos 4) ∷ []) ∷ alone (said "3" ∷ numbered (pos 8) ∷ [])
    ∷ alone (said "4" ∷ numbered (pos 10) ∷ []) ∷ alone (said "5" ∷ numbered (pos 12) ∷ []) ∷ [])
    ∷ []

-- from 0 to 10 by 4, with all that stands beside the gaps
abbrev pub by_four : Range
by_four = record (range_on 1 (pos 0) (pos 10) (pos 4)) { before = true; after = true; between = true }

abbrev pub asking_one : Range → Request
asking_one g = asking (facet (named "r" (range g)) no_nodes no_nodes)

-- each bucket holds its low end
pub with_lower : BothSay (asking_one by_four) documents
    (codes "{\"count\":5,\"r\":{\"after\":{\"count\":1},\"before\":{\"count\":0},\"between\":{\"count\":4},\"buckets\":[{\"count\":1,\"val\":0},{\"count\":1,\"val\":4},{\"count\":2,\"val\":8}]}}")
unfolding written
with_lower = (refl, refl)

-- the last bucket ends at the range's end
pub hard_end : BothSay (asking_one (record by_four { hardend = true })) documents
    (codes "{\"count\":5,\"r\":{\"after\":{\"count\":2},\"before\":{\"count\":0},\"between\":{\"count\":3},\"buckets\":[{\"count\":1,\"val\":0},{\"count\":1,\"val\":4},{\"count\":1,\"val\":8}]}}")
unfolding written
hard_end = (refl, refl)

-- each bucket holds its high end
pub with_upper : BothSay (asking_one (record by_four { lower = false; upper = true })) documents
    (codes "{\"count\":5,\"r\":{\"after\":{\"count\":0},\"before\":{\"count\":1},\"between\":{\"count\":4},\"buckets\":[{\"count\":1,\"val\":0},{\"count\":1,\"val\":4},{\"count\":2,\"val\":8}]}}")
unfolding written
with_upper = (refl, refl)

-- the first bucket holds its low end, and the last its high end
pub with_edge : BothSay (asking_one (record by_four { lower = false; edge = true })) documents
    (codes "{\"count\":5,\"r\":{\"after\":{\"count\":0},\"before\":{\"count\":0},\"between\":{\"count\":5},\"buckets\":[{\"count\":1,\"val\":0},{\"count\":0,\"val\":4},{\"count\":2,\"val\":8}]}}")
unfolding written
with_edge = (refl, refl)

-- what lies before and after holds the ends
pub with_outer : BothSay (asking_one (record by_four { lower = false; outer = true })) documents
    (codes "{\"count\":5,\"r\":{\"after\":{\"count\":1},\"before\":{\"count\":1},\"between\":{\"count\":3},\"buckets\":[{\"count\":0,\"val\":0},{\"count\":0,\"val\":4},{\"count\":1,\"val\":8}]}}")
unfolding written
with_outer = (refl, refl)

pub third_low_end : low_end by_four 2 ≡ pos 8
third_low_end = refl

-- a range from 5 to 5 has no bucket, and its last high end is its end
abbrev pub no_gap : Range
no_gap = record by_four { start = pos 5; end = pos 5; gap = pos 1 }

pub without_gaps : BothSay (asking_one no_gap) documents
    (codes "{\"count\":5,\"r\":{\"after\":{\"count\":3},\"before\":{\"count\":2},\"between\":{\"count\":0},\"buckets\":[]}}")
unfolding written
without_gaps = (refl, refl)

-- all four: an end between two gaps is in both, and the outer ends are held on both sides
pub with_all : BothSay (asking_one (record by_four { upper = true; edge = true; outer = true })) documents
    (codes "{\"count\":5,\"r\":{\"after\":{\"count\":1},\"before\":{\"count\":1},\"between\":{\"count\":5},\"buckets\":[{\"count\":2,\"val\":0},{\"count\":2,\"val\":4},{\"count\":3,\"val\":8}]}}")
unfolding written
with_all = (refl, refl)

-- from 4 to 4 what lies after begins at the range's end, and not one gap later
abbrev pub at_one_point : Range
at_one_point = record (range_on 1 (pos 4) (pos 4) (pos 4)) { before = true; after = true }

pub beside_a_point : BothSay (asking_one at_one_point) documents
    (codes "{\"count\":5,\"r\":{\"after\":{\"count\":4},\"before\":{\"count\":1},\"buckets\":[]}}")
unfolding written
beside_a_point = (refl, refl)
