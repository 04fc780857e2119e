-- What a range facet has to be for its gaps to be counted.
use Rattle.std.specs.Prelude.{◌≤◌, ◌≤ℤ◌, ◌<ℤ◌, pos}
use Rattle.std.specs.Prelude.{length}
use Rattle.std.specs.List.Sorted.{IsStrictlySortedBy}
use Rattle.fc_spec.specs.documents.Val.{text_cmp}
use Rattle.fc_spec.specs.requests.Request.{Range, DateRange}
use Rattle.fc_spec.specs.requests.Gaps.{gap_count}

-- its end is at least its start and its gap at least 1, and there are at most 10,000 gaps
pub record HasFewGaps (g : Range) : Type 0 where
  pub ordered : g.start ≤ℤ g.end
  pub forward : pos 0 <ℤ g.gap
  pub few : gap_count g ≤ 10_000

-- there is an edge, and there are at most 10,000 gaps; the edges ascend
pub record HasFewEdges (g : DateRange) : Type 0 where
  pub some : 1 ≤ length g.edges
  pub few : length g.edges ≤ 10_001
  pub ascending : IsStrictlySortedBy text_cmp g.edges
