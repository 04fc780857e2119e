-- What facets of each kind and domain changes stand for in the definitions.
use Rattle.std.specs.Prelude.{map}
use Rattle.fc_spec.specs.requests.Request as definition
use Rattle.fc_query.specs.QueryView.{query_view}
use Rattle.fc_facet.specs.declared.domain.Domain.{Domain}
use Rattle.fc_facet.specs.declared.domain.BlockStep.{BlockStep}
use Rattle.fc_facet.specs.declared.domain.BlockStep.TheVariants as step
use Rattle.fc_facet.specs.declared.kind.SortKey.{SortKey}
use Rattle.fc_facet.specs.declared.kind.SortKey.TheVariants as key
use Rattle.fc_facet.specs.declared.kind.Sort.{Sort}
use Rattle.fc_facet.specs.declared.kind.Show.{Show}
use Rattle.fc_facet.specs.declared.kind.Show.TheVariants as show
use Rattle.fc_facet.specs.declared.kind.Terms.{Terms}
use Rattle.fc_facet.specs.declared.kind.Range.{Range}
use Rattle.fc_facet.specs.declared.kind.DateRange.{DateRange}
use Rattle.fc_facet.specs.declared.kind.AnyRange.{AnyRange}
use Rattle.fc_facet.specs.declared.kind.AnyRange.TheVariants as ranged

abbrev pub step_view : BlockStep → definition.BlockStep
step_view step.Stay = definition.stay
step_view (step.Parents q) = definition.parents (query_view q)
step_view (step.Children q) = definition.children (query_view q)

abbrev pub domain_view : Domain → definition.DomainChange
domain_view d = record { exclude = d.exclude.items; block = step_view d.block; filters = map query_view d.filters.items }

abbrev pub sort_key_view : SortKey → definition.SortKey
sort_key_view key.Count = definition.by_count
sort_key_view key.Index = definition.by_index
sort_key_view (key.Stat n) = definition.by_statistic n

abbrev pub sort_view : Sort → definition.Sort
sort_view s = record { by = sort_key_view s.by; descending = s.descending }

abbrev pub show_view : Show → definition.Show
show_view show.Buckets = definition.its_buckets
show_view show.Number = definition.its_number
show_view show.Beside = definition.number_beside

abbrev pub terms_view : Terms → definition.Terms
terms_view t = record {
  field = t.field.0;
  offset = t.offset;
  limit = t.limit;
  sort = sort_view t.sort;
  mincount = t.mincount;
  missing = t.missing;
  prefix = t.prefix;
  refine = t.refine;
  exact = t.exact;
  overrequest = t.overrequest;
  overrefine = t.overrefine;
  show = show_view t.show;
}

abbrev pub range_view : Range → definition.Range
range_view g = record {
  field = g.field.0;
  start = g.start;
  end = g.end;
  gap = g.gap;
  hardend = g.hardend;
  before = g.before;
  after = g.after;
  between = g.between;
  lower = g.lower;
  upper = g.upper;
  edge = g.edge;
  outer = g.outer;
}

abbrev pub date_range_view : DateRange → definition.DateRange
date_range_view g = record {
  field = g.field.0;
  edges = g.edges.items;
  before = g.before;
  after = g.after;
  between = g.between;
  lower = g.lower;
  upper = g.upper;
  edge = g.edge;
  outer = g.outer;
}

abbrev pub any_range_view : AnyRange → definition.Kind
any_range_view (ranged.Integers g) = definition.range (range_view g)
any_range_view (ranged.Dates g) = definition.date_range (date_range_view g)
