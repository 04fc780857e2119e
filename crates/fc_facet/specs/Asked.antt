-- What a node asks.
use Rattle.fc_spec.specs.requests.Request as definition
use Rattle.fc_base.specs.StatisticView.{stat_view}
use Rattle.fc_query.specs.QueryView.{query_view}
use Rattle.fc_facet.specs.declared.kind.Kind.{Kind}
use Rattle.fc_facet.specs.declared.kind.Kind.TheVariants as kind
use Rattle.fc_facet.specs.KindView.{terms_view, range_view, date_range_view}

-- buckets of a kind, or a statistic
pub data Asked : Type 0 where
  buckets : definition.Kind → Asked
  statistic : definition.Stat → Asked

abbrev pub asked_view : Kind → Asked
asked_view (kind.Terms t) = buckets (definition.terms (terms_view t))
asked_view (kind.Range g) = buckets (definition.range (range_view g))
asked_view (kind.Query q) = buckets (definition.query (query_view q))
asked_view (kind.DateRange g) = buckets (definition.date_range (date_range_view g))
asked_view (kind.Stat s) = statistic (stat_view s)
