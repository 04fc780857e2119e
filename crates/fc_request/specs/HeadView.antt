-- What the heads of nodes stand for.
use Rattle.std.specs.Prelude.{option_map}
use Rattle.serde_json.specs.View.{view, members_view}
use Rattle.fc_spec.specs.requests.Request as definition
use Rattle.fc_base.specs.StatisticView.{stat_view}
use Rattle.fc_query.specs.QueryView.{query_view}
use Rattle.fc_spec.specs.requests.RequestReading as reading
use Rattle.fc_request.specs.declared.reading.head.FacetType.{FacetType}
use Rattle.fc_request.specs.declared.reading.head.FacetType.TheVariants as type
use Rattle.fc_request.specs.declared.reading.head.KindHead.{KindHead}
use Rattle.fc_request.specs.declared.reading.head.KindHead.TheVariants as kind
use Rattle.fc_request.specs.declared.reading.head.Head.{Head}
use Rattle.fc_request.specs.declared.reading.head.Head.TheVariants as head
use Rattle.fc_facet.specs.KindView.{domain_view, terms_view, range_view, date_range_view}
use Rattle.fc_request.specs.Heads as said

abbrev pub kind_head_view : KindHead → said.KindHead
kind_head_view (kind.Terms t json) = said.unsorted (terms_view t) (option_map (λ json. view json.now) json)
kind_head_view (kind.Number t) = said.whole (definition.terms (terms_view t))
kind_head_view (kind.Range g) = said.whole (definition.range (range_view g))
kind_head_view (kind.DateRange g) = said.whole (definition.date_range (date_range_view g))
kind_head_view (kind.Query q) = said.whole (definition.query (query_view q))

abbrev pub head_view : Head → said.Head
head_view (head.Statistic s) = said.statistic_head (stat_view s)
head_view (head.Facet d k members) = said.facet_head (domain_view d) (kind_head_view k) (option_map (λ ms. members_view ms.now.entries) members)

abbrev pub facet_type_view : FacetType → reading.FacetType
facet_type_view type.Terms = reading.terms_type
facet_type_view type.Range = reading.range_type
facet_type_view type.Query = reading.query_type
facet_type_view type.Func = reading.func_type
