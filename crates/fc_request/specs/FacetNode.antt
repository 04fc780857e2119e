-- Nodes that are facets.
use Rattle.std.specs.Prelude.{List, map, Bool, true, false}
use Rattle.fc_spec.specs.documents.Val as value
use Rattle.fc_spec.specs.requests.Request as definition
use Rattle.fc_spec.specs.queries.Query.{all}
use Rattle.fc_base.specs.declared.value.Val.{Val}
use Rattle.fc_base.specs.View.{val_view}
use Rattle.std.specs.Borrow.{Bor}
use Rattle.fc_query.specs.QueryView.{query_view}
use Rattle.fc_facet.specs.declared.kind.Kind.{Kind}
use Rattle.fc_facet.specs.declared.kind.Kind.TheVariants as kind
use Rattle.fc_facet.specs.KindView.{domain_view, terms_view, range_view, date_range_view}
use Rattle.fc_request.specs.declared.node.Node.{Node, out-Node}

-- a statistic has no buckets
abbrev pub has_buckets : Kind → Bool
has_buckets (kind.Stat s) = false
has_buckets _ = true

-- of a statistic any
abbrev pub kind_view : Kind → definition.Kind
kind_view (kind.Terms t) = definition.terms (terms_view t)
kind_view (kind.Range g) = definition.range (range_view g)
kind_view (kind.Query q) = definition.query (query_view q)
kind_view (kind.DateRange g) = definition.date_range (date_range_view g)
kind_view (kind.Stat s) = definition.query all

-- it is a terms facet
abbrev pub IsTerms : Kind → Type 0
IsTerms (kind.Terms t) = Unit {0}
IsTerms _ = ⊥

abbrev pub kind_of : Node → Kind
kind_of n = (out-Node n).kind

-- a node that is a facet, without the nodes nested in it
abbrev pub facet_view : Node → definition.Facet
facet_view n = record { name = (out-Node n).name; change = domain_view (out-Node n).domain; kind = kind_view (out-Node n).kind }

abbrev pub vals_view : List (Bor Val) → List value.Val
vals_view vs = map (λ v. val_view v.now) vs
