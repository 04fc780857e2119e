-- Lists of filters, of several facets.
use Rattle.std.specs.Prelude.{List, Bool, All, map}
use denote.Ref.{Bor}
use Rattle.fc_spec.specs.queries.Query as definition
use Rattle.fc_spec.specs.words.Lists.{joined}
use Rattle.fc_query.specs.QueryView.{query_view}
use Rattle.fc_query.specs.declared.query.Query.{Query}
use Rattle.fc_domain.specs.FieldsFit.{FitsFields}

-- the queries of the lists, in their order
abbrev pub queries_in : List (Bor (List Query)) → List definition.Query
queries_in lists = joined (map (λ qs. map query_view qs.now) lists)

-- for each field whether it holds texts: each query of each list fits them
abbrev pub AllQueriesFit : List Bool → List (Bor (List Query)) → Type 0
AllQueriesFit texts lists = All (λ qs. All (FitsFields texts) (map query_view qs.now)) lists
