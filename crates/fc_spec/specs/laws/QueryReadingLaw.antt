-- What a query text means is what its trees say.
use Rattle.std.specs.Prelude.{◌≡◌, Result}
use Rattle.fc_spec.specs.documents.Val.{Text}
use Rattle.fc_spec.specs.documents.Schema.{Schema}
use Rattle.fc_spec.specs.queries.Query.{Query}
use Rattle.fc_spec.specs.queries.QueryFault.{QueryFault}
use Rattle.fc_spec.specs.queries.QueryTexts.{query_of, IsReadingOf}

-- for each schema the query or fault of a text is the one that the trees of the text give, and they give no other
abbrev pub HasOneReading : Type 0
HasOneReading = (s : Schema) (t : Text) → IsReadingOf s t (query_of s t) × ((q : Result Query QueryFault) → IsReadingOf s t q → q ≡ query_of s t)
