-- What a query text means for a schema, or its fault.
use Rattle.std.specs.Prelude.{◌≡◌, Some, Result, Err, ok_or, ◌⊎◌}
use Rattle.std.specs.Option.{option_and_then}
use Rattle.fc_spec.specs.documents.Val.{Text}
use Rattle.fc_spec.specs.documents.Schema.{Schema}
use Rattle.fc_spec.specs.queries.Query.{Query}
use Rattle.fc_spec.specs.queries.QueryFault.{QueryFault, syntax}
use Rattle.fc_spec.specs.queries.QueryRow.{tokens_of}
use Rattle.fc_spec.specs.queries.QueryTrees.{Group, group_tokens}
use Rattle.fc_spec.specs.queries.QueryForms.{IsTree}
use Rattle.fc_spec.specs.queries.QueryMeaning.{tree_query}
use Rattle.fc_spec.specs.queries.TreeReading.{tree_of}
use Rattle.fc_spec.specs.words.Walks.{◌>>=◌}

-- the query of a text's tree, or that tree's fault; a text without a tree has a fault of syntax
unfoldable pub query_of : Schema → Text → Result Query QueryFault
query_of s t = do
  g ← ok_or (option_and_then tree_of (tokens_of t)) syntax
  tree_query s g

-- ---- the same by what trees spell

-- a well-formed tree spells the tokens of the text
abbrev pub IsTreeOf : Text → Group → Type 0
IsTreeOf t g = IsTree g × (tokens_of t ≡ Some (group_tokens g))

-- a tree of the text has this query or fault; or the text has no tree, and that is the fault
abbrev pub IsReadingOf : Schema → Text → Result Query QueryFault → Type 0
IsReadingOf s t r = ((g : Group) × IsTreeOf t g × (r ≡ tree_query s g)) ⊎ (((g : Group) → ¬ (IsTreeOf t g)) × (r ≡ Err syntax))
