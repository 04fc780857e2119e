-- What a query text means is valid for the schema.
use Rattle.std.proofs.Common.{◌≡◌, refl, ◌≤◌, List, Option, None, Some, IfOk, Result, Ok, Err, ok_or}
use Rattle.std.specs.Option.{option_and_then}
use Rattle.fc_spec.specs.documents.Val.{Text}
use Rattle.fc_spec.specs.documents.Schema.{Schema}
use Rattle.fc_spec.specs.queries.Query.{Query}
use Rattle.fc_spec.specs.queries.QueryFault.{QueryFault, syntax}
use Rattle.fc_spec.specs.queries.QueryTokens.{Token}
use Rattle.fc_spec.specs.queries.QueryRow.{tokens_of}
use Rattle.fc_spec.specs.queries.QueryTrees.{Group}
use Rattle.fc_spec.specs.queries.QueryForms.{nesting}
use Rattle.fc_spec.specs.queries.QueryMeaning.{tree_query}
use Rattle.fc_spec.specs.queries.TreeReading.{tree_of}
use Rattle.fc_spec.specs.queries.QueryTexts.{query_of}
use Rattle.fc_spec.specs.queries.ValidQueries.{IsValidQuery}
use Rattle.fc_spec.specs.words.Walks.{◌>>=◌}
use Rattle.fc_spec.proofs.queries.ValidTrees.{tree_valid}
use Rattle.fc_spec.proofs.queries.TreesOfTokens.{tree_spells}

of_tree : (s : Schema) (g : Group) (r : Result Query QueryFault) → nesting g ≤ 64 → tree_query s g ≡ r → IfOk r (IsValidQuery s)
of_tree s g (Ok q) small e = tree_valid s g q small e
of_tree s g (Err e) small h = tt

of_row : (s : Schema) (ts : List Token) (o : Option Group) → tree_of ts ≡ o → IfOk (ok_or o syntax >>= tree_query s) (IsValidQuery s)
of_row s ts None e = tt
of_row s ts (Some g) e = of_tree s g (tree_query s g) ((tree_spells ts g e).0.1) refl

of_tokens : (s : Schema) (o : Option (List Token)) → IfOk (ok_or (option_and_then tree_of o) syntax >>= tree_query s) (IsValidQuery s)
of_tokens s None = tt
of_tokens s (Some ts) = of_row s ts (tree_of ts) refl

pub text_valid : (s : Schema) (t : Text) → IfOk (query_of s t) (IsValidQuery s)
unfolding query_of
text_valid s t = of_tokens s (tokens_of t)
