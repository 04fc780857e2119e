-- What a text means, from its tokens and their tree.
use Rattle.std.proofs.Common.{◌≡◌, refl, ap, sym, List, Some, Result, Ok, Err, IfOk}
use Rattle.fc_spec.specs.documents.Val.{Text}
use Rattle.fc_spec.specs.documents.Schema as schema
use Rattle.fc_spec.specs.queries.QueryTokens.{Token}
use Rattle.fc_spec.specs.queries.QueryRow.{tokens_of}
use Rattle.fc_spec.specs.queries.QueryTrees.{Group}
use Rattle.fc_spec.specs.queries.QueryMeaning.{tree_query}
use Rattle.fc_spec.specs.queries.QueryTexts.{query_of}
use Rattle.fc_spec.specs.queries.ValidQueries.{IsValidQuery}
use Rattle.fc_spec.specs.queries.TreeReading.{tree_of}
use Rattle.fc_spec.proofs.queries.TreesOfTokens.{tree_spells}
use Rattle.fc_base.specs.Answers.{Answers}
use Rattle.fc_base.specs.declared.error.Refusal.{Refusal}
use Rattle.fc_base.specs.declared.error.Refusal.TheVariants.{Memory, Fault}
use Rattle.fc_query.specs.declared.fault.QueryFault.{QueryFault}
use Rattle.fc_query.specs.declared.query.Query.{Query}
use Rattle.fc_query.specs.QueryView.{query_fault_view, query_view}
use Rattle.fc_query.specs.Takes.{Stops}
use Rattle.fc_spec.proofs.queries.ValidTrees.{tree_valid}

-- the answer for a text without tokens
pub without_row : (s : schema.Schema) (t : Text) (stop : Refusal QueryFault) → Stops stop (tokens_of t) → Answers query_view query_fault_view (Err stop) (query_of s t)
unfolding query_of
without_row s t Memory h = tt
without_row s t (Fault f) h = rw (h.0) (ap (λ x. Err (query_fault_view x)) (sym h.1))

-- the answer for a text whose tokens have no tree
pub without_tree : (s : schema.Schema) (t : Text) (ts : List Token) (stop : Refusal QueryFault) → tokens_of t ≡ Some ts → Stops stop (tree_of ts) → Answers query_view query_fault_view (Err stop) (query_of s t)
unfolding query_of
without_tree s t ts Memory e h = tt
without_tree s t ts (Fault f) e h = rw (e, h.0) (ap (λ x. Err (query_fault_view x)) (sym h.1))

-- what a text means whose tokens have a tree
pub with_tree : (s : schema.Schema) (t : Text) (ts : List Token) (g : Group) → tokens_of t ≡ Some ts → tree_of ts ≡ Some g → query_of s t ≡ tree_query s g
unfolding query_of
with_tree s t ts g e h = rw (e, h) refl

pub is_valid : (s : schema.Schema) (ts : List Token) (g : Group) (r : Result Query (Refusal QueryFault)) → tree_of ts ≡ Some g → Answers query_view query_fault_view r (tree_query s g)
    → IfOk r (λ q. IsValidQuery s (query_view q))
is_valid s ts g (Ok q) h k = tree_valid s g (query_view q) ((tree_spells ts g h).0.1) k
is_valid s ts g (Err e) h k = tt
