-- Facets among nodes, and what is listed for them.
use Rattle.std.proofs.Common.{◌≡◌, suc, ◌+◌, ◌*◌, List, [], ◌∷◌, length, Bool, true, false, ◌&&◌, cond, refl, sym, ap, ◌∙◌, arith}
use Rattle.std.specs.Prelude.{IsTrue, count_by}
use Rattle.std.proofs.lemmas.List.Elements.{All-nil, All-cons, All-head, All-same, All-rest}
use Rattle.std.proofs.lemmas.List.Recursion.{is_count_by}
use Rattle.fc_spec.specs.documents.Schema.{Schema}
use Rattle.fc_spec.specs.messages.Answer.{partials_of}
use Rattle.fc_spec.specs.messages.Message.{Rows, no_rows, row}
use Rattle.fc_spec.specs.requests.Buckets.{Key}
use Rattle.fc_spec.specs.requests.Request.{Nodes, no_nodes, statistic, facet}
use Rattle.fc_spec.specs.requests.Shape.{stays}
use Rattle.fc_spec.specs.requests.Statistics.{Stats}
use Rattle.fc_spec.specs.requests.ValidRequests.{AreValidNodes}
use Rattle.fc_facet.specs.declared.kind.Kind.{Kind}
use Rattle.fc_facet.specs.declared.kind.Kind.TheVariants as k
use Rattle.fc_request.specs.FacetNode.{has_buckets, kind_of}
use Rattle.fc_request.specs.NodeView.{nodes_view}
use Rattle.fc_request.specs.declared.node.Node.{Node}
use Rattle.fc_request.proofs.Nodes.{facet_is, statistic_is}
use Rattle.fc_answers.specs.SetAnswer.{Pieces, Scope, Sets, set_rows}
use Rattle.fc_levels.specs.Facets.{Nested, nested_view, facets_of, facet_count}
use Rattle.fc_levels.specs.Jobs.{row_count, opened}
use Rattle.fc_levels.specs.Levels.{row_in}
use Rattle.fc_levels.specs.Steps.{AreValid, AreValidFacets, IsValidNested, IsValidNode}

-- ---- nodes

is_statistic : (kind : Kind) → has_buckets kind ≡ false → (s : _) × (kind ≡ k.Stat s)
is_statistic (k.Stat s) h = (s, refl)
is_statistic (k.Terms t) h = absurd (cc h)
is_statistic (k.Range g) h = absurd (cc h)
is_statistic (k.Query q) h = absurd (cc h)
is_statistic (k.DateRange g) h = absurd (cc h)

pub facet_first : (n : Node) (ns : List Node) → has_buckets (kind_of n) ≡ true → facets_of (nodes_view (n ∷ ns)) ≡ nested_view n ∷ facets_of (nodes_view ns)
facet_first n ns h = ap facets_of (facet_is n h (nodes_view ns))

pub statistic_first : (n : Node) (ns : List Node) → has_buckets (kind_of n) ≡ false → facets_of (nodes_view (n ∷ ns)) ≡ facets_of (nodes_view ns)
statistic_first n ns h = let s = is_statistic (kind_of n) h in ap facets_of (statistic_is n s.0 s.1 (nodes_view ns))

one_counted : (n : Node) (ns : List Node) → facet_count (nodes_view (n ∷ ns)) ≡ cond (has_buckets (kind_of n)) (1 + facet_count (nodes_view ns)) (facet_count (nodes_view ns))
one_counted n ns = go (has_buckets (kind_of n)) refl
  where
    go : (b : Bool) → has_buckets (kind_of n) ≡ b → facet_count (nodes_view (n ∷ ns)) ≡ cond b (1 + facet_count (nodes_view ns)) (facet_count (nodes_view ns))
    go true h = let e : length (facets_of (nodes_view (n ∷ ns))) ≡ suc (length (facets_of (nodes_view ns))) = ap length (facet_first n ns h) in omega arith
    go false h = ap length (statistic_first n ns h)

pub facets_counted : (ns : List Node) → facet_count (nodes_view ns) ≡ count_by (λ n. has_buckets (kind_of n)) ns
facets_counted ns = is_count_by (λ xs. facet_count (nodes_view xs)) (λ n. has_buckets (kind_of n)) refl one_counted ns

-- ---- valid nodes

facets_valid : (s : Schema) (unmoved : Bool) (nodes : Nodes) → AreValidNodes s unmoved nodes → AreValidFacets s nodes
facets_valid s unmoved no_nodes h = All-nil (IsValidNested s)
facets_valid s unmoved (statistic name st rest) h = facets_valid s unmoved rest h.1
facets_valid s unmoved (facet f inner rest) h = All-cons (IsValidNested s) (f, inner) (facets_of rest) (record { valid = (unmoved, h.0); inner = (unmoved && stays f.change, h.1) }) (facets_valid s unmoved rest h.2)

pub valid_facets : (s : Schema) (nodes : Nodes) → AreValid s nodes → AreValidFacets s nodes
valid_facets s nodes h = facets_valid s h.0 nodes h.1

-- the first facet of nodes that are valid is, and so are those behind
pub first_valid : (s : Schema) (nodes rest : Nodes) (n : Node) → facets_of nodes ≡ nested_view n ∷ facets_of rest → IsTrue (has_buckets (kind_of n)) → AreValidFacets s nodes → IsValidNode s n
first_valid s nodes rest n e h v =
    let here : IsValidNested s (nested_view n) = All-head (IsValidNested s) (nested_view n) (facets_of rest) (All-same (IsValidNested s) (nested_view n ∷ facets_of rest) (facets_of nodes) (sym e) v) in
    record { facet = h; valid = here.valid; inner = here.inner }

pub rest_valid : (s : Schema) (nodes rest : Nodes) (n : Node) → facets_of nodes ≡ nested_view n ∷ facets_of rest → AreValidFacets s nodes → AreValidFacets s rest
rest_valid s nodes rest n e v = All-rest (IsValidNested s) (nested_view n) (facets_of rest) (facets_of nodes) e v

-- ---- lists

module _ (o : Scope) (V : Pieces) where
  -- a list for each of the facets
  rows_of : List Nested → Sets → Rows
  rows_of [] sets = no_rows
  rows_of (n ∷ ns) sets = row (row_in o V n sets) (rows_of ns sets)

  by_facets : (nodes : Nodes) (sets : Sets) → set_rows o V nodes sets ≡ rows_of (facets_of nodes) sets
  unfolding rows_of
  by_facets no_nodes sets = refl
  by_facets (statistic name s rest) sets = by_facets rest sets
  by_facets (facet f inner rest) sets = ap (row (row_in o V (f, inner) sets)) (by_facets rest sets)

  pub rows_alike : (a b : Nodes) (sets : Sets) → facets_of a ≡ facets_of b → set_rows o V a sets ≡ set_rows o V b sets
  rows_alike a b sets e = by_facets a sets ∙ ap (λ ns. rows_of ns sets) e ∙ sym (by_facets b sets)

  pub rows_none : (a : Nodes) (sets : Sets) → facets_of a ≡ [] → set_rows o V a sets ≡ no_rows
  rows_none a sets e = rows_alike a no_nodes sets e

  pub rows_first : (a rest : Nodes) (n : Nested) (sets : Sets) → facets_of a ≡ n ∷ facets_of rest → set_rows o V a sets ≡ row (row_in o V n sets) (set_rows o V rest sets)
  rows_first a rest n sets e = rows_alike a (facet n.0 n.1 rest) sets e

  pub rows_counted : (nodes : Nodes) (sets : Sets) → row_count (set_rows o V nodes sets) ≡ facet_count nodes
  rows_counted no_nodes sets = refl
  rows_counted (statistic name s rest) sets = rows_counted rest sets
  rows_counted (facet f inner rest) sets = ap suc (rows_counted rest sets)

pub opened_of : (V : Pieces) (inner : Nodes) (stats : Key → Stats) (scopes : Key → Scope) (sets : Key → Sets) (keys : List Key) → opened (partials_of stats (λ k. set_rows (scopes k) V inner (sets k)) keys) ≡ length keys * facet_count inner
opened_of V inner stats scopes sets [] = omega arith
opened_of V inner stats scopes sets (key ∷ keys) =
    let here : row_count (set_rows (scopes key) V inner (sets key)) ≡ facet_count inner = rows_counted (scopes key) V inner (sets key) in
    let there : opened (partials_of stats (λ k. set_rows (scopes k) V inner (sets k)) keys) ≡ length keys * facet_count inner = opened_of V inner stats scopes sets keys in
    grind arith
