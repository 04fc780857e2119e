-- Query facets in the place of exact ones, one node after another.
use Rattle.std.proofs.Common.{◌≡◌, List, [], ◌∷◌, ◌++◌, Bool, true, false, None, Some, if◌then◌else◌, is_some, refl, ap, sym, ◌∙◌}
use Rattle.fc_spec.specs.documents.Val.{Val}
use Rattle.fc_spec.specs.queries.Query.{Query}
use Rattle.fc_spec.specs.requests.Request as request
use Rattle.fc_spec.specs.requests.Request.{Facet, Terms, Nodes}
use Rattle.fc_spec.specs.requests.RequestReading.{of_statistic, of_facet}
use Rattle.fc_spec.specs.requests.Shape as shape
use Rattle.fc_spec.specs.requests.Buckets.{Key}
use Rattle.fc_spec.specs.replies.Tops.{first_list, key_nodes, key_query, lists_after, replaced_facet, replaced_nodes, top_keys}
use Rattle.fc_facet.specs.declared.kind.Kind.{Kind}
use Rattle.fc_facet.specs.declared.kind.Kind.TheVariants as k
use Rattle.fc_facet.specs.KindView.{domain_view, terms_view}
use Rattle.fc_request.specs.declared.node.Node.{Node, out-Node}
use Rattle.fc_request.specs.FacetNode.{facet_view, kind_of, kind_view}
use Rattle.fc_request.specs.NodeView.{Part, node_view, inner_view}
use Rattle.fc_request.proofs.Nodes.{before, node_is}
use Rattle.fc_replaced.specs.ExactParts.{exact_of, is_exact, replaced_node}
use Rattle.fc_replaced.proofs.ExactKinds.{exact_kind, is_exact_by, part_with}

pub key_nodes-append : (f : Facet) (t : Terms) (inner : Nodes) (ks ls : List Key) (more : Nodes) → key_nodes f t inner (ks ++ ls) more ≡ key_nodes f t inner ks (key_nodes f t inner ls more)
key_nodes-append f t inner [] ls more = refl
key_nodes-append f t inner (k ∷ ks) ls more = ap (request.facet (record f { kind = request.query (key_query t k) }) inner) (key_nodes-append f t inner ks ls more)

-- the query facet of a node
pub query_before : (n : Node) (q : Query) (made : Part) (more : Nodes)
    → made ≡ ((out-Node n).name, of_facet (domain_view (out-Node n).domain) (request.query q) (inner_view n))
    → before made more ≡ request.facet (record (facet_view n) { kind = request.query q }) (inner_view n) more
query_before n q made more is = ap (λ p. before p more) is

pub not_taken : (vss : List (List Val)) → lists_after false vss ≡ vss
not_taken [] = refl
not_taken (vs ∷ vss) = refl

pub replaced_nodes-before : (p : Part) (rest : Nodes) (vss : List (List Val)) → replaced_nodes (before p rest) vss ≡ replaced_node p (first_list vss) (replaced_nodes rest (lists_after (is_exact p) vss))
replaced_nodes-before (name, of_statistic s) rest vss = ap (λ lists. request.statistic name s (replaced_nodes rest lists)) (sym (not_taken vss))
replaced_nodes-before (name, of_facet change kind inner) rest vss = refl

-- the same by what is found of the node
pub node_replaced : (p : Part) (rest : Nodes) (lists after : List (List Val)) (vs : List Val) (exact : Bool) → vs ≡ first_list lists → exact ≡ is_exact p → after ≡ lists_after exact lists
    → replaced_node p vs (replaced_nodes rest after) ≡ replaced_nodes (before p rest) lists
node_replaced p rest lists after vs exact first is behind =
    ap (λ us. replaced_node p us (replaced_nodes rest after)) first
    ∙ ap (λ vss. replaced_node p (first_list lists) (replaced_nodes rest vss)) (behind ∙ ap (λ b. lists_after b lists) is)
    ∙ sym (replaced_nodes-before p rest lists)

abbrev chosen_if : Bool → Nodes → Nodes → Nodes
chosen_if is kept more = if is then kept else more

-- in the place of an exact facet
exact_by_kind : (n : Node) (kind : Kind) (t : Terms) (vs : List Val) (more : Nodes) → exact_of (kind_view kind) ≡ Some t
    → replaced_node (part_with n kind) vs more ≡ key_nodes (record { name = (out-Node n).name; change = domain_view (out-Node n).domain; kind = kind_view kind }) t (inner_view n) (top_keys t vs) more
exact_by_kind n (k.Terms u) t vs more h =
    let kind = kind_view (k.Terms u) in
    let f : Facet = record { name = (out-Node n).name; change = domain_view (out-Node n).domain; kind = kind } in
    let exact : shape.is_exact kind ≡ true = is_exact_by kind ∙ ap is_some h in
    let by_terms : request.Kind → Nodes = λ kind. replaced_facet kind f (inner_view n) vs more in
    let keys : Terms → Nodes = λ w. key_nodes f w (inner_view n) (top_keys w vs) more in
    let is : kind ≡ request.terms t = exact_kind kind t h in
    let still : shape.is_exact (request.terms t) ≡ true = ap shape.is_exact (sym is) ∙ exact in
    ap by_terms is ∙ ap (λ b. chosen_if b (keys t) (request.facet f (inner_view n) more)) still
exact_by_kind n (k.Range g) t vs more h = absurd (cc h)
exact_by_kind n (k.DateRange g) t vs more h = absurd (cc h)
exact_by_kind n (k.Query q) t vs more h = absurd (cc h)
exact_by_kind n (k.Stat s) t vs more h = absurd (cc h)

pub exact_replaced : (n : Node) (t : Terms) (vs : List Val) (more : Nodes) → exact_of (kind_view (kind_of n)) ≡ Some t
    → replaced_node (node_view n) vs more ≡ key_nodes (facet_view n) t (inner_view n) (top_keys t vs) more
exact_replaced n t vs more h = ap (λ p. replaced_node p vs more) (node_is n) ∙ exact_by_kind n (kind_of n) t vs more h

-- any other stays
plain_by_kind : (n : Node) (kind : Kind) (vs : List Val) (more : Nodes) → exact_of (kind_view kind) ≡ None → replaced_node (part_with n kind) vs more ≡ before (part_with n kind) more
plain_by_kind n (k.Terms t) vs more h =
    let kind = kind_view (k.Terms t) in
    let f : Facet = record { name = (out-Node n).name; change = domain_view (out-Node n).domain; kind = kind } in
    let exact : shape.is_exact kind ≡ false = is_exact_by kind ∙ ap is_some h in
    ap (λ b. chosen_if b (key_nodes f (terms_view t) (inner_view n) (top_keys (terms_view t) vs) more) (request.facet f (inner_view n) more)) exact
plain_by_kind n (k.Range g) vs more h = refl
plain_by_kind n (k.DateRange g) vs more h = refl
plain_by_kind n (k.Query q) vs more h = refl
plain_by_kind n (k.Stat s) vs more h = refl

pub plain_stays : (n : Node) (vs : List Val) (more : Nodes) → exact_of (kind_view (kind_of n)) ≡ None → replaced_node (node_view n) vs more ≡ before (node_view n) more
plain_stays n vs more h =
    ap (λ p. replaced_node p vs more) (node_is n) ∙ plain_by_kind n (kind_of n) vs more h ∙ ap (λ p. before p more) (sym (node_is n))
