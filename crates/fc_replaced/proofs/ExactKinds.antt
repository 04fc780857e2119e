-- Which kinds of node are exact.
use Rattle.std.proofs.Common.{◌≡◌, Bool, true, false, Option, None, Some, is_some, if◌then◌else◌, refl, ap, sym, ◌∙◌}
use Rattle.fc_spec.specs.requests.Request as request
use Rattle.fc_spec.specs.requests.Request.{Terms}
use Rattle.fc_spec.specs.requests.Shape as shape
use Rattle.fc_facet.specs.declared.kind.Kind.{Kind}
use Rattle.fc_facet.specs.declared.kind.Kind.TheVariants as k
use Rattle.fc_facet.specs.KindView.{domain_view}
use Rattle.fc_request.specs.declared.node.Node.{Node, out-Node}
use Rattle.fc_request.specs.FacetNode.{kind_of, kind_view}
use Rattle.fc_request.specs.NodeView.{Part, inner_view, node_of, node_view}
use Rattle.fc_request.proofs.Nodes.{node_is}
use Rattle.fc_replaced.specs.ExactParts.{exact_of, is_exact}

-- a terms facet that is there, where a test holds
abbrev there_if : Terms → Bool → Option Terms
there_if t b = if b then Some t else None

is_there : (t : Terms) (b : Bool) → is_some (there_if t b) ≡ b
is_there t true = refl
is_there t false = refl

pub is_exact_by : (kind : request.Kind) → shape.is_exact kind ≡ is_some (exact_of kind)
is_exact_by (request.terms t) = sym (is_there t (shape.is_exact (request.terms t)))
is_exact_by (request.range g) = refl
is_exact_by (request.date_range g) = refl
is_exact_by (request.query q) = refl

same_there : (t u : Terms) (b : Bool) → there_if t b ≡ Some u → t ≡ u
same_there t u true h = cc
same_there t u false h = absurd (cc h)

pub exact_kind : (kind : request.Kind) (t : Terms) → exact_of kind ≡ Some t → kind ≡ request.terms t
exact_kind (request.terms u) t h = ap request.terms (same_there u t (shape.is_exact (request.terms u)) h)
exact_kind (request.range g) t h = absurd (cc h)
exact_kind (request.date_range g) t h = absurd (cc h)
exact_kind (request.query q) t h = absurd (cc h)

-- a node, by its kind
abbrev pub part_with : Node → Kind → Part
part_with n kind = ((out-Node n).name, node_of (domain_view (out-Node n).domain) kind (inner_view n))

node_exact : (n : Node) (kind : Kind) → is_exact (part_with n kind) ≡ shape.is_exact (kind_view kind)
node_exact n (k.Terms t) = refl
node_exact n (k.Range g) = refl
node_exact n (k.DateRange g) = refl
node_exact n (k.Query q) = refl
node_exact n (k.Stat s) = refl

pub exact_is : (n : Node) → is_exact (node_view n) ≡ shape.is_exact (kind_view (kind_of n))
exact_is n = ap is_exact (node_is n) ∙ node_exact n (kind_of n)
