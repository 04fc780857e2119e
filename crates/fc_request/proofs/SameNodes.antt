-- Nodes that ask the same, but for the nodes nested in them.
use Rattle.std.proofs.Common.{◌≡◌, ◌∙◌, ap, sym, refl, Vec, Global}
use Rattle.fc_spec.specs.documents.Val.{Text}
use Rattle.fc_spec.specs.requests.Request as request
use Rattle.fc_spec.specs.requests.RequestReading as reading
use Rattle.fc_facet.specs.Asked.{Asked, buckets, statistic, asked_view}
use Rattle.fc_facet.specs.KindView.{domain_view}
use Rattle.fc_facet.specs.declared.domain.Domain.{Domain}
use Rattle.fc_facet.specs.declared.kind.Kind.{Kind}
use Rattle.fc_facet.specs.declared.kind.Kind.TheVariants as k
use Rattle.fc_request.specs.declared.node.Node.{Node, out-Node}
use Rattle.fc_request.specs.declared.node.Node.TheFolds.{fold-roll-Node}
use Rattle.fc_request.specs.declared.node.Node.TheViews.{roll-Node}
use Rattle.fc_request.specs.FacetNode.{kind_of}
use Rattle.fc_request.specs.Nested.{nesting, with_nested}
use Rattle.fc_request.specs.NodeView.{Part, node_of, node_step, node_view, nodes_view, inner_view}
use Rattle.fc_request.proofs.Nodes.{node_is}

-- the node that asks this
abbrev asking : request.DomainChange → request.Nodes → Asked → reading.Node
asking change inner (buckets kind) = reading.of_facet change kind inner
asking change inner (statistic s) = reading.of_statistic s

node_is_asking : (change : request.DomainChange) (kind : Kind) (inner : request.Nodes) → node_of change kind inner ≡ asking change inner (asked_view kind)
node_is_asking change (k.Terms t) inner = refl
node_is_asking change (k.Range g) inner = refl
node_is_asking change (k.DateRange g) inner = refl
node_is_asking change (k.Query q) inner = refl
node_is_asking change (k.Stat s) inner = refl

same_asked : (change : request.DomainChange) (a b : Kind) (inner : request.Nodes) → asked_view a ≡ asked_view b → node_of change a inner ≡ node_of change b inner
same_asked change a b inner e = node_is_asking change a inner ∙ ap (asking change inner) e ∙ sym (node_is_asking change b inner)

other_nested : (change : request.DomainChange) (kind : Kind) (inner nodes : request.Nodes) → nesting (node_of change kind inner) nodes ≡ node_of change kind nodes
other_nested change (k.Terms t) inner nodes = refl
other_nested change (k.Range g) inner nodes = refl
other_nested change (k.DateRange g) inner nodes = refl
other_nested change (k.Query q) inner nodes = refl
other_nested change (k.Stat s) inner nodes = refl

module _ (n : Node) where
  -- with these nodes nested in it
  nested_is : (nodes : request.Nodes) → with_nested (node_view n) nodes ≡ ((out-Node n).name, node_of (domain_view (out-Node n).domain) (kind_of n) nodes)
  nested_is nodes =
      ap (λ p. with_nested p nodes) (node_is n)
      ∙ ap (λ node. let part : Part = ((out-Node n).name, node) in part) (other_nested (domain_view (out-Node n).domain) (kind_of n) (inner_view n) nodes)

  -- with those that are nested in it
  pub nested_own : with_nested (node_view n) (inner_view n) ≡ node_view n
  nested_own = nested_is (inner_view n) ∙ sym (node_is n)

  -- a node of the same name, change and kind
  pub same_parts : (name : Text) (domain : Domain) (kind : Kind) (nodes : Vec Node Global) → name ≡ (out-Node n).name → domain_view domain ≡ domain_view (out-Node n).domain → asked_view kind ≡ asked_view (kind_of n)
      → node_view (roll-Node (record { name = name; domain = domain; kind = kind; nodes = nodes })) ≡ with_nested (node_view n) (nodes_view nodes.items)
  same_parts name domain kind nodes same_name same_domain same_kind =
      let part : Text → reading.Node → Part = λ x node. (x, node) in
      fold-roll-Node Part node_step (record { name = name; domain = domain; kind = kind; nodes = nodes })
      ∙ ap (λ x. part x (node_of (domain_view domain) kind (nodes_view nodes.items))) same_name
      ∙ ap (λ d. part (out-Node n).name (node_of d kind (nodes_view nodes.items))) same_domain
      ∙ ap (part (out-Node n).name) (same_asked (domain_view (out-Node n).domain) kind (kind_of n) (nodes_view nodes.items) same_kind)
      ∙ sym (nested_is (nodes_view nodes.items))
