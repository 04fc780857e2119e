-- What candidates are gathered from.
use Rattle.std.specs.Prelude.{ℕ, List, map, All, IsTrue, None}
use Rattle.fc_spec.specs.documents.Val.{Val}
use Rattle.fc_spec.specs.requests.Ranks.{Entry, page}
use Rattle.fc_spec.specs.requests.Request.{Terms, terms, Nodes}
use Rattle.fc_spec.specs.replies.Chosen.{candidate_entries, chosen, chosen_bound, offering}
use Rattle.fc_spec.specs.messages.MessageShape.{buckets_fit}
use Rattle.fc_spec.specs.messages.Message.{Partials}
use Rattle.fc_partial.specs.BucketView.{node_view}
use Rattle.fc_partial.specs.declared.bucket.PartialNode.{PartialNode}
use Rattle.fc_request.specs.NodeView.{inner_view}
use Rattle.fc_request.specs.declared.node.Node.{Node}
use Rattle.fc_refine.specs.Parts.{Part, shards_of, HaveAscendingShards, with_part, over_parts, SumsFit}

-- a terms facet with the nodes nested in it, and what shards told of it, in the ascending order of their numbers
pub record Gathered : Type 0 where
  pub terms : Terms
  pub nodes : Nodes
  pub parts : List Part

-- the part has the shape of the facet's buckets, however many there are and whatever is nested in them
abbrev pub HasFacetShape : Terms → Nodes → Partials → Type 0
HasFacetShape t inner buckets = IsTrue (buckets_fit (terms t) inner buckets None)

-- what candidates keep: the facet, its node in the request, and each shard with the node that it told
pub record Kept : Type 0 where
  pub terms : Terms
  pub node : Node
  pub parts : List (ℕ × PartialNode)

abbrev pub gathered : Kept → Gathered
gathered k = record { terms = k.terms; nodes = inner_view k.node; parts = map (λ p. record { shard = p.0; buckets = node_view p.1 }) k.parts }

-- one more part
abbrev pub added : Part → Gathered → Gathered
added p g = record g { parts = with_part p g.parts }

-- shards ascend, so that each tells once; each part has the facet's shape, and the sums fit
pub record AreGathered (g : Gathered) : Type 0 where
  pub ascend : HaveAscendingShards g.parts
  pub shaped : All (λ p. HasFacetShape g.terms g.nodes p.buckets) g.parts
  pub fit : SumsFit g.parts

-- the entries of the candidates, each over the shards that list it
abbrev pub gathered_entries : Gathered → List Entry
gathered_entries g = candidate_entries (over_parts g.parts) g.terms g.nodes (shards_of g.parts) tt

-- the chosen ones, in the order of their ranks
abbrev pub ranked_entries : Gathered → List Entry
ranked_entries g = page g.terms.sort 0 (chosen_bound g.terms) (gathered_entries g)

-- the shards that list a value, ascending
abbrev pub listing_shards : Gathered → Val → List ℕ
listing_shards g v = offering (over_parts g.parts) g.terms g.nodes (shards_of g.parts) tt v

-- the values that the definition chooses, in index order
abbrev pub chosen_values : Gathered → List Val
chosen_values g = chosen (over_parts g.parts) g.terms g.nodes (shards_of g.parts) tt
