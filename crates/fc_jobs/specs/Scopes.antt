-- The scope of a bucket, by the facets around it.
use Rattle.std.specs.Prelude.{List, [], ◌∷◌, ◌++◌, Bool, IsTrue, All, map}
use Rattle.fc_spec.specs.documents.Document.{Block}
use Rattle.fc_spec.specs.documents.Val.{Text}
use Rattle.fc_spec.specs.words.Lists.{joined}
use Rattle.fc_spec.specs.queries.Query.{Query}
use Rattle.fc_spec.specs.requests.Buckets.{Key, is_key_of}
use Rattle.fc_spec.specs.requests.DomainSets.{bucket_set}
use Rattle.fc_spec.specs.requests.Paths.{at_root}
use Rattle.fc_spec.specs.requests.Request.{Request}
use Rattle.fc_domain.specs.FieldsFit.{ChangeFits}
use Rattle.fc_kind.specs.Columns.{FitsColumns}
use Rattle.fc_partial.specs.View.{key_view}
use Rattle.fc_request.specs.FacetNode.{facet_view, has_buckets, kind_of, kind_view}
use Rattle.fc_request.specs.declared.node.Node.{Node}
use Rattle.fc_answers.specs.SetAnswer.{Scope, inside, scope_on}
use Rattle.fc_jobs.specs.declared.enclosing.Enclosing.{Enclosing}

-- inside the bucket that is open in a facet
abbrev pub scope_inside : Scope → Enclosing → Scope
scope_inside o x = inside o (facet_view x.node.now) (key_view x.key.now)

-- inside all of them, from the outermost inwards
abbrev pub scope_from : Scope → List Enclosing → Scope
scope_from o [] = o
scope_from o (x ∷ xs) = scope_from (scope_inside o x) xs

abbrev pub scope_over : Request → List Enclosing → Scope
scope_over r xs = scope_from (scope_on r at_root) xs

-- the tags that they exclude
abbrev pub tags_in : List Enclosing → List Text
tags_in [] = []
tags_in (x ∷ xs) = (facet_view x.node.now).change.exclude ++ tags_in xs

-- the filters of their domains
abbrev pub filters_in : List Enclosing → List Query
filters_in xs = joined (map (λ x. (facet_view x.node.now).change.filters) xs)

-- those of a set that are in the bucket of each
abbrev pub selected_inside : List Block → List Enclosing → List Bool → List Bool
selected_inside blocks [] set = set
selected_inside blocks (x ∷ xs) set = selected_inside blocks xs (bucket_set (kind_view (kind_of x.node.now)) (key_view x.key.now) blocks set)

-- the node is a facet, the key is its own, and its work can be done in a segment
pub record KeyFits (texts : List Bool) (n : Node) (k : Key) : Type 0 where
  pub facet : IsTrue (has_buckets (kind_of n))
  pub change : ChangeFits texts (facet_view n).change
  pub kind : FitsColumns texts (kind_view (kind_of n))
  pub key : IsTrue (is_key_of (kind_view (kind_of n)) k)

abbrev pub EnclosingFits : List Bool → Enclosing → Type 0
EnclosingFits texts x = KeyFits texts x.node.now (key_view x.key.now)

abbrev pub AllEnclosingFit : List Bool → List Enclosing → Type 0
AllEnclosingFit texts xs = All (EnclosingFits texts) xs
