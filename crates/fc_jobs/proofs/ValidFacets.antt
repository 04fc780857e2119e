-- Facets of valid requests fit the columns of a schema's fields.
use Rattle.std.proofs.Common.{◌≡◌, List, Bool, ◌&&◌, IsTrue, sym, subst}
use Rattle.fc_spec.specs.documents.Schema.{Schema, texts_held}
use Rattle.fc_spec.specs.requests.Request.{Nodes, no_nodes, statistic, facet, stats_of}
use Rattle.fc_spec.specs.requests.Shape.{stays}
use Rattle.fc_spec.specs.requests.ValidRequests.{AreValidNodes, IsValidFacet}
use Rattle.fc_domain.specs.FieldsFit.{ChangeFits}
use Rattle.fc_domain.proofs.SchemaFits.{change_fits}
use Rattle.fc_kind.specs.Columns.{FitsColumns, HaveFields}
use Rattle.fc_kind.proofs.ValidFacets.{kind_fits, statistics_fit}
use Rattle.fc_request.specs.FacetNode.{facet_view, has_buckets, kind_of, kind_view}
use Rattle.fc_request.specs.NodeView.{inner_view}
use Rattle.fc_request.specs.declared.node.Node.{Node}
use Rattle.fc_jobs.specs.FacetFits.{AllFit, FacetFits}

-- a facet, with the statistics nested in it
pub facet_fits : (s : Schema) (unmoved inside : Bool) (texts : List Bool) (n : Node) → texts ≡ texts_held s.fields → IsTrue (has_buckets (kind_of n))
    → IsValidFacet s unmoved (facet_view n) (inner_view n) → AreValidNodes s inside (inner_view n) → FacetFits texts n
facet_fits s unmoved inside texts n same has valid nodes = record {
  facet = has;
  change = subst (λ ts. ChangeFits ts (facet_view n).change) (sym same) (change_fits s unmoved (facet_view n).change valid.change);
  kind = subst (λ ts. FitsColumns ts (kind_view (kind_of n))) (sym same) (kind_fits s (inner_view n) (kind_view (kind_of n)) valid.kind);
  fields = subst (λ ts. HaveFields ts (stats_of (inner_view n))) (sym same) (statistics_fit s inside (inner_view n) nodes);
}

held_fit : (s : Schema) (unmoved : Bool) (nodes : Nodes) → AreValidNodes s unmoved nodes → AllFit (texts_held s.fields) nodes
held_fit s unmoved no_nodes valid = tt
held_fit s unmoved (statistic name st rest) valid = held_fit s unmoved rest valid.1
held_fit s unmoved (facet f inner rest) valid = (change_fits s unmoved f.change (valid.0).change, kind_fits s inner f.kind (valid.0).kind, held_fit s (unmoved && stays f.change) inner valid.1, held_fit s unmoved rest valid.2)

-- all of them
pub all_fit : (s : Schema) (unmoved : Bool) (texts : List Bool) (nodes : Nodes) → texts ≡ texts_held s.fields → AreValidNodes s unmoved nodes → AllFit texts nodes
all_fit s unmoved texts nodes same valid = subst (λ ts. AllFit ts nodes) (sym same) (held_fit s unmoved nodes valid)
