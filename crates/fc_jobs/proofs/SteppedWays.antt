-- One step of a way in a segment.
use Rattle.std.proofs.Common.{◌≡◌, ℕ, suc, ◌+◌, ◌<◌, ◌≤◌, List, ◌∷◌, drop, drop-cons, length, get_or, Bool, true, Some, sym, ◌∙◌, ap, add-one}
use Rattle.std.proofs.lemmas.Bool.{and_parts}
use Rattle.fc_spec.specs.laws.LacksLaws.{has_key, names_keys}
use Rattle.fc_spec.specs.messages.Target.{facet_at, nodes_in}
use Rattle.fc_spec.specs.requests.Buckets.{is_key_of}
use Rattle.fc_spec.specs.requests.DomainSets.{bucket_set}
use Rattle.fc_answers.specs.SetAnswer.{Piece, Scope, inside}
use Rattle.fc_domain.specs.FieldsFit.{ChangeFits}
use Rattle.fc_kind.specs.Columns.{FitsColumns}
use Rattle.fc_partial.specs.View.{key_view}
use Rattle.fc_refine.specs.AskView.{step_view, way_view}
use Rattle.fc_refine.specs.declared.ask.Step.{Step}
use Rattle.fc_request.specs.FacetNode.{facet_view, has_buckets, kind_of, kind_view}
use Rattle.fc_request.specs.NodeView.{inner_view, nodes_view}
use Rattle.fc_request.specs.declared.node.Node.{Node}
use Rattle.fc_jobs.specs.FacetFits.{AllFit}
use Rattle.fc_jobs.specs.Walked.{domain_set, scope_along, scope_into, set_in, walked}
use Rattle.fc_jobs.proofs.NodesThere.{facet_there, fits_at, has_buckets_there, key_there, named_within}

-- the way from a step on
pub way_from : (way : List Step) (i : ℕ) (step : Step) → i < length way → step ≡ get_or way i step → way_view (drop i way) ≡ step_view step ∷ way_view (drop (i + 1) way)
way_from way i step within is = ap way_view (drop-cons way i step within ∙ ap (λ x. x ∷ drop (suc i) way) (sym is) ∙ ap (λ j. step ∷ drop j way) (sym (add-one i)))

module _ (xs : List Node) (way : List Step) (i : ℕ) (step : Step) (within : i < length way) (is : step ≡ get_or way i step) (keys : names_keys (nodes_view xs) (way_view (drop i way)) ≡ true) where
  both : (has_key (facet_at step.node (nodes_view xs)) (key_view step.key) ≡ true) × (names_keys (nodes_in (facet_at step.node (nodes_view xs))) (way_view (drop (i + 1) way)) ≡ true)
  both = and_parts (has_key (facet_at step.node (nodes_view xs)) (key_view step.key)) (names_keys (nodes_in (facet_at step.node (nodes_view xs))) (way_view (drop (i + 1) way)))
      (sym (ap (names_keys (nodes_view xs)) (way_from way i step within is)) ∙ keys)

  -- it names a node
  pub is_there : length xs ≤ step.node → ⊥
  is_there past = named_within xs step.node (key_view step.key) past both.0

  module _ (n : Node) (there : step.node < length xs) (node : n ≡ get_or xs step.node n) where
    -- which is a facet, and the key is its own
    pub is_facet : has_buckets (kind_of n) ≡ true
    is_facet = has_buckets_there xs step.node n (key_view step.key) there node both.0

    pub own_key : is_key_of (kind_view (kind_of n)) (key_view step.key) ≡ true
    own_key = key_there xs step.node n (key_view step.key) there node both.0

    facet_is : facet_at step.node (nodes_view xs) ≡ Some (facet_view n, inner_view n)
    facet_is = facet_there xs step.node n there node is_facet

    -- with what fits
    pub fits_there : (texts : List Bool) → AllFit texts (nodes_view xs) → ChangeFits texts (facet_view n).change × FitsColumns texts (kind_view (kind_of n)) × AllFit texts (inner_view n)
    fits_there texts fit = fits_at texts (nodes_view xs) step.node (facet_view n) (inner_view n) fit facet_is

    -- and the way goes on inside
    pub keys_inside : names_keys (inner_view n) (way_view (drop (i + 1) way)) ≡ true
    keys_inside = sym (ap (λ o. names_keys (nodes_in o) (way_view (drop (i + 1) way))) facet_is) ∙ both.1

    pub walked_more : (o : Scope) (p : Piece) (docs : List Bool)
        → walked (inside o (facet_view n) (key_view step.key)) p (inner_view n) (bucket_set (kind_view (kind_of n)) (key_view step.key) p.blocks (domain_set o p (facet_view n) docs)) (way_view (drop (i + 1) way))
        ≡ walked o p (nodes_view xs) docs (way_view (drop i way))
    walked_more o p docs =
        sym (ap (λ f. walked (scope_into o (key_view step.key) f) p (nodes_in f) (set_in o p (key_view step.key) docs f) (way_view (drop (i + 1) way))) facet_is)
        ∙ sym (ap (walked o p (nodes_view xs) docs) (way_from way i step within is))

    pub scope_more : (o : Scope) → scope_along (inside o (facet_view n) (key_view step.key)) (inner_view n) (way_view (drop (i + 1) way)) ≡ scope_along o (nodes_view xs) (way_view (drop i way))
    scope_more o =
        sym (ap (λ f. scope_along (scope_into o (key_view step.key) f) (nodes_in f) (way_view (drop (i + 1) way))) facet_is)
        ∙ sym (ap (scope_along o (nodes_view xs)) (way_from way i step within is))
