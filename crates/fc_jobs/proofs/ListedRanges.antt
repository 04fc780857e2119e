-- What is listed of a range facet, over integers or over dates.
use Rattle.std.proofs.Common.{◌≡◌, ◌⊎◌, ℕ, List, map, inl, inr, refl, subst, sym}
use Rattle.std.specs.Prelude.{if◌then◌else◌}
use Rattle.fc_spec.specs.requests.Request.{Kind, terms, range, date_range, query, Nodes, stats_of}
use Rattle.fc_spec.specs.requests.Shape.{holds_exclusion}
use Rattle.fc_facet.specs.declared.kind.DateRange.{DateRange}
use Rattle.fc_facet.specs.declared.kind.Kind.{Kind as CodeKind}
use Rattle.fc_facet.specs.declared.kind.Kind.TheVariants as k
use Rattle.fc_facet.specs.declared.kind.Range.{Range}
use Rattle.fc_partial.specs.Tallied.{Entry}
use Rattle.fc_request.specs.FacetNode.{kind_view}
use Rattle.fc_request.specs.Ranged.{IsRange, keys_of_range}
use Rattle.fc_answers.specs.Listed.{entry_or_none, listed_of}
use Rattle.fc_answers.specs.LeastListed.{least_of}

-- each bucket where the facet holds an exclusion, and else those that have a document
pub range_listed : (kind : Kind) → IsRange kind → (inner : Nodes) (es : List Entry) → listed_of kind inner es ≡ (if holds_exclusion inner then map (entry_or_none (stats_of inner) es) (keys_of_range kind) else es)
range_listed (terms t) is inner es = absurd is
range_listed (range g) is inner es = refl
range_listed (date_range g) is inner es = refl
range_listed (query q) is inner es = absurd is

-- from a count on it is the same
pub least_listed : (kind : CodeKind) → ((g : Range) × kind ≡ k.Range g) ⊎ ((g : DateRange) × kind ≡ k.DateRange g) → (inner : Nodes) (n : ℕ) (es : List Entry) → listed_of (kind_view kind) inner es ≡ least_of (kind_view kind) inner n es
least_listed kind (inl (g, e)) inner n es = subst (λ kind. listed_of (kind_view kind) inner es ≡ least_of (kind_view kind) inner n es) (sym e) refl
least_listed kind (inr (g, e)) inner n es = subst (λ kind. listed_of (kind_view kind) inner es ≡ least_of (kind_view kind) inner n es) (sym e) refl
