-- Range facets, over integers or over dates: the buckets beside their gaps have no `val`, and carry the shards around them.
use Rattle.std.proofs.Common.{◌≡◌, ◌⊎◌, ℕ, List, None, inl, inr, refl, subst, sym}
use Rattle.fc_spec.specs.requests.Buckets.{Key, before, between, after}
use Rattle.fc_spec.specs.requests.Request.{Kind, terms, range, date_range, query, Nodes}
use Rattle.fc_spec.specs.replies.Distributed.{carried, printed_keys}
use Rattle.fc_spec.specs.replies.Reading.{Reading}
use Rattle.fc_spec.specs.replies.Reply.{val_of}
use Rattle.fc_facet.specs.declared.kind.DateRange.{DateRange}
use Rattle.fc_facet.specs.declared.kind.Kind.{Kind as CodeKind}
use Rattle.fc_facet.specs.declared.kind.Kind.TheVariants as k
use Rattle.fc_facet.specs.declared.kind.Range.{Range}
use Rattle.fc_refine.specs.CountableRanges.{IsCountable}
use Rattle.fc_request.specs.FacetNode.{kind_view}
use Rattle.fc_request.specs.Ranged.{IsRange, keys_of_range}

pub is_range : (kind : CodeKind) → ((g : Range) × kind ≡ k.Range g) ⊎ ((g : DateRange) × kind ≡ k.DateRange g) → IsCountable (kind_view kind) → IsRange (kind_view kind)
is_range kind (inl (g, e)) countable = subst (λ kind. IsRange (kind_view kind)) (sym e) (subst (λ kind. IsCountable (kind_view kind)) e countable)
is_range kind (inr (g, e)) countable = subst (λ kind. IsRange (kind_view kind)) (sym e) (subst (λ kind. IsCountable (kind_view kind)) e countable)

pub beside_have_no_val : (kind : Kind) → IsRange kind → (val_of kind before ≡ None) × (val_of kind between ≡ None) × (val_of kind after ≡ None)
beside_have_no_val (terms t) is = absurd is
beside_have_no_val (range g) is = (refl, refl, refl)
beside_have_no_val (query q) is = absurd is
beside_have_no_val (date_range g) is = (refl, refl, refl)

module _ {H D : Type 0} (R : Reading H D) (inner : Nodes) (shards : List ℕ) (Y : D) where
  pub range_carries : (kind : Kind) → IsRange kind → (key : Key) → carried R kind inner shards Y key ≡ shards
  range_carries (terms t) is key = absurd is
  range_carries (range g) is key = refl
  range_carries (query q) is key = absurd is
  range_carries (date_range g) is key = refl

  pub range_prints : (kind : Kind) → IsRange kind → printed_keys R kind inner shards Y ≡ keys_of_range kind
  range_prints (terms t) is = absurd is
  range_prints (range g) is = refl
  range_prints (query q) is = absurd is
  range_prints (date_range g) is = refl
