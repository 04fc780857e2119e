-- What facets put at their names.
use Rattle.std.proofs.Common.{◌≡◌, ℕ, List, ◌∷◌, Option, None, Some, refl, sym, ap, ◌∙◌, subst}
use Rattle.std.specs.List.{slice_get}
use Rattle.serde_json.specs.Data.{Data, Members, put}
use Rattle.fc_spec.specs.documents.Val.{Text}
use Rattle.fc_spec.specs.replies.Reply as definition
use Rattle.fc_spec.specs.replies.Json.{put_facets}
use Rattle.fc_reply.specs.declared.reply.ReplyBody.{ReplyBody, out-ReplyBody}
use Rattle.fc_reply.specs.declared.reply.ReplyBody.TheOpen.{Number, Many, One}
use Rattle.fc_reply.specs.declared.reply.ReplyBucket.{ReplyBucket, out-ReplyBucket}
use Rattle.fc_reply.specs.declared.reply.ReplyBuckets.{ReplyBuckets, out-ReplyBuckets}
use Rattle.fc_reply.specs.declared.reply.ReplyFacet.{ReplyFacet, out-ReplyFacet}
use Rattle.fc_reply.specs.declared.slots.Slot.TheVariants.{Facet}
use Rattle.fc_reply.specs.ReplyView.{PutBody, facet_view, body_view, buckets_view, facets_view, row_body, row_view}
use Rattle.fc_reply.specs.Slots.{body_data, facet_data, slot_data}
use Rattle.fc_reply.proofs.ReplyViews.{Open, seen, view_of_body, view_of_buckets, view_of_facet}

-- a facet with this body puts this at its name, before the facets after it
abbrev IsBody : Data → PutBody → Type 0
IsBody d body = (name : Text) (more : definition.Facets) (ms : Members) → put_facets (body name more) ms ≡ put_facets more (put name d ms)

row_puts : (n : Option ℕ) (row : definition.Row) → IsBody (body_data (row_body n row)) (row_body n row)
row_puts None row = λ name more ms. refl
row_puts (Some n) row = λ name more ms. refl

buckets_put : (bs : ReplyBuckets) → IsBody (body_data (buckets_view bs)) (buckets_view bs)
buckets_put bs = subst (λ (body : PutBody). IsBody (body_data body) body) (sym (view_of_buckets bs)) (row_puts (out-ReplyBuckets bs).number (row_view bs))

seen_puts : (x : Open) → IsBody (body_data (seen x)) (seen x)
seen_puts (Number n) = λ name more ms. refl
seen_puts (Many bs) = buckets_put bs
seen_puts (One b) = λ name more ms. refl

body_puts : (r : ReplyBody) → IsBody (body_data (body_view r)) (body_view r)
body_puts r =
    subst (λ (b : PutBody). IsBody (body_data b) b) (sym (view_of_body r)) (seen_puts (out-ReplyBody r))

-- a facet puts its data at its name, before the facets after it
pub facet_puts : (f : ReplyFacet) (more : definition.Facets) (ms : Members)
    → put_facets (facet_view f more) ms ≡ put_facets more (put (out-ReplyFacet f).name (body_data (body_view (out-ReplyFacet f).body)) ms)
facet_puts f more ms =
    ap (λ facets. put_facets facets ms) (view_of_facet f more)
    ∙ body_puts (out-ReplyFacet f).body (out-ReplyFacet f).name more ms

-- the same by the slot of its place
pub slot_puts : (b : ReplyBucket) (at : ℕ) (f : ReplyFacet) (rest : List ReplyFacet) (ms : Members) → slice_get (out-ReplyBucket b).facets.items at ≡ Some f
    → put_facets (facets_view (f ∷ rest)) ms ≡ put_facets (facets_view rest) (put (out-ReplyFacet f).name (slot_data b (Facet at)) ms)
slot_puts b at f rest ms here =
    facet_puts f (facets_view rest) ms ∙ ap (λ (d : Data). put_facets (facets_view rest) (put (out-ReplyFacet f).name d ms)) (sym (ap facet_data here))
