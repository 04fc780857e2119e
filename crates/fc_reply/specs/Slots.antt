-- What stands at the names of a bucket.
use Rattle.std.specs.Prelude.{ℕ, List, [], ◌∷◌, Option, None, Some, slice_get}
use Rattle.std.specs.Borrow.{Bor}
use Rattle.serde_json.specs.Data.{Data, null, Members, no_members, member}
use Rattle.fc_spec.specs.replies.Reply.{no_facets}
use Rattle.fc_spec.specs.replies.Json.{natural_data, val_data, put_facets}
use Rattle.fc_base.specs.View.{val_view}
use Rattle.fc_reply.specs.ReplyView.{PutBody, body_view}
use Rattle.fc_reply.specs.declared.reply.ReplyBucket.{ReplyBucket, out-ReplyBucket}
use Rattle.fc_reply.specs.declared.reply.ReplyFacet.{ReplyFacet, out-ReplyFacet}
use Rattle.fc_reply.specs.declared.slots.Slot.{Slot}
use Rattle.fc_reply.specs.declared.slots.Slot.TheVariants as slot

abbrev pub first_data : Members → Data
first_data no_members = null
first_data (member name d ms) = d

-- what a facet with this body puts at its name
abbrev pub body_data : PutBody → Data
body_data body = first_data (put_facets (body [] no_facets) no_members)

abbrev pub facet_data : Option ReplyFacet → Data
facet_data None = null
facet_data (Some f) = body_data (body_view (out-ReplyFacet f).body)

-- what stands at a slot of a bucket
abbrev pub slot_data : ReplyBucket → Slot → Data
slot_data b (slot.Count n) = natural_data n
slot_data b (slot.Val val) = val_data (val_view val.now)
slot_data b (slot.Facet at) = facet_data (slice_get (out-ReplyBucket b).facets.items at)

-- the members that these slots of a bucket are, each at its name
abbrev pub slot_members : ReplyBucket → List (Bor (List ℕ) × Slot) → Members
slot_members b [] = no_members
slot_members b ((name, slot) ∷ slots) = member name.now (slot_data b slot) (slot_members b slots)
