-- What an insertion among the slots of a bucket puts among its members.
use Rattle.std.proofs.Common.{◌≡◌, ℕ, List, [], ◌∷◌, Bor, Ordering, Less, Equal, Greater, nat_cmp, refl, ◌∙◌}
use Rattle.std.specs.BTreeMap.{insert_entry}
use Rattle.std.specs.Cmp.Lexicographic.{slice_cmp}
use Rattle.std.specs.Ordering.{match_ordering}
use Rattle.serde_json.specs.Data.{put}
use Rattle.fc_reply.specs.declared.reply.ReplyBucket.{ReplyBucket}
use Rattle.fc_reply.specs.declared.slots.Slot.{Slot}
use Rattle.fc_reply.specs.Slots.{slot_data, slot_members}

abbrev Name : Type 0
Name = Bor (List ℕ)

slot_members-match_ordering : (bucket : ReplyBucket) (o : Ordering) (a b c : List (Name × Slot))
    → slot_members bucket (match_ordering o a b c) ≡ match_ordering o (slot_members bucket a) (slot_members bucket b) (slot_members bucket c)
slot_members-match_ordering bucket Less a b c = refl
slot_members-match_ordering bucket Equal a b c = refl
slot_members-match_ordering bucket Greater a b c = refl

pub slot_members-insert_entry : (b : ReplyBucket) (slots : List (Name × Slot)) (name : Name) (slot : Slot)
    → slot_members b (insert_entry (λ (a b : Name). slice_cmp nat_cmp a.now b.now) slots name slot) ≡ put name.now (slot_data b slot) (slot_members b slots)
slot_members-insert_entry b [] name slot = refl
slot_members-insert_entry b (e ∷ es) name slot =
    slot_members-match_ordering b (slice_cmp nat_cmp name.now e.0.now) _ _ _ ∙ rw (slot_members-insert_entry b es name slot)
