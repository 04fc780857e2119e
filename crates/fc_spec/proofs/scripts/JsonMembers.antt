-- What holds of JSON data holds of the values in it.
use Rattle.std.proofs.Common.{Ordering, Less, Equal, Greater, Some, IfSome}
use Rattle.std.specs.Ordering.{match_ordering, nat_cmp}
use Rattle.std.specs.Cmp.Lexicographic.{slice_cmp}
use Rattle.serde_json.specs.Data.{Data, null, boolean, number, string, array, object, Members, no_members, member}
use Rattle.serde_json.specs.Find.{get, get_member}
use Rattle.fc_spec.specs.documents.Val.{Text}
use Rattle.fc_spec.specs.scripts.JsonValues.{HasNumbers, MembersHaveNumbers, HasAscendingKeys, MembersHaveAscendingKeys}

-- what holds of the members, and so of each one and those behind it, holds of the one that is found
found_member : (P : Data → Type 0) (Q : Members → Type 0) → ((k : Text) (d : Data) (ms : Members) → Q (member k d ms) → P d × Q ms) → (k : Text) (ms : Members) → Q ms → IfSome (get_member k ms) P
found_member P Q split k no_members h = tt
found_member P Q split k (member l e ms) h = at (slice_cmp nat_cmp k l) (split l e ms h) (found_member P Q split k ms (split l e ms h).1)
  where
    at : (o : Ordering) → P e × Q ms → IfSome (get_member k ms) P → IfSome (match_ordering o (get_member k ms) (Some e) (get_member k ms)) P
    at Less here more = more
    at Equal here more = here.0
    at Greater here more = more

pub member_numbers : (k : Text) (ms : Members) → MembersHaveNumbers ms → IfSome (get_member k ms) HasNumbers
member_numbers k ms h = found_member HasNumbers MembersHaveNumbers (λ k d ms h. (h.0, h.1)) k ms h

pub member_keys : (k : Text) (ms : Members) → MembersHaveAscendingKeys ms → IfSome (get_member k ms) HasAscendingKeys
member_keys k ms h = found_member HasAscendingKeys MembersHaveAscendingKeys (λ k d ms h. (h.0, h.1)) k ms h

pub numbers_inside : (k : Text) (d : Data) → HasNumbers d → IfSome (get k d) HasNumbers
numbers_inside k (object ms) h = member_numbers k ms h
numbers_inside k null h = tt
numbers_inside k (boolean b) h = tt
numbers_inside k (number n) h = tt
numbers_inside k (string t) h = tt
numbers_inside k (array ds) h = tt

pub keys_inside : (k : Text) (d : Data) → HasAscendingKeys d → IfSome (get k d) HasAscendingKeys
keys_inside k (object ms) h = member_keys k ms h.1
keys_inside k null h = tt
keys_inside k (boolean b) h = tt
keys_inside k (number n) h = tt
keys_inside k (string t) h = tt
keys_inside k (array ds) h = tt
