-- What holds of the data that JSON texts are: which numbers there are, and how keys stand.
use Rattle.std.specs.Prelude.{◌≡◌, List, [], ◌∷◌, Bool, true, IsTrue, Some}
use Rattle.std.specs.List.Sorted.{IsStrictlySortedBy}
use Rattle.serde_json.specs.Data.{Num, unsigned, negative, float, Data, number, array, object, Items, no_items, item, Members, no_members, member}
use Rattle.fc_spec.specs.documents.Val.{Text, text_cmp}
use Rattle.fc_spec.specs.documents.IntegerTexts.{is_long}
use Rattle.fc_spec.specs.scripts.ScriptLines.{json_of}

-- a negative number is an integer of 64 bits signed
abbrev pub is_number : Num → Bool
is_number (unsigned n) = true
is_number (negative z) = is_long z
is_number (float x) = true

abbrev mutual
  -- each number in it is such a number
  pub HasNumbers : Data → Type 0
  HasNumbers (number n) = IsTrue (is_number n)
  HasNumbers (array ds) = ItemsHaveNumbers ds
  HasNumbers (object ms) = MembersHaveNumbers ms
  HasNumbers _ = Unit {0}

  pub ItemsHaveNumbers : Items → Type 0
  ItemsHaveNumbers no_items = Unit {0}
  ItemsHaveNumbers (item d ds) = HasNumbers d × ItemsHaveNumbers ds

  pub MembersHaveNumbers : Members → Type 0
  MembersHaveNumbers no_members = Unit {0}
  MembersHaveNumbers (member k d ms) = HasNumbers d × MembersHaveNumbers ms

-- the keys of members, in their order
abbrev pub keys_in : Members → List Text
keys_in no_members = []
keys_in (member k d ms) = k ∷ keys_in ms

abbrev mutual
  -- the keys of each object in it differ and stand in the order of their bytes
  pub HasAscendingKeys : Data → Type 0
  HasAscendingKeys (array ds) = ItemsHaveAscendingKeys ds
  HasAscendingKeys (object ms) = IsStrictlySortedBy text_cmp (keys_in ms) × MembersHaveAscendingKeys ms
  HasAscendingKeys _ = Unit {0}

  pub ItemsHaveAscendingKeys : Items → Type 0
  ItemsHaveAscendingKeys no_items = Unit {0}
  ItemsHaveAscendingKeys (item d ds) = HasAscendingKeys d × ItemsHaveAscendingKeys ds

  pub MembersHaveAscendingKeys : Members → Type 0
  MembersHaveAscendingKeys no_members = Unit {0}
  MembersHaveAscendingKeys (member k d ms) = HasAscendingKeys d × MembersHaveAscendingKeys ms

-- the JSON of a text has such numbers and keys
abbrev pub TextsAreJson : Type 0
TextsAreJson = (t : Text) (d : Data) → json_of t ≡ Some d → HasNumbers d × HasAscendingKeys d
