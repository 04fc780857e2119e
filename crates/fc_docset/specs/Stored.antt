-- What the words of a set stand for.
use Rattle.std.specs.Prelude.{◌≡◌, ℕ, ◌^◌, ◌<◌, ◌≤◌, Bool, false, List, vec_len}
use Rattle.fc_spec.specs.documents.Bits.{has_bit, first_bits, words_for}
use Rattle.fc_docset.specs.declared.set.DocSet.TheInside.{Inside}

-- the positions below the length whose bit is 1
abbrev pub stored : Inside → List Bool
stored set = first_bits set.len set.words.items

-- there are as many words as the length needs, and every bit past it is 0
pub record IsStored (set : Inside) : Type 0 where
  pub small : set.len < 2 ^ 32
  pub enough : vec_len set.words ≡ words_for set.len
  pub none_past : (at : ℕ) → set.len ≤ at → has_bit set.words.items at ≡ false
