-- What the bits of the positions with items, and the items of these, stand for.
use Rattle.std.specs.Prelude.{◌≡◌, ℕ, ◌*◌, ◌^◌, ◌<◌, ◌≤◌, List, [], length, map, slice_index, slice_index_or, All, vec_len, if◌then◌else◌, false}
use Rattle.std.specs.Bool.{OnTrue}
use Rattle.std.specs.List.{range_with_len}
use Rattle.fc_spec.specs.documents.Bits.{has_bit, words_for}
use Rattle.fc_lists.specs.Ranks.{bits_below}
use Rattle.fc_lists.specs.declared.rows.Rows.TheInside.{Inside}

-- the items of a position: where its bit is 1, the list that stands behind those of the positions below it
abbrev pub row_at : {T : Type 0} → List ℕ → List (List T) → ℕ → List T
row_at words lists at = if has_bit words at then slice_index_or lists (bits_below at words) [] else []

abbrev pub rows_in : {T : Type 0} → Inside T → List (List T)
rows_in inside = map (row_at inside.words.items inside.lists) (range_with_len 0 inside.len)

-- the bits below each word are counted; there is a list for each bit, and none of them is empty; where it is said that each position
-- has items, there are as many lists as positions
pub record AreRows {T : Type 0} (inside : Inside T) : Type 0 where
  pub small : inside.len < 2 ^ 32
  pub few : vec_len inside.words ≤ words_for inside.len
  pub none_past : (at : ℕ) → inside.len ≤ at → has_bit inside.words.items at ≡ false
  pub counts : vec_len inside.words ≤ vec_len inside.before
  pub counted : (i : ℕ) → i ≤ vec_len inside.words → slice_index inside.before.items i ≡ bits_below (64 * i) inside.words.items
  pub whole : bits_below (64 * length inside.words.items) inside.words.items ≡ length inside.lists
  pub some : All (λ list. 0 < length list) inside.lists
  pub full : OnTrue inside.filled (length inside.lists ≡ inside.len)
