-- How many positions of a set stand before one.
use Rattle.std.specs.Prelude.{◌≡◌, ℕ, ◌*◌, ◌≤◌, Bool, List, length, take, count_by, slice_index}
use Rattle.fc_spec.specs.documents.Bits.{words_for}

abbrev pub kept_before : List Bool → ℕ → ℕ
kept_before set at = count_by (λ here. here) (take at set)

-- before each word of 64 positions
pub record AreCounts (set : List Bool) (counts : List ℕ) : Type 0 where
  pub enough : words_for (length set) ≤ length counts
  pub counted : (i : ℕ) → i ≤ words_for (length set) → slice_index counts i ≡ kept_before set (64 * i)
