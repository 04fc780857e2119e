-- What is always true of a text: its bytes stand where its length says, and are UTF-8.
use Rattle.std.specs.Prelude.{ℕ, ◌≤◌, List, IsUtf8, length, take}
use Rattle.fc_base.specs.declared.name.text.Text.{Text}
use Rattle.fc_base.specs.declared.name.text.Text.TheVariants.{
  Short,
  UpTo24,
  UpTo40,
  Long,
}

-- There are at least len bytes, and the first len of them are a text.
abbrev pub StartsWithText : ℕ → List ℕ → Type 0
StartsWithText len bytes = (len ≤ length bytes) × IsUtf8 (take len bytes)

abbrev pub IsText : Text → Type 0
IsText (Short len bytes) = StartsWithText len bytes
IsText (UpTo24 len bytes) = StartsWithText len bytes.value
IsText (UpTo40 len bytes) = StartsWithText len bytes.value
IsText (Long _) = Unit {0}
