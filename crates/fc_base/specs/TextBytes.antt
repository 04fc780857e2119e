-- The bytes of a text, in place or not.
use Rattle.std.specs.Prelude.{ℕ, List, string_bytes, take}
use Rattle.fc_base.specs.declared.name.text.Text.{Text}
use Rattle.fc_base.specs.declared.name.text.Text.TheVariants.{
  Short,
  UpTo24,
  UpTo40,
  Long,
}

abbrev pub text_bytes : Text → List ℕ
text_bytes (Short len bytes) = take len bytes
text_bytes (UpTo24 len bytes) = take len bytes.value
text_bytes (UpTo40 len bytes) = take len bytes.value
text_bytes (Long text) = string_bytes text.value
