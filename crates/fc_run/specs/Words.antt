-- What a run takes by its words.
use Rattle.std.specs.Prelude.{ℕ, List, Bool, false, Option, None, Some, is_some, map, string_bytes}
use Rattle.std.specs.declared.string.String.{String}
use Rattle.std.specs.declared.alloc.Global.{Global}
use Rattle.fc_demo.specs.Demo.{demo_script}
use Rattle.fc_words.specs.Words.{Asked, options_of}

-- what the words ask for, where they are taken
abbrev pub asked_in : List (String Global) → Option Asked
asked_in words = options_of (map string_bytes words)

-- the words are taken, and ask for a demo
abbrev pub asks_demo : Option Asked → Bool
asks_demo None = false
asks_demo (Some asked) = is_some asked.demo

-- a demo's bytes, or else those that the source has left, if it tells them
abbrev pub demo_or : Option ℕ → Option (List ℕ) → Option (List ℕ)
demo_or None left = left
demo_or (Some documents) left = Some (demo_script documents)

-- the bytes of the script
abbrev pub bytes_for : Option Asked → (left : Option (List ℕ)) → Option (List ℕ)
bytes_for None left = left
bytes_for (Some asked) left = demo_or asked.demo left
