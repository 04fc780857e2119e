-- The lines of a script's bytes, and the JSON of a line.
use Rattle.std.specs.Prelude.{ℕ, List, [], ◌∷◌, Bool, ◌||◌, ◌==◌, Option, None, if◌then◌else◌}
use Rattle.std.specs.List.{list_all}
use Rattle.std.specs.Str.{is_utf8}
use Rattle.serde_json.specs.Data.{Data}
use Rattle.serde_json.specs.Read.{read}
use Rattle.fc_spec.specs.documents.Val.{Text}

-- the lines with a byte before the first of them
abbrev pub before_first_line : ℕ → List Text → List Text
before_first_line b [] = (b ∷ []) ∷ []
before_first_line b (l ∷ ls) = (b ∷ l) ∷ ls

-- LF ends a line; a last line needs none, and an LF at the end begins none
abbrev pub lines_of : List ℕ → List Text
lines_of [] = []
lines_of (b ∷ bs) = if b == 10 then [] ∷ lines_of bs else before_first_line b (lines_of bs)

-- spaces, tabs and CRs alone
abbrev pub is_blank : Text → Bool
is_blank l = list_all (λ b. (b == 32) || (b == 9) || (b == 13)) l

-- what a line says, where it is JSON
abbrev pub json_of : Text → Option Data
json_of l = if is_utf8 l then read l else None
