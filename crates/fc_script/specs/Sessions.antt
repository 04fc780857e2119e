-- The sessions of a script, one after another.
use Rattle.std.specs.Prelude.{List, [], ◌∷◌, ◌++◌, if◌then◌else◌}
use Rattle.std.specs.List.{list_any}
use Rattle.fc_spec.specs.documents.Val.{Text, same_text}

-- a session behind the others, unless it is there
abbrev pub with_session : List Text → Text → List Text
with_session known session = if list_any (same_text session) known then known else known ++ session ∷ []
