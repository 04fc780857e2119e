-- What was read of a list, before what is left of it.
use Rattle.std.proofs.Common.{List, ◌++◌, Result, Ok}
use Rattle.fc_spec.specs.words.Walks.{◌>>=◌}

-- these, and then those that are read
abbrev pub behind : {A E : Type 0} → List A → Result (List A) E → Result (List A) E
behind done left = do
  more ← left
  Ok (done ++ more)
