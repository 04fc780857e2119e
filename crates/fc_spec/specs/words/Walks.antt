-- Words for walks that end at the first fault.
use Rattle.std.specs.Prelude.{List, [], ◌∷◌, Bool, true, false, Result, Ok, Err}

infixl 10 ◌>>=◌
-- what follows goes on with the value; the first fault ends the walk
abbrev pub ◌>>=◌ : {A B E : Type 0} → Result A E → (A → Result B E) → Result B E
(Ok a) >>= next = next a
(Err e) >>= next = Err e

-- the fault, unless the test passes
abbrev pub unless : {E : Type 0} → Bool → E → Result (Unit {0}) E
unless true e = Ok tt
unless false e = Err e

-- an answer, with its fault seen as another
abbrev pub with_fault : {A E F : Type 0} → (E → F) → Result A E → Result A F
with_fault see (Ok a) = Ok a
with_fault see (Err e) = Err (see e)

-- what each member gives, in order, or the fault of the first that has one
abbrev pub each : {A B E : Type 0} → (A → Result B E) → List A → Result (List B) E
each step [] = Ok []
each step (a ∷ more) = do
  b ← step a
  bs ← each step more
  Ok (b ∷ bs)
