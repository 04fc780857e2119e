-- A fact for one way in which a write ends.
use Rattle.std.specs.Prelude.{◌≡◌, ◌<◌, ℕ, List, ◌++◌, length, Option, ⊤}
use Rattle.std.specs.Io.KnownBytes.{Appends}
use Rattle.fc_io.specs.declared.writing.WriteEnd.{WriteEnd}
use Rattle.fc_io.specs.declared.writing.WriteEnd.TheVariants.{Whole, WriteFault}

abbrev pub OnWhole : WriteEnd → Type 0 → Type 0
OnWhole Whole P = P
OnWhole WriteFault P = ⊤

abbrev pub OnWriteFault : WriteEnd → Type 0 → Type 0
OnWriteFault Whole P = ⊤
OnWriteFault WriteFault P = P

-- known bytes grew by what stands in front of the rest of bs
abbrev pub AppendsUpTo : Option (List ℕ) → Option (List ℕ) → List ℕ → List ℕ → Type 0
AppendsUpTo old new bs rest = (front : List ℕ) × Appends old new front × (front ++ rest ≡ bs)

-- known bytes grew by a front of bs that is not all of it
abbrev pub AppendsFront : Option (List ℕ) → Option (List ℕ) → List ℕ → Type 0
AppendsFront old new bs = (rest : List ℕ) × AppendsUpTo old new bs rest × (0 < length rest)
