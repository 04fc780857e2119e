-- A fact for one outcome of reading all of a source.
use Rattle.std.specs.Prelude.{ℕ, List, length, Option, Result, Ok, Err, Vec, ⊤}
use Rattle.std.specs.declared.alloc.Global.{Global}
use Rattle.std.specs.Io.KnownBytes.{Consumes}
use Rattle.fc_base.specs.declared.error.WantMemory.{WantMemory}
use Rattle.fc_io.specs.declared.reading.AllRead.{AllRead}
use Rattle.fc_io.specs.declared.reading.AllRead.TheVariants.{Bytes, TooLong, ReadFault}

abbrev pub IfBytes : Result AllRead WantMemory → (Vec ℕ Global → Type 0) → Type 0
IfBytes (Ok (Bytes all)) P = P all
IfBytes (Ok TooLong) P = ⊤
IfBytes (Ok ReadFault) P = ⊤
IfBytes (Err e) P = ⊤

abbrev pub OnBytes : Result AllRead WantMemory → Type 0 → Type 0
OnBytes result P = IfBytes result (λ _. P)

abbrev pub OnTooLong : Result AllRead WantMemory → Type 0 → Type 0
OnTooLong (Ok (Bytes all)) P = ⊤
OnTooLong (Ok TooLong) P = P
OnTooLong (Ok ReadFault) P = ⊤
OnTooLong (Err e) P = ⊤

abbrev pub OnReadFault : Result AllRead WantMemory → Type 0 → Type 0
OnReadFault (Ok (Bytes all)) P = ⊤
OnReadFault (Ok TooLong) P = ⊤
OnReadFault (Ok ReadFault) P = P
OnReadFault (Err e) P = ⊤

-- known bytes lost a front whose length has P
abbrev pub TakesSome : Option (List ℕ) → Option (List ℕ) → (ℕ → Type 0) → Type 0
TakesSome old new P = (taken : List ℕ) × Consumes old new taken × P (length taken)
