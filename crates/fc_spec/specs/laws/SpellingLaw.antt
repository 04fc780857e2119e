-- Messages have one spelling.
use Rattle.std.specs.Prelude.{◌≡◌, ℕ, ◌<◌, ◌^◌, List, ◌++◌, length, None, Some, FitsSigned}
use Rattle.std.specs.Int.{w64}
use Rattle.std.specs.List.{AllByRecursion}
use Rattle.fc_spec.specs.documents.Val.{Val, text, long}
use Rattle.fc_spec.specs.requests.Buckets.{Key, value, gap}
use Rattle.fc_spec.specs.requests.Statistics.{StatValue, number, extreme, Stats}
use Rattle.fc_spec.specs.messages.Message.{Partials, no_partials, partial, Rows, no_rows, row}
use Rattle.fc_spec.specs.messages.MessageBytes.{partial_count, row_count, message_bytes}

-- what has 8 bytes, or 4
abbrev pub FitsVal : Val → Type 0
FitsVal (text t) = length t < 2 ^ 64
FitsVal (long z) = FitsSigned w64 z

abbrev pub FitsKey : Key → Type 0
FitsKey (value v) = FitsVal v
FitsKey (gap i) = i < 2 ^ 32
FitsKey _ = Unit {0}

abbrev pub FitsValue : StatValue → Type 0
FitsValue (number z) = FitsSigned w64 z
FitsValue (extreme None) = Unit {0}
FitsValue (extreme (Some z)) = FitsSigned w64 z

abbrev pub FitsStats : Stats → Type 0
FitsStats s = (s.count < 2 ^ 64) × (length s.values < 2 ^ 64) × AllByRecursion FitsValue s.values

abbrev mutual
  -- the numbers of these buckets fit their bytes
  pub FitsPartials : Partials → Type 0
  FitsPartials no_partials = Unit {0}
  FitsPartials (partial key stats rows rest) = FitsKey key × FitsStats stats × (row_count rows < 2 ^ 64) × FitsRows rows × FitsPartials rest

  pub FitsRows : Rows → Type 0
  FitsRows no_rows = Unit {0}
  FitsRows (row ps rest) = (partial_count ps < 2 ^ 64) × FitsPartials ps × FitsRows rest

-- the numbers of a message fit their bytes
abbrev pub FitsMessage : Partials → Type 0
FitsMessage m = (partial_count m < 2 ^ 64) × FitsPartials m

-- no two messages have the same bytes, and no bytes of a message are the front of another's
abbrev pub HasOneSpelling : Type 0
HasOneSpelling = (m n : Partials) (x y : List ℕ) → FitsMessage m → FitsMessage n → message_bytes m ++ x ≡ message_bytes n ++ y → (m ≡ n) × (x ≡ y)
