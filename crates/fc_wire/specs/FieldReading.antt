-- Numbers, keys and statistics are read from the front of bytes.
use Rattle.std.specs.Prelude.{ℕ, zero, suc, ℤ, List, [], ◌∷◌, length, take, drop, Result, Ok, Err, None, Some, nat_lt, if◌then◌else◌}
use Rattle.std.specs.Int.{Width, w32, w64, byte_len, from_le_bytes, cast_signed}
use Rattle.std.specs.Str.{is_utf8}
use Rattle.fc_spec.specs.words.Walks.{◌>>=◌}
use Rattle.fc_spec.specs.documents.Val.{Text, text, long}
use Rattle.fc_spec.specs.requests.Buckets.{Key, value, missing, gap, before, between, after, whole}
use Rattle.fc_spec.specs.requests.Statistics.{StatValue, number, extreme, Stats}

-- what stands in front, and the bytes behind it; or the one fault, that it does not stand there
abbrev pub Read : Type 0 → Type 0
Read A = Result (A × List ℕ) (Unit {0})

-- a number of so many bytes
abbrev pub number_at : Width → List ℕ → Read ℕ
number_at w bytes = if nat_lt (length bytes) (byte_len w) then Err tt else Ok (from_le_bytes w (take (byte_len w) bytes), drop (byte_len w) bytes)

abbrev pub long_at : List ℕ → Read ℕ
long_at bytes = number_at w64 bytes

unfoldable pub integer_at : List ℕ → Read ℤ
integer_at bytes = do
  n ← long_at bytes
  Ok (cast_signed w64 n.0, n.1)

-- so many times the same
unfoldable pub many : {A : Type 0} → (List ℕ → Read A) → ℕ → List ℕ → Read (List A)
many one zero bytes = Ok ([], bytes)
many one (suc n) bytes = do
  first ← one bytes
  others ← many one n first.1
  Ok (first.0 ∷ others.0, others.1)

-- their number, and they
unfoldable pub counted : {A : Type 0} → (List ℕ → Read A) → List ℕ → Read (List A)
counted one bytes = do
  n ← long_at bytes
  many one n.0 n.1

-- a text behind its length
unfoldable pub text_at : List ℕ → Read Text
text_at bytes = do
  n ← long_at bytes
  if nat_lt (length n.1) n.0 then Err tt else if is_utf8 (take n.0 n.1) then Ok (take n.0 n.1, drop n.0 n.1) else Err tt

-- a key by its first byte
unfoldable pub key_at : List ℕ → Read Key
key_at (zero ∷ bytes) = do
  t ← text_at bytes
  Ok (value (text t.0), t.1)
key_at (suc zero ∷ bytes) = do
  z ← integer_at bytes
  Ok (value (long z.0), z.1)
key_at (suc (suc zero) ∷ bytes) = Ok (missing, bytes)
key_at (suc (suc (suc zero)) ∷ bytes) = do
  n ← number_at w32 bytes
  Ok (gap n.0, n.1)
key_at (suc (suc (suc (suc zero))) ∷ bytes) = Ok (before, bytes)
key_at (suc (suc (suc (suc (suc zero)))) ∷ bytes) = Ok (between, bytes)
key_at (suc (suc (suc (suc (suc (suc zero))))) ∷ bytes) = Ok (after, bytes)
key_at (suc (suc (suc (suc (suc (suc (suc zero)))))) ∷ bytes) = Ok (whole, bytes)
key_at _ = Err tt

-- the value of a statistic by its first byte
unfoldable pub value_at : List ℕ → Read StatValue
value_at (zero ∷ bytes) = do
  z ← integer_at bytes
  Ok (number z.0, z.1)
value_at (suc zero ∷ bytes) = Ok (extreme None, bytes)
value_at (suc (suc zero) ∷ bytes) = do
  z ← integer_at bytes
  Ok (extreme (Some z.0), z.1)
value_at _ = Err tt

unfoldable pub stats_at : List ℕ → Read Stats
stats_at bytes = do
  count ← long_at bytes
  values ← counted value_at count.1
  Ok (record { count = count.0; values = values.0 }, values.1)
