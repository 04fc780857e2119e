-- Values, keys and values of statistics are read as they were written.
use Rattle.std.specs.Prelude.{ℕ, zero, suc, ◌<◌, ◌^◌, List, [], ◌∷◌, ◌++◌, length, take, drop, None, Some}
use Rattle.std.proofs.Common.{refl, ap, ◌∙◌, append_assoc}
use Rattle.std.proofs.lemmas.List.{take_at, drop_at}
use Rattle.fc_spec.specs.documents.Val.{Text, Val, text, long}
use Rattle.fc_spec.specs.requests.Buckets.{Key, value, missing, gap, before, between, after, whole}
use Rattle.fc_spec.specs.requests.Statistics.{StatValue, number, extreme}
use Rattle.fc_spec.specs.messages.MessageBytes.{long_bytes, val_bytes, key_bytes, value_bytes}
use Rattle.fc_spec.specs.laws.SpellingLaw.{FitsVal, FitsKey, FitsValue}
use Rattle.fc_spec.proofs.words.Cancelling.{Cancels, Reads, Cancels-from_reader}
use Rattle.fc_spec.proofs.messages.FixedBytes.{read_long, read_short, read_integer, Reads-long, Reads-short, Reads-integer}

-- what a reader took, made into something
abbrev made : {A B : Type 0} → (A → B) → A × List ℕ → B × List ℕ
made f t = (f t.0, t.1)

-- a text of this length
abbrev of_length : ℕ × List ℕ → Text × List ℕ
of_length t = (take t.0 t.1, drop t.0 t.1)

-- a text behind its length
abbrev read_text : List ℕ → Text × List ℕ
read_text l = of_length (read_long l)

-- a text is read
Reads-text : Reads read_text (λ t. long_bytes (length t) ++ t) (λ t. length t < 2 ^ 64)
Reads-text t x h =
    ap read_text (append_assoc (long_bytes (length t)) t x)
    ∙ (ap of_length (Reads-long (length t) (t ++ x) h) ∙ rw (take_at t x (length t) refl, drop_at t x (length t) refl) refl)

-- a value by its first byte
abbrev read_val : List ℕ → Val × List ℕ
read_val (zero ∷ l) = made text (read_text l)
read_val (suc n ∷ l) = made long (read_integer l)
read_val [] = (text [], [])

-- a value is read
Reads-val : Reads read_val val_bytes FitsVal
Reads-val (text t) x h = ap (made text) (Reads-text t x h)
Reads-val (long z) x h = ap (made long) (Reads-integer z x h)

-- a key by its first byte
abbrev read_key : List ℕ → Key × List ℕ
read_key (suc (suc zero) ∷ l) = (missing, l)
read_key (suc (suc (suc zero)) ∷ l) = made gap (read_short l)
read_key (suc (suc (suc (suc zero))) ∷ l) = (before, l)
read_key (suc (suc (suc (suc (suc zero)))) ∷ l) = (between, l)
read_key (suc (suc (suc (suc (suc (suc zero))))) ∷ l) = (after, l)
read_key (suc (suc (suc (suc (suc (suc (suc zero)))))) ∷ l) = (whole, l)
read_key l = made value (read_val l)

-- a key is read
Reads-key : Reads read_key key_bytes FitsKey
Reads-key (value (text t)) x h = ap (made value) (Reads-val (text t) x h)
Reads-key (value (long z)) x h = ap (made value) (Reads-val (long z) x h)
Reads-key missing x h = refl
Reads-key (gap i) x h = ap (made gap) (Reads-short i x h)
Reads-key before x h = refl
Reads-key between x h = refl
Reads-key after x h = refl
Reads-key whole x h = refl

-- the value of a statistic by its first byte
abbrev read_value : List ℕ → StatValue × List ℕ
read_value (zero ∷ l) = made number (read_integer l)
read_value (suc (suc n) ∷ l) = made (λ z. extreme (Some z)) (read_integer l)
read_value (suc zero ∷ l) = (extreme None, l)
read_value [] = (extreme None, [])

-- the value of a statistic is read
Reads-value : Reads read_value value_bytes FitsValue
Reads-value (number z) x h = ap (made number) (Reads-integer z x h)
Reads-value (extreme None) x h = refl
Reads-value (extreme (Some z)) x h = ap (made (λ z. extreme (Some z))) (Reads-integer z x h)

-- keys cancel
pub Cancels-key : Cancels key_bytes FitsKey
Cancels-key = Cancels-from_reader read_key key_bytes FitsKey Reads-key

-- values of statistics cancel
pub Cancels-value : Cancels value_bytes FitsValue
Cancels-value = Cancels-from_reader read_value value_bytes FitsValue Reads-value
