-- The bytes of a message of one bucket, and two lists of bytes beside it that are no message's.
use Rattle.std.specs.Prelude.{◌≡◌, ℕ, List, [], ◌∷◌, ◌++◌}
use Rattle.std.proofs.Common.{refl, sym, ap, ◌∙◌, arith}
use Rattle.std.proofs.lemmas.List.{append-nil}
use Rattle.fc_spec.specs.requests.Buckets.{whole}
use Rattle.fc_spec.specs.messages.Message.{Partials, no_partials, partial, no_rows}
use Rattle.fc_spec.specs.messages.MessageBytes.{message_bytes}
use Rattle.fc_spec.specs.laws.SpellingLaw.{FitsMessage}
use Rattle.fc_spec.specs.messages.Nesting.{Spells}
use Rattle.fc_spec.proofs.messages.MessageSpelling.{one_spelling}

-- two places in the whole, no statistics and no nodes
abbrev pub message : Partials
message = partial whole (record { count = 2; values = [] }) no_rows no_partials

-- its bytes but the last
abbrev pub front : List ℕ
front = 0x4d
    ∷ 1 ∷ 0 ∷ 0 ∷ 0 ∷ 0 ∷ 0 ∷ 0 ∷ 0
    ∷ 7
    ∷ 2 ∷ 0 ∷ 0 ∷ 0 ∷ 0 ∷ 0 ∷ 0 ∷ 0
    ∷ 0 ∷ 0 ∷ 0 ∷ 0 ∷ 0 ∷ 0 ∷ 0 ∷ 0
    ∷ 0 ∷ 0 ∷ 0 ∷ 0 ∷ 0 ∷ 0 ∷ 0
    ∷ []

-- its bytes
abbrev pub bytes : List ℕ
bytes = 0x4d
    ∷ 1 ∷ 0 ∷ 0 ∷ 0 ∷ 0 ∷ 0 ∷ 0 ∷ 0
    ∷ 7
    ∷ 2 ∷ 0 ∷ 0 ∷ 0 ∷ 0 ∷ 0 ∷ 0 ∷ 0
    ∷ 0 ∷ 0 ∷ 0 ∷ 0 ∷ 0 ∷ 0 ∷ 0 ∷ 0
    ∷ 0 ∷ 0 ∷ 0 ∷ 0 ∷ 0 ∷ 0 ∷ 0 ∷ 0
    ∷ []

-- the message has these bytes
pub has_bytes : message_bytes message ≡ bytes
has_bytes = refl

-- it fits
pub fits : FitsMessage message
fits = (omega arith, (tt, (omega arith, omega arith, tt), omega arith, tt, tt))

-- the front is no message's
pub front_is_none : (m : Partials) → FitsMessage m → message_bytes m ≡ front → ⊥
front_is_none m h e = let rest = (one_spelling m message (0 ∷ []) [] h fits (ap (λ (l : List ℕ). l ++ 0 ∷ []) e)).1 in cc

-- nor are those bytes with one more
pub longer_is_none : (m : Partials) → FitsMessage m → message_bytes m ≡ bytes ++ 0 ∷ [] → ⊥
longer_is_none m h e = let rest = (one_spelling m message [] (0 ∷ []) h fits (append-nil (message_bytes m) ∙ e)).1 in cc

-- the bytes spell the message
pub spelled : Spells bytes message
spelled = (refl, (fits, (refl, tt, tt), omega arith))

-- the front spells none, nor do the bytes with one more
pub front_not_spelled : (m : Partials) → Spells front m → ⊥
front_not_spelled m spelling = front_is_none m (spelling.1.0) (sym (spelling.0))

pub longer_not_spelled : (m : Partials) → Spells (bytes ++ 0 ∷ []) m → ⊥
longer_not_spelled m spelling = longer_is_none m (spelling.1.0) (sym (spelling.0))
