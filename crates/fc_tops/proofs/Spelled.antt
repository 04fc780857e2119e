-- The message that bytes spell.
use Rattle.std.proofs.Common.{◌≡◌, ℕ, List, [], append-nil, length, sym, ◌∙◌, ap}
use Rattle.fc_spec.specs.messages.Message.{Partials}
use Rattle.fc_spec.specs.messages.MessageBytes.{message_bytes}
use Rattle.fc_spec.specs.messages.Nesting.{Spells}
use Rattle.fc_spec.specs.laws.SpellingLaw.{HasOneSpelling}

-- it is one
pub same_message : HasOneSpelling → (bytes other : List ℕ) (m n : Partials) → bytes ≡ other → Spells bytes m → Spells other n → m ≡ n
same_message one bytes other m n same first second =
    (one m n [] [] first.1.0 second.1.0 (append-nil (message_bytes m) ∙ sym first.0 ∙ same ∙ second.0 ∙ sym (append-nil (message_bytes n)))).0

pub spelled_length : (bytes : List ℕ) (m : Partials) → Spells bytes m → length bytes ≡ length (message_bytes m)
spelled_length bytes m spelled = ap length spelled.0
