-- What is answered of bytes.
use Rattle.std.proofs.Common.{ℕ, List, Result, Ok, Err, sym, ◌∙◌}
use Rattle.std.specs.Prelude.{IfOk}
use Rattle.fc_spec.specs.messages.Message.{Partials}
use Rattle.fc_spec.specs.messages.Nesting.{Spells}
use Rattle.fc_base.specs.Answers.{Answers, one_fault}
use Rattle.fc_base.specs.declared.error.Refusal.{Refusal}
use Rattle.fc_base.specs.declared.error.Refusal.TheVariants.{Memory, Fault}
use Rattle.fc_partial.specs.BucketView.{message_view}
use Rattle.fc_partial.specs.declared.bucket.Message.{Message}
use Rattle.fc_wire.specs.declared.fault.WireFault.{WireFault}
use Rattle.fc_wire.specs.Faults.{IsFault}
use Rattle.fc_wire.specs.Reading.{message_of}
use Rattle.fc_wire.proofs.Taking.{AreBytes}
use Rattle.fc_wire.proofs.TakenMessages.{read_is_spelled}
use Rattle.fc_wire.proofs.SpelledMessages.{spelled_is_read}

pub is_spelled : (bytes : List ℕ) (r : Result Message (Refusal WireFault)) → AreBytes bytes → Answers message_view one_fault r (message_of bytes) → IfOk r (λ m. Spells bytes (message_view m))
is_spelled bytes (Ok m) are answers = read_is_spelled bytes (message_view m) are answers
is_spelled bytes (Err e) are answers = tt

pub spells_none : (bytes : List ℕ) (r : Result Message (Refusal WireFault)) → Answers message_view one_fault r (message_of bytes) → IsFault r → (m : Partials) → Spells bytes m → ⊥
spells_none bytes (Ok x) answers none m spelled = none
spells_none bytes (Err Memory) answers none m spelled = none
spells_none bytes (Err (Fault f)) answers none m spelled = let both = sym (spelled_is_read bytes m spelled) ∙ answers in absurd cc
