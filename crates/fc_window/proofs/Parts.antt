-- A part of a window of which one more line was read.
use Rattle.std.proofs.Common.{◌≡◌, ℕ, ◌+◌, ◌<◌, ◌≤◌, ◌⊎◌, inl, inr, List, length, get_or, set, arith, subst, ◌∙◌}
use Rattle.std.proofs.lemmas.Bool.{cases_eq}
use Rattle.std.proofs.lemmas.List.{get_or_default, get_or-set_same, get_or-set_other}
use Rattle.fc_spec.specs.documents.Schema.{Schema}
use Rattle.fc_window.specs.Slots.{IsReadFrom}
use Rattle.fc_window.specs.declared.slot.Slot.{Slot}

module _ (s : Schema) (old now : List Slot) (n : ℕ) (item slot : Slot) (within : n < length now) (left : (i : ℕ) (d : Slot) → n ≤ i → get_or now i d ≡ get_or old i d) where
  here : IsReadFrom s (get_or now n item) slot → (d : Slot) → IsReadFrom s (get_or old n d) slot
  here read d = subst (λ old. IsReadFrom s old slot) (get_or_default now n item d within ∙ left n d (omega arith)) read

  -- the lines before it stay as they were read
  pub read_more : ((i : ℕ) (d : Slot) → i < n → IsReadFrom s (get_or old i d) (get_or now i d)) → IsReadFrom s (get_or now n item) slot
      → (i : ℕ) (d : Slot) → i < n + 1 → IsReadFrom s (get_or old i d) (get_or (set now n slot) i d)
  read_more before read i d below = go (cases_eq i n)
    where
      go : (i ≡ n) ⊎ (i ≡ n → ⊥) → IsReadFrom s (get_or old i d) (get_or (set now n slot) i d)
      go (inl same) = rw (same, get_or-set_same now n slot d within) (here read d)
      go (inr other) = rw (get_or-set_other now n i slot d other) (before i d (omega arith))

  -- and those behind it stay unread
  pub left_more : (i : ℕ) (d : Slot) → n + 1 ≤ i → get_or (set now n slot) i d ≡ get_or old i d
  left_more i d behind = get_or-set_other now n i slot d (λ same. omega arith) ∙ left i d (omega arith)
