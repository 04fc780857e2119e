-- Lists of asks as they change.
use Rattle.std.proofs.Common.{◌≡◌, ℕ, zero, suc, List, [], ◌∷◌, Bool, true, false, Option, None, Some, is_some, IsTrue, refl, sym, ◌∙◌, ap}
use Rattle.std.specs.Prelude.{option_map, slice_set}
use Rattle.std.specs.List.{list_any}
use Rattle.std.proofs.lemmas.Bool.{false≢true}
use Rattle.fc_spec.specs.messages.TopRounds as definition
use Rattle.fc_exact.specs.declared.ask.ExactAsk.{ExactAsk}
use Rattle.fc_exact.specs.State.{ask_at}
use Rattle.fc_exact.specs.View.{ask_view, asks_view}

pub asks_set : (asks : List (Option ExactAsk)) (i : ℕ) → asks_view (slice_set asks i None) ≡ slice_set (asks_view asks) i None
asks_set [] i = refl
asks_set (x ∷ xs) zero = refl
asks_set (x ∷ xs) (suc i) = ap (λ ys. option_map ask_view x ∷ ys) (asks_set xs i)

any_asked : (asks : List (Option definition.ExactAsk)) (i : ℕ) → IsTrue (is_some (ask_at asks i)) → list_any is_some asks ≡ true
any_asked [] i on = absurd (false≢true on)
any_asked (None ∷ xs) zero on = absurd (false≢true on)
any_asked (Some a ∷ xs) zero on = refl
any_asked (None ∷ xs) (suc i) on = any_asked xs i on
any_asked (Some a ∷ xs) (suc i) on = refl

-- where a shard is awaited, the values cannot be given yet
pub not_ready : (ready : Bool) (asks : List (Option definition.ExactAsk)) (i : ℕ) → (ready ≡ true → list_any is_some asks ≡ false) → IsTrue (is_some (ask_at asks i)) → ready ≡ false
not_ready true asks i done on = absurd (false≢true (sym (done refl) ∙ any_asked asks i on))
not_ready false asks i done on = refl
