-- Lists of asks and of wants as they change.
use Rattle.std.proofs.Common.{◌≡◌, ℕ, zero, suc, ◌<◌, List, [], ◌∷◌, ◌++◌, map, length, get_or, Bool, true, false, ◌==◌, Option, None, Some, is_some, IsTrue, refl, sym, ◌∙◌, ap, inl, inr, arith}
use Rattle.std.specs.Prelude.{option_map, slice_set, Vec}
use Rattle.std.specs.declared.alloc.Global.{Global}
use Rattle.std.specs.List.{list_any}
use Rattle.std.proofs.lemmas.Bool.{false≢true, eq-eqb}
use Rattle.std.proofs.lemmas.List.{map-append}
use Rattle.fc_spec.specs.messages.Message as message
use Rattle.fc_spec.proofs.words.Members.{Member}
use Rattle.fc_refine.specs.declared.ask.Ask.{Ask}
use Rattle.fc_refine.specs.declared.ask.Want.{Want}
use Rattle.fc_refine.specs.AskView.{ask_view, want_view, wants_view}
use Rattle.fc_coord.specs.State.{ask_at}
use Rattle.fc_coord.specs.View.{asks_view, all_wants_view}
use Rattle.fc_coord.specs.Wants.{with_want}

pub asks_set : (asks : List (Option Ask)) (i : ℕ) → asks_view (slice_set asks i None) ≡ slice_set (asks_view asks) i None
asks_set [] i = refl
asks_set (x ∷ xs) zero = refl
asks_set (x ∷ xs) (suc i) = ap (λ ys. option_map ask_view x ∷ ys) (asks_set xs i)

pub wants_set : (wants : List (Vec Want Global)) (i : ℕ) (old new : Vec Want Global) (w : Want) → old ≡ get_or wants i old → new.items ≡ old.items ++ w ∷ [] → all_wants_view (slice_set wants i new) ≡ with_want i (want_view w) (all_wants_view wants)
wants_set [] i old new w is more = refl
wants_set (v ∷ vs) zero old new w is more = ap (λ ws. ws ∷ all_wants_view vs) (ap wants_view more ∙ map-append want_view old.items (w ∷ []) ∙ ap (λ (u : Vec Want Global). wants_view u.items ++ want_view w ∷ []) is)
wants_set (v ∷ vs) (suc i) old new w is more = ap (λ rest. wants_view v.items ∷ rest) (wants_set vs i old new w is more)

any_asked : (asks : List (Option message.Ask)) (i : ℕ) → IsTrue (is_some (ask_at asks i)) → list_any is_some asks ≡ true
any_asked [] i on = absurd (false≢true on)
any_asked (None ∷ xs) zero on = absurd (false≢true on)
any_asked (Some a ∷ xs) zero on = refl
any_asked (None ∷ xs) (suc i) on = any_asked xs i on
any_asked (Some a ∷ xs) (suc i) on = refl

-- where a shard is awaited, the reply cannot be made yet
pub not_ready : (ready : Bool) (asks : List (Option message.Ask)) (i : ℕ) → (ready ≡ true → list_any is_some asks ≡ false) → IsTrue (is_some (ask_at asks i)) → ready ≡ false
not_ready true asks i done on = absurd (false≢true (sym (done refl) ∙ any_asked asks i on))
not_ready false asks i done on = refl

-- what stands at a place is a member
pub member_at : {X Y : Type 0} (f : X → Y) (xs : List X) (k : ℕ) (d : X) → k < length xs → Member (f (get_or xs k d)) (map f xs)
member_at f [] k d less = absurd (omega arith)
member_at f (x ∷ xs) zero d less = inl refl
member_at f (x ∷ xs) (suc k) d less = inr (member_at f xs k d (omega arith))

pub positive : (n : ℕ) → (n == 0) ≡ false → 0 < n
positive zero h = absurd (false≢true (sym h ∙ eq-eqb 0 0 refl))
positive (suc n) h = omega arith
