-- The core's state after a message.
use Rattle.std.proofs.Common.{◌≡◌, ℕ, suc, ◌+◌, List, ◌++◌, true, false, cond, Option, None, Some, is_some, sym, ◌∙◌, ap, arith}
use Rattle.std.specs.Prelude.{slice_set}
use Rattle.std.specs.List.{list_any}
use Rattle.fc_spec.specs.messages.Message.{Partials}
use Rattle.fc_spec.specs.messages.TopRounds.{ExactAsk, ToldCount, exact_told}
use Rattle.fc_exact.specs.State.{State, ask_at, told_for, heard, asks_behind, begun, goes_on}

-- with other counts told and other asks, neither ready nor out of memory
abbrev pub open_state : State → List ToldCount → List (Option ExactAsk) → State
open_state s told asks = record s { told = told; asks = asks; ready = false; spent = false }

pub is_heard : (s : State) (i : ℕ) (m : Partials) (ask : ExactAsk) (told : List ToldCount) (asks : List (Option ExactAsk)) → ask_at s.asks i ≡ Some ask → told ≡ s.told ++ exact_told i ask m → asks ≡ slice_set s.asks i None
    → s.ready ≡ false → s.spent ≡ false → open_state s told asks ≡ heard s i m
is_heard s i m ask told asks at tells heard_asks ready spent =
    let whole : told ≡ s.told ++ told_for i (ask_at s.asks i) m = tells ∙ ap (λ o. s.told ++ told_for i o m) (sym at) in
    λ j. record { request = s.request; told = whole j; asks = heard_asks j; round = s.round; ready = sym ready j; spent = sym spent j }

-- ---- behind a message

pub is_waiting : (h mid : State) → mid ≡ h → list_any is_some mid.asks ≡ true → mid ≡ goes_on h
is_waiting h mid e some = e ∙ sym (ap (λ b. cond b h (begun h)) (ap (λ (x : State). list_any is_some x.asks) (sym e) ∙ some))

pub goes_further : (h mid new : State) → mid ≡ h → list_any is_some mid.asks ≡ false → new ≡ begun mid → new ≡ goes_on h
goes_further h mid new e none begins = begins ∙ ap begun e ∙ sym (ap (λ b. cond b h (begun h)) (ap (λ (x : State). list_any is_some x.asks) (sym e) ∙ none))

-- ---- behind the last message of a round

module _ (s : State) (asks : List (Option ExactAsk)) (own : asks ≡ asks_behind s s.round) (fresh : s.spent ≡ false) where
  pub nothing_begins : list_any is_some asks ≡ false → record s { ready = true; spent = false } ≡ begun s
  nothing_begins none =
      (λ j. record s { ready = true; spent = sym fresh j })
      ∙ sym (ap (λ b. cond b (record s { asks = asks_behind s s.round; round = suc s.round }) (record s { ready = true })) (ap (list_any is_some) (sym own) ∙ none))

  pub round_begins : (round : ℕ) → s.ready ≡ false → list_any is_some asks ≡ true → round ≡ s.round + 1 → record s { asks = asks; round = round; ready = false; spent = false } ≡ begun s
  round_begins round unready some counted =
      (λ j. record s { asks = own j; round = (counted ∙ (let e : s.round + 1 ≡ suc s.round = omega arith in e)) j; ready = sym unready j; spent = sym fresh j })
      ∙ sym (ap (λ b. cond b (record s { asks = asks_behind s s.round; round = suc s.round }) (record s { ready = true })) (ap (list_any is_some) (sym own) ∙ some))
