-- The state behind a message, part by part.
use Rattle.std.proofs.Common.{◌≡◌, ℕ, suc, ◌+◌, List, length, true, false, cond, Option, Some, None, is_some, sym, ◌∙◌, ap, subst, arith}
use Rattle.std.specs.Prelude.{slice_set}
use Rattle.std.specs.List.{list_any}
use Rattle.fc_spec.specs.requests.Request.{Nodes}
use Rattle.fc_spec.specs.messages.Message.{Partials, Ask}
use Rattle.fc_spec.specs.messages.Held.{Told, told_by}
use Rattle.fc_spec.specs.messages.Lacks.{Lack}
use Rattle.fc_told.specs.Trees.{Tree}
use Rattle.fc_told.specs.Adding.{all_added}
use Rattle.fc_coord.specs.State.{State, ask_at, asks_for, begun, lacks_next, told_for, heard}
use Rattle.fc_coord.specs.Keeps.{Keeps}
use Rattle.fc_coord.specs.View.{IsKeptAt}
use Rattle.fc_coord.proofs.Kept.{Follows, waits}

-- neither ready nor spent
abbrev pub open_state : State → Tree → List (Option Ask) → State
open_state s T asks = record { request = s.request; tree = T; asks = asks; round = s.round; ready = false; spent = false }

pub settled : (s : State) → s.ready ≡ false → s.spent ≡ false → s ≡ open_state s s.tree s.asks
settled s ready spent = λ j. record s { ready = ready j; spent = spent j }

pub is_heard : (s : State) (i : ℕ) (m : Partials) (ask : Ask) (T : Tree) (asks : List (Option Ask)) (nodes : Nodes) → ask_at s.asks i ≡ Some ask → nodes ≡ s.request.nodes → T ≡ all_added (told_by nodes i ask m) s.tree → asks ≡ slice_set s.asks i None
    → s.ready ≡ false → s.spent ≡ false → open_state s T asks ≡ heard s i m
is_heard s i m ask T asks nodes at same tree heard_asks ready spent =
    let whole : T ≡ all_added (told_for s.request.nodes i (ask_at s.asks i) m) s.tree =
    tree ∙ ap (λ ns. all_added (told_by ns i ask m) s.tree) same ∙ ap (λ o. all_added (told_for s.request.nodes i o m) s.tree) (sym at) in
    λ j. record { request = s.request; tree = whole j; asks = heard_asks j; round = s.round; ready = sym ready j; spent = sym spent j }

pub follows_waiting : (h new : State) → new ≡ h → list_any is_some new.asks ≡ true → Follows h new
follows_waiting h new e some = λ A k. e ∙ waits h A (subst (λ (x : State). list_any is_some x.asks ≡ true) e some)

-- behind the last message of a round
pub follows_begun : (h mid new : State) → mid ≡ h → list_any is_some mid.asks ≡ false → ((A : List Told) → Keeps mid A → new ≡ begun mid (lacks_next mid A)) → Follows h new
follows_begun h mid new e none begins = subst (λ x. Follows x new) e (λ A k. begins A k ∙ sym (ap (λ b. cond b mid (begun mid (lacks_next mid A))) none))

-- what is kept of the next round
pub round_kept : (s : State) (all : List Lack) (asks : List (Option Ask)) (round found_depth depth : ℕ) → ∥ IsKeptAt (record s { asks = asks_for (length s.asks) all; round = suc s.round }) (suc found_depth) ∥₁ → asks ≡ asks_for (length s.asks) all → round ≡ s.round + 1 → depth ≡ found_depth + 1
    → ∥ IsKeptAt (record s { asks = asks; round = round }) depth ∥₁
round_kept s all asks round found_depth depth kept own counted deeper =
    let r : round ≡ suc s.round = omega arith in
    let d : depth ≡ suc found_depth = omega arith in
    subst (λ n. ∥ IsKeptAt (record s { asks = asks; round = round }) n ∥₁) (sym d)
    (subst (λ n. ∥ IsKeptAt (record s { asks = asks; round = n }) (suc found_depth) ∥₁) (sym r)
    (subst (λ xs. ∥ IsKeptAt (record s { asks = xs; round = suc s.round }) (suc found_depth) ∥₁) (sym own) kept))
