use Rattle.std.proofs.Common.{◌≡◌, ◌+◌, length, refl, sym, ◌∙◌, ap, true, false, is_some, arith}
use Rattle.std.specs.Prelude.{option_map}
use Rattle.std.specs.List.{list_any}
use Rattle.std.proofs.lemmas.List.{length-map}
use Rattle.fc_exact.specs.CoreView.{state_view}
use Rattle.fc_exact.specs.View.{ask_view, asks_view}
use Rattle.fc_exact.proofs.NextAsks.{length-asks_behind, some_asks}
use Rattle.fc_exact.proofs.StateAfter.{nothing_begins, round_begins}
use Rattle.fc_exact.proofs.exact_core.ExactCore.go_on.Goals as goal

pub returns-then-not-are_awaited-clause-state : goal.returns-then-not-are_awaited-clause-state
returns-then-not-are_awaited-clause-state c =
    let s = state_view c.args.self.now in
    let asks = asks_view c.in_ok-asks.asks.items in
    let none : list_any is_some asks ≡ false = ap (λ xs. list_any is_some (asks_view xs)) (sym c.deref.ensures.value) ∙ sym c.are_awaited.ensures ∙ c.if-not-are_awaited.true in
    nothing_begins s asks c.in_ok-asks.ensures c.requires.not_spent none

pub returns-clause-state : goal.returns-clause-state
returns-clause-state c =
    let s = state_view c.args.self.now in
    let asks = asks_view c.in_ok-asks.asks.items in
    let some : list_any is_some asks ≡ true = ap (λ xs. list_any is_some (asks_view xs)) (sym c.deref.ensures.value) ∙ sym c.are_awaited.ensures ∙ c.if-not-are_awaited.false in
    round_begins s asks c.in_ok-asks.ensures c.requires.not_spent (s.round + 1) c.requires.not_ready some refl

pub invariant_of-self-2-clause-some : goal.invariant_of-self-2-clause-some
invariant_of-self-2-clause-some c =
    let asks = asks_view c.in_ok-asks.asks.items in
    let some : list_any is_some asks ≡ true = ap (λ xs. list_any is_some (asks_view xs)) (sym c.deref.ensures.value) ∙ sym c.are_awaited.ensures ∙ c.if-not-are_awaited.false in
    omega (arith, length-map c.in_ok-asks.asks.items (option_map ask_view), some_asks asks some)

pub invariant_of-self-2-clause-few : goal.invariant_of-self-2-clause-few
invariant_of-self-2-clause-few c =
    let s = state_view c.args.self.now in
    let few = c.args.self.now.few in
    omega (arith, length-map c.in_ok-asks.asks.items (option_map ask_view), ap length c.in_ok-asks.ensures, length-asks_behind s s.round, length-map c.args.self.now.asks.items (option_map ask_view), few)
