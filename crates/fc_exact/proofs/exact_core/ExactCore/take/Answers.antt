use Rattle.std.proofs.Common.{◌≡◌, sym, ◌∙◌, ap, true, false, is_some}
use Rattle.std.specs.List.{list_any}
use Rattle.fc_partial.specs.BucketView.{message_view}
use Rattle.fc_exact.specs.CoreView.{state_view}
use Rattle.fc_exact.specs.State.{State, heard}
use Rattle.fc_exact.specs.View.{asks_view}
use Rattle.fc_exact.proofs.AskLists.{not_ready}
use Rattle.fc_exact.proofs.StateAfter.{goes_further, is_waiting}
use Rattle.fc_exact.proofs.exact_core.ExactCore.take.Goals as goal

pub returns-then-are_awaited-clause-state : goal.returns-then-are_awaited-clause-state
returns-then-are_awaited-clause-state c =
    let s = state_view c.args.self.now in
    let mid = state_view c.hear.new.self in
    let some : list_any is_some mid.asks ≡ true = ap (λ xs. list_any is_some (asks_view xs)) (sym c.deref.ensures.value) ∙ sym c.are_awaited.ensures ∙ c.if-are_awaited.true in
    is_waiting (heard s c.args.shard (message_view c.args.message)) mid c.in_ok-hear.ensures.state some

pub returns-then-are_awaited-clause-answer : goal.returns-then-are_awaited-clause-answer
returns-then-are_awaited-clause-answer c =
    let s = state_view c.args.self.now in
    sym (ap (λ (x : State). x.ready) c.in_ok-hear.ensures.state ∙ not_ready s.ready s.asks c.args.shard c.args.self.now.done c.requires.awaited)

pub go_on-requires-clause-not_ready : goal.go_on-requires-clause-not_ready
go_on-requires-clause-not_ready c =
    let s = state_view c.args.self.now in
    ap (λ (x : State). x.ready) c.in_ok-hear.ensures.state ∙ not_ready s.ready s.asks c.args.shard c.args.self.now.done c.requires.awaited

pub returns-clause-state : goal.returns-clause-state
returns-clause-state c =
    let s = state_view c.args.self.now in
    let mid = state_view c.hear.new.self in
    let none : list_any is_some mid.asks ≡ false = ap (λ xs. list_any is_some (asks_view xs)) (sym c.deref.ensures.value) ∙ sym c.are_awaited.ensures ∙ c.if-are_awaited.false in
    goes_further (heard s c.args.shard (message_view c.args.message)) mid (state_view c.go_on.new.self) c.in_ok-hear.ensures.state none c.in_ok-answer.ensures.state
