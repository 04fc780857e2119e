use Rattle.std.proofs.Common.{◌≡◌, sym, ◌∙◌, ap, true, false, is_some}
use Rattle.std.specs.List.{list_any}
use Rattle.fc_partial.specs.BucketView.{message_view}
use Rattle.fc_coord.specs.State.{State, heard}
use Rattle.fc_coord.specs.View.{asks_view}
use Rattle.fc_coord.specs.CoordView.{state_view}
use Rattle.fc_coord.proofs.AskLists.{not_ready}
use Rattle.fc_coord.proofs.Kept.{state_after, keeps_after}
use Rattle.fc_coord.proofs.StateAfter.{follows_waiting, follows_begun}
use Rattle.fc_coord.proofs.coord.Coord.take.Goals as goal

pub returns-then-are_awaited-clause-kept : goal.returns-then-are_awaited-clause-kept
returns-then-are_awaited-clause-kept c =
    let s = state_view c.args.self.now in
    let i = c.args.shard in
    let m = message_view c.args.message in
    let mid = state_view c.hear.new.self in
    let some : list_any is_some mid.asks ≡ true = ap (λ xs. list_any is_some (asks_view xs)) (sym c.deref.ensures.value) ∙ sym c.are_awaited.ensures ∙ c.if-are_awaited.true in
    keeps_after s i m c.trees_tell.ensures.more c.trees_tell.ensures.fits c.requires.awaited c.requires.fits mid (follows_waiting (heard s i m) mid c.in_ok-hear.ensures.state some)

pub returns-then-are_awaited-clause-state : goal.returns-then-are_awaited-clause-state
returns-then-are_awaited-clause-state c =
    let s = state_view c.args.self.now in
    let i = c.args.shard in
    let m = message_view c.args.message in
    let mid = state_view c.hear.new.self in
    let some : list_any is_some mid.asks ≡ true = ap (λ xs. list_any is_some (asks_view xs)) (sym c.deref.ensures.value) ∙ sym c.are_awaited.ensures ∙ c.if-are_awaited.true in
    state_after s i m c.trees_tell.ensures.more c.trees_tell.ensures.fits c.requires.awaited c.requires.fits mid (follows_waiting (heard s i m) mid c.in_ok-hear.ensures.state some)

pub go_on-requires-clause-not_ready : goal.go_on-requires-clause-not_ready
go_on-requires-clause-not_ready c =
    let s = state_view c.args.self.now in
    ap (λ (x : State). x.ready) c.in_ok-hear.ensures.state ∙ not_ready s.ready s.asks c.args.shard c.args.self.now.done c.requires.awaited

pub returns-clause-kept : goal.returns-clause-kept
returns-clause-kept c =
    let s = state_view c.args.self.now in
    let i = c.args.shard in
    let m = message_view c.args.message in
    let mid = state_view c.hear.new.self in
    let none : list_any is_some mid.asks ≡ false = ap (λ xs. list_any is_some (asks_view xs)) (sym c.deref.ensures.value) ∙ sym c.are_awaited.ensures ∙ c.if-are_awaited.false in
    let new = state_view c.go_on.new.self in
    keeps_after s i m c.trees_tell.ensures.more c.trees_tell.ensures.fits c.requires.awaited c.requires.fits new (follows_begun (heard s i m) mid new c.in_ok-hear.ensures.state none c.in_ok-answer.ensures.state)

pub returns-clause-state : goal.returns-clause-state
returns-clause-state c =
    let s = state_view c.args.self.now in
    let i = c.args.shard in
    let m = message_view c.args.message in
    let mid = state_view c.hear.new.self in
    let none : list_any is_some mid.asks ≡ false = ap (λ xs. list_any is_some (asks_view xs)) (sym c.deref.ensures.value) ∙ sym c.are_awaited.ensures ∙ c.if-are_awaited.false in
    let new = state_view c.go_on.new.self in
    state_after s i m c.trees_tell.ensures.more c.trees_tell.ensures.fits c.requires.awaited c.requires.fits new (follows_begun (heard s i m) mid new c.in_ok-hear.ensures.state none c.in_ok-answer.ensures.state)
