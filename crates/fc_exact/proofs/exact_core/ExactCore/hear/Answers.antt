use Rattle.std.proofs.Common.{map}
use Rattle.fc_partial.specs.BucketView.{message_view}
use Rattle.fc_exact.specs.View.{ask_view, asks_view, told_view}
use Rattle.fc_exact.specs.CoreView.{state_view}
use Rattle.fc_exact.proofs.AskLists.{not_ready}
use Rattle.fc_exact.proofs.StateAfter.{is_heard}
use Rattle.fc_exact.proofs.exact_core.ExactCore.hear.Goals as goal

pub returns-clause-state : goal.returns-clause-state
returns-clause-state c =
    let s = state_view c.args.self.now in
    let ready = not_ready s.ready s.asks c.args.shard c.args.self.now.done c.requires.awaited in
    is_heard s c.args.shard (message_view c.args.message) (ask_view c.heard-ask.result) (map told_view c.tell_answer.new.told.items) (asks_view c.heard-ask.new.asks.items) c.heard-ask.ensures.ask c.in_ok-tell_answer.ensures c.heard-ask.ensures.asks ready c.requires.not_spent
