use Rattle.std.proofs.Common.{sym, ap, subst}
use Rattle.fc_partial.specs.BucketView.{message_view}
use Rattle.fc_request.specs.NodeView.{nodes_view}
use Rattle.fc_refine.specs.AskView.{ask_view}
use Rattle.fc_told.specs.TreeView.{tree_view}
use Rattle.fc_coord.specs.View.{asks_view, IsKeptAt}
use Rattle.fc_coord.specs.CoordView.{state_view}
use Rattle.fc_coord.proofs.AskLists.{not_ready}
use Rattle.fc_coord.proofs.Kept.{kept_somehow, heard_kept_at, kept_names}
use Rattle.fc_coord.proofs.StateAfter.{is_heard}
use Rattle.fc_coord.proofs.coord.Coord.hear.Goals as goal

pub tell-requires : goal.tell-requires
tell-requires c =
    let s = state_view c.args.self.now in
    kept_names s c.args.shard (ask_view c.heard-ask.result) (nodes_view c.deref.result.now) (kept_somehow s c.args.self.now.next_depth (c.args.self.now.kept c.requires.not_spent)) c.heard-ask.ensures.ask (ap nodes_view c.deref.ensures.value)

pub invariant_of-self-2-clause-kept : goal.invariant_of-self-2-clause-kept
invariant_of-self-2-clause-kept c =
    let s = state_view c.args.self.now in
    let i = c.args.shard in
    let m = message_view c.args.message in
    let depth = c.args.self.now.next_depth in
    let ready = not_ready s.ready s.asks i c.args.self.now.done c.requires.awaited in
    let e = is_heard s i m (ask_view c.heard-ask.result) (tree_view c.tell.new.self) (asks_view c.heard-ask.new.asks.items) (nodes_view c.deref.result.now) c.heard-ask.ensures.ask (ap nodes_view c.deref.ensures.value) c.in_ok-tell.ensures c.heard-ask.ensures.asks ready c.requires.not_spent in
    λ _. subst (λ x. ∥ IsKeptAt x depth ∥₁) (sym e) (heard_kept_at s i m c.trees_tell.ensures.more c.trees_tell.ensures.fits c.requires.awaited c.requires.fits depth (c.args.self.now.kept c.requires.not_spent))

pub returns-clause-state : goal.returns-clause-state
returns-clause-state c =
    let s = state_view c.args.self.now in
    let ready = not_ready s.ready s.asks c.args.shard c.args.self.now.done c.requires.awaited in
    is_heard s c.args.shard (message_view c.args.message) (ask_view c.heard-ask.result) (tree_view c.tell.new.self) (asks_view c.heard-ask.new.asks.items) (nodes_view c.deref.result.now) c.heard-ask.ensures.ask (ap nodes_view c.deref.ensures.value) c.in_ok-tell.ensures c.heard-ask.ensures.asks ready c.requires.not_spent
