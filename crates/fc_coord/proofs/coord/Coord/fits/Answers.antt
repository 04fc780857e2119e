use Rattle.std.proofs.Common.{◌≡◌, ◌&&◌, ◌∙◌, sym, ap, subst, IsTrue}
use Rattle.std.specs.Prelude.{◌↔◌}
use Rattle.fc_spec.specs.messages.Held.{told_by}
use Rattle.fc_partial.specs.BucketView.{message_view}
use Rattle.fc_request.specs.NodeView.{nodes_view}
use Rattle.fc_refine.specs.AskView.{ask_view}
use Rattle.fc_told.specs.Fitting.{all_fit}
use Rattle.fc_coord.specs.State.{ask_at, is_shaped_for, told_for, is_fitting, Fits}
use Rattle.fc_coord.specs.CoordView.{state_view}
use Rattle.fc_coord.proofs.Hearing.{fits_is_exact}
use Rattle.fc_coord.proofs.coord.Coord.fits.Goals as goal

pub returns-then-shaped-clause-sums : goal.returns-then-shaped-clause-sums
returns-then-shaped-clause-sums c = λ A k.
    let s = state_view c.args.self.now in
    let m = message_view c.args.message.now in
    let at = c.ask-ask.ensures in
    let sums = c.fits.ensures c.args.shard ∙ ap (λ ns. all_fit s.tree (told_by ns c.args.shard (ask_view c.ask-ask.result.now) m)) (ap nodes_view c.deref.ensures.value) ∙ ap (λ o. all_fit s.tree (told_for s.request.nodes c.args.shard o m)) at in
    let shape = sym (ap (λ o. is_shaped_for s.request o m) at) ∙ (sym c.shaped.ensures ∙ c.if-shaped.true) in
    let same : c.fits.result ≡ is_fitting s c.args.shard m = sums ∙ ap (λ b. b && all_fit s.tree (told_for s.request.nodes c.args.shard (ask_at s.asks c.args.shard) m)) (sym shape) in
    subst (λ b. IsTrue b ↔ Fits s A c.args.shard m) (sym same) (fits_is_exact s A c.args.shard m c.trees_tell.ensures.fits k c.requires)
