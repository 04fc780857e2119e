use Rattle.fc_coord.specs.CoordView.{state_view}
use Rattle.fc_coord.proofs.Kept.{kept_somehow, ready_not_spent, tellers_fit}
use Rattle.fc_coord.proofs.coord.Coord.into_reply.Goals as goal

pub merged_reply-requires-clause-fit : goal.merged_reply-requires-clause-fit
merged_reply-requires-clause-fit c = tellers_fit (state_view c.args.self) c.trees_tell.ensures.tellers (kept_somehow (state_view c.args.self) c.args.self.next_depth (c.args.self.kept (ready_not_spent c.args.self.standing c.requires)))
