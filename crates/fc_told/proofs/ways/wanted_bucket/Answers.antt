use Rattle.std.proofs.Common.{ap, sym, ◌∙◌}
use Rattle.std.specs.Arc.{arc_value}
use Rattle.fc_partial.specs.View.{key_view}
use Rattle.fc_refine.specs.AskView.{way_view}
use Rattle.fc_told.specs.Trees as trees
use Rattle.fc_told.specs.TreeView.{tree_view}
use Rattle.fc_told.proofs.Fits.{at_more}
use Rattle.fc_told.proofs.ways.wanted_bucket.Goals as goal

pub returns : goal.returns
returns c =
    let w = c.args.want.now in
    c.child_of.ensures
    ∙ ap (trees.child (record { node = w.node; key = key_view w.key })) (c.bucket_along-around.ensures ∙ ap (λ ss. trees.at (way_view ss) (tree_view c.args.told.now)) c.way.ensures)
    ∙ sym (at_more (way_view (arc_value w.path).items) _ (tree_view c.args.told.now))
