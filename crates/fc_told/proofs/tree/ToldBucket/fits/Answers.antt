use Rattle.std.proofs.Common.{◌∙◌, ap, sym}
use Rattle.std.proofs.lemmas.Bool.{ltb-true}
use Rattle.fc_spec.specs.messages.Held.{told_by, told_root}
use Rattle.fc_partial.specs.BucketView.{buckets_view, message_view}
use Rattle.fc_refine.specs.AskView.{ask_view}
use Rattle.fc_request.specs.NodeView.{nodes_view}
use Rattle.fc_told.specs.Fitting.{all_fit}
use Rattle.fc_told.specs.TreeView.{tree_view}
use Rattle.fc_told.proofs.Fits.{root_first}
use Rattle.fc_told.proofs.tree.ToldBucket.fits.Goals as goal

pub returns-in-Some : goal.returns-in-Some
returns-in-Some c = λ shard.
    let T = tree_view c.args.self.now in
    let N = nodes_view c.args.nodes.now in
    c.bucket_fits.ensures ∙ root_first T N shard c.deref.result.now c.in-Some.bucket.now (ltb-true _ _ (sym c.in-Some.ensures.item.0)) c.in-Some.ensures.item.1
    ∙ ap (λ bs. all_fit T (told_root N shard (buckets_view bs))) c.deref.ensures.value
    ∙ ap (λ a. all_fit T (told_by N shard (ask_view a) (message_view c.args.message.now))) (sym c.in-First.is)
