use Rattle.std.proofs.Common.{◌∙◌, ◌&&◌, ◌+◌, Bool, ap, sym, drop}
use Rattle.std.proofs.lemmas.Bool.{ltb-true}
use Rattle.fc_spec.specs.messages.Held.{told_wants}
use Rattle.fc_partial.specs.BucketView.{buckets_view}
use Rattle.fc_refine.specs.AskView.{wants_view}
use Rattle.fc_request.specs.NodeView.{nodes_view}
use Rattle.fc_told.specs.Fitting.{all_fit}
use Rattle.fc_told.specs.TreeView.{tree_view}
use Rattle.fc_told.proofs.Fits.{want_first}
use Rattle.fc_told.proofs.fitting.wants_fit.Goals as goal

pub returns-then-not-bucket_fits : goal.returns-then-not-bucket_fits
returns-then-not-bucket_fits c = λ shard.
    let T = tree_view c.args.told.now in
    let N = nodes_view c.args.nodes.now in
    let ws = c.args.wants.now in
    let bs = c.args.buckets.now in
    let i = c.loop-at.at in
    let rest : Bool = all_fit T (told_wants N shard (wants_view (drop (i + 1) ws)) (buckets_view (drop (i + 1) bs))) in
    sym (c.loop-at.invariant shard
    ∙ want_first T _ N _ shard ws bs i c.index-wants-at.result c.in-Some.bucket.now _ c.loop-at-test.true c.index-wants-at.is (ltb-true _ _ (sym c.in-Some.ensures.lookup.0)) c.in-Some.ensures.lookup.1 c.wanted_nodes.ensures c.wanted_bucket.ensures c.bucket_fits.ensures
    ∙ ap (λ b. b && rest) c.if-not-bucket_fits.true)

pub loop-at-preserved : goal.loop-at-preserved
loop-at-preserved c = λ shard.
    let T = tree_view c.args.told.now in
    let N = nodes_view c.args.nodes.now in
    let ws = c.args.wants.now in
    let bs = c.args.buckets.now in
    let i = c.loop-at.at in
    let rest : Bool = all_fit T (told_wants N shard (wants_view (drop (i + 1) ws)) (buckets_view (drop (i + 1) bs))) in
    c.loop-at.invariant shard
    ∙ want_first T _ N _ shard ws bs i c.index-wants-at.result c.in-Some.bucket.now _ c.loop-at-test.true c.index-wants-at.is (ltb-true _ _ (sym c.in-Some.ensures.lookup.0)) c.in-Some.ensures.lookup.1 c.wanted_nodes.ensures c.wanted_bucket.ensures c.bucket_fits.ensures
    ∙ ap (λ b. b && rest) c.if-not-bucket_fits.false
