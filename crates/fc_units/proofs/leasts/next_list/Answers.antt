use Rattle.std.proofs.Common.{[], ◌∷◌, ◌++◌, refl, ap, ◌∙◌}
use Rattle.fc_partial.specs.declared.bucket.PartialBucket.TheViews.{roll-PartialBucket}
use Rattle.fc_partial.specs.declared.key.Key.TheVariants as key
use Rattle.fc_request.specs.NodeView.{nodes_view}
use Rattle.fc_units.specs.declared.leasts.Lists.{Lists}
use Rattle.fc_units.proofs.LeastLists.{next_begins, no_further}
use Rattle.fc_units.proofs.leasts.next_list.Goals as goal

pub returns-in_default : goal.returns-in_default
returns-in_default c = λ s cut request ns can are valid.
    no_further s cut request ns c.args.base.items c.args.stats c.args.done c.push.new.self (nodes_view c.args.nodes.now)
    (c.in_ok-push.ensures.items ∙ ap (λ bs. bs ++ roll-PartialBucket (record { key = key.Whole; stats = c.args.stats; nodes = c.args.done }) ∷ []) c.new-buckets.ensures.items) c.in_default.ensures.next are

pub returns : goal.returns
returns c = λ s cut request ns can are valid.
    let l : Lists = record { base = c.args.base; stats = c.args.stats; done = c.args.done; job = record { node = c.in-Some.node; at = 0; tally = c.in_ok-tally.tally }; left = c.in-Some.left } in
    next_begins s cut request ns l (nodes_view c.args.nodes.now) can are valid c.in-Some.ensures.next c.in-Some.ensures.facet c.in_ok-tally.ensures refl
