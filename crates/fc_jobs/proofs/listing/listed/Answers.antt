use Rattle.std.proofs.Common.{◌∙◌, sym, ap}
use Rattle.fc_partial.specs.BucketView.{bare}
use Rattle.fc_request.specs.FacetNode.{kind_of, kind_view}
use Rattle.fc_request.specs.NodeView.{inner_view}
use Rattle.fc_answers.specs.Listed.{listed_of}
use Rattle.fc_jobs.proofs.ListedKeys.{keys_listed}
use Rattle.fc_jobs.proofs.listing.listed.Goals as goal

pub returns-in_ok-list-in-Terms-clause-keys : goal.returns-in_ok-list-in-Terms-clause-keys
returns-in_ok-list-in-Terms-clause-keys c =
    let es = c.args.tally.entries in
    let inner = inner_view c.args.node.now in
    keys_listed (kind_view (kind_of c.args.node.now)) inner es c.in_ok-list-in-Terms.list.items c.requires.keys
    (c.in_ok-list-in-Terms.ensures.list ∙ ap (λ k. bare (listed_of (kind_view k) inner es)) (sym c.in-Terms.is))

pub returns-in_ok-list-in-Range-clause-keys : goal.returns-in_ok-list-in-Range-clause-keys
returns-in_ok-list-in-Range-clause-keys c =
    let es = c.args.tally.entries in
    let inner = inner_view c.args.node.now in
    keys_listed (kind_view (kind_of c.args.node.now)) inner es c.in_ok-list-in-Range.list.items c.requires.keys
    c.in_ok-list-in-Range.ensures.list

pub returns-in_ok-list-in-Query-clause-keys : goal.returns-in_ok-list-in-Query-clause-keys
returns-in_ok-list-in-Query-clause-keys c =
    let es = c.args.tally.entries in
    let inner = inner_view c.args.node.now in
    keys_listed (kind_view (kind_of c.args.node.now)) inner es c.in_ok-list-in-Query.list.items c.requires.keys
    (c.in_ok-list-in-Query.ensures.list ∙ ap (λ k. bare (listed_of (kind_view k) inner es)) (sym c.in-Query.is))
