use Rattle.std.proofs.Common.{◌∙◌, sym, ap}
use Rattle.fc_partial.specs.BucketView.{bare}
use Rattle.fc_request.specs.FacetNode.{kind_of, kind_view}
use Rattle.fc_request.specs.NodeView.{inner_view}
use Rattle.fc_answers.specs.LeastListed.{least_of}
use Rattle.fc_answers.specs.Listed.{listed_of}
use Rattle.fc_jobs.proofs.ListedRanges.{least_listed}
use Rattle.fc_jobs.proofs.listing_from.listed_from.Goals as goal

pub returns-in_ok-list-in-Terms-clause-listed : goal.returns-in_ok-list-in-Terms-clause-listed
returns-in_ok-list-in-Terms-clause-listed c = c.in_ok-list-in-Terms.ensures.list ∙ ap (λ k. bare (least_of (kind_view k) (inner_view c.args.node.now) c.args.least c.args.tally.entries)) (sym c.in-Terms.is)

pub returns-in_ok-list-in-Range-clause-listed : goal.returns-in_ok-list-in-Range-clause-listed
returns-in_ok-list-in-Range-clause-listed c =
    let es = c.args.tally.entries in
    let inner = inner_view c.args.node.now in
    c.in_ok-list-in-Range.ensures.listed ∙ ap bare (least_listed (kind_of c.args.node.now) c.in-Range.is inner c.args.least es)

pub returns-in_ok-list-in-Query-clause-listed : goal.returns-in_ok-list-in-Query-clause-listed
returns-in_ok-list-in-Query-clause-listed c =
    let es = c.args.tally.entries in
    let inner = inner_view c.args.node.now in
    c.in_ok-list-in-Query.ensures.listed ∙ ap (λ k. bare (listed_of (kind_view k) inner es)) c.in-Query.is ∙ ap (λ k. bare (least_of (kind_view k) inner c.args.least es)) (sym c.in-Query.is)
