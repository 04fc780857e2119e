use Rattle.std.proofs.Common.{◌≡◌, ◌∷◌, ◌++◌, [], true, false, ap, sym, ◌∙◌, append-nil}
use Rattle.std.specs.Prelude.{if◌then◌else◌}
use Rattle.std.specs.List.{filter}
use Rattle.fc_spec.specs.requests.Buckets.{missing}
use Rattle.fc_spec.specs.requests.Request.{stats_of}
use Rattle.fc_facet.specs.KindView.{terms_view}
use Rattle.fc_partial.specs.BucketView.{bare, bare_part, bucket_view, buckets_view}
use Rattle.fc_request.specs.NodeView.{inner_view}
use Rattle.fc_answers.specs.LeastListed.{adds_missing, is_of_least}
use Rattle.fc_answers.specs.Listed.{entry_or_none}
use Rattle.fc_jobs.proofs.FilledEntries.{pushed}
use Rattle.fc_jobs.proofs.listing_from.values_from.Goals as goal

pub returns-then-not-adds-clause-list : goal.returns-then-not-adds-clause-list
returns-then-not-adds-clause-list c =
    let es = c.args.tally.entries in
    let inner = inner_view c.args.node.now in
    let adds : adds_missing (terms_view c.args.terms.now) inner es ≡ false = sym c.adds_missing-adds.ensures.adds ∙ c.if-not-adds.true in
    let values = filter (is_of_least c.args.least) es in
    c.in_ok-list.ensures.list ∙ sym (ap bare (ap (λ b. values ++ (if b then entry_or_none (stats_of inner) es missing ∷ [] else [])) adds ∙ append-nil values))

pub returns-clause-list : goal.returns-clause-list
returns-clause-list c =
    let es = c.args.tally.entries in
    let inner = inner_view c.args.node.now in
    let adds : adds_missing (terms_view c.args.terms.now) inner es ≡ true = sym c.adds_missing-adds.ensures.adds ∙ c.if-not-adds.false in
    let values = filter (is_of_least c.args.least) es in
    let one = entry_or_none (stats_of inner) es missing in
    let last : bucket_view c.in_ok-missing.missing ≡ bare_part one = c.in_ok-missing.ensures.bucket ∙ ap (λ ss. bare_part (entry_or_none ss es missing)) c.requires in
    ap buckets_view c.in_ok-push.ensures.items ∙ pushed c.in_ok-list-2.list.items c.in_ok-missing.missing values one c.in_ok-list-2.ensures.list last
    ∙ sym (ap bare (ap (λ b. values ++ (if b then one ∷ [] else [])) adds))
