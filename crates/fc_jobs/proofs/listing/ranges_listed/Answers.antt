use Rattle.std.proofs.Common.{◌≡◌, map, true, ap, sym, ◌∙◌}
use Rattle.std.specs.Prelude.{if◌then◌else◌}
use Rattle.fc_spec.specs.requests.Request.{stats_of}
use Rattle.fc_spec.specs.requests.Shape.{holds_exclusion}
use Rattle.fc_partial.specs.BucketView.{bare, linked}
use Rattle.fc_partial.specs.View.{key_view}
use Rattle.fc_partial.proofs.BareBuckets.{linked_bare}
use Rattle.fc_partial.proofs.TallyEntries.{is_tally}
use Rattle.fc_request.specs.FacetNode.{kind_of, kind_view}
use Rattle.fc_request.specs.NodeView.{inner_view}
use Rattle.fc_request.specs.Ranged.{keys_of_range}
use Rattle.fc_answers.specs.Listed.{entry_or_none}
use Rattle.fc_jobs.proofs.ListedRanges.{range_listed}
use Rattle.fc_jobs.proofs.listing.ranges_listed.Goals as goal

pub returns-clause-list : goal.returns-clause-list
returns-clause-list c =
    let es = c.args.tally.entries in
    let inner = inner_view c.args.node.now in
    let kind = kind_view (kind_of c.args.node.now) in
    let all = map (entry_or_none (stats_of inner) es) (keys_of_range kind) in
    let holds : holds_exclusion inner ≡ true = sym c.holds_exclusion.ensures ∙ c.if-not-holds_exclusion.false in
    ap linked c.in_ok-list-2.ensures ∙ linked_bare (map (entry_or_none c.args.tally.stats es) (map key_view c.in_ok-keys.keys.items))
    ∙ (λ i. bare (map (entry_or_none (c.requires.stats i) es) (c.in_ok-keys.ensures i)))
    ∙ sym (ap bare (range_listed kind c.requires.range inner es) ∙ ap (λ b. bare (if b then all else es)) holds)

pub returns-in_err-keys-clause-tally : goal.returns-in_err-keys-clause-tally
returns-in_err-keys-clause-tally c = rw (← c.tally.view_is) (is_tally c.tally.inside c.tally.invariant)
