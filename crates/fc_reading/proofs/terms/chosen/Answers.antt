use Rattle.std.proofs.Common.{◌≡◌, ◌∙◌, false, sym, subst}
use Rattle.std.specs.List.Sorted.{IsStrictlySortedBy}
use Rattle.fc_spec.specs.documents.Val.{val_cmp}
use Rattle.fc_spec.specs.replies.Chosen.{offering}
use Rattle.fc_spec.specs.requests.Shape.{asks_again}
use Rattle.fc_facet.specs.KindView.{terms_view}
use Rattle.fc_request.specs.NodeView.{inner_view}
use Rattle.fc_reading.proofs.Candidates.{all_known, candidates_ascend, entry_vals, known_all, known_entries, refined_entries}
use Rattle.fc_reading.proofs.terms.chosen.Goals as goal

pub returns-in_ok-refined-clause-on : goal.returns-in_ok-refined-clause-on
returns-in_ok-refined-clause-on g c =
    let R = g.R.BucketReading.reading c.args.reading.now in
    let t = terms_view c.args.terms.now in
    let inner = inner_view c.args.node.now in
    let K = c.args.shards.now in
    let Y = g.R.BucketReading.over c.args.domain.now in
    let again = sym c.asks_again.ensures ∙ c.if-asks_again.true in
    known_all R t inner K Y g.R.BucketReading.held again c.in_ok-refined.refined.items
    (c.in_ok-refined.ensures.on t inner Y (offering R t inner K Y) (sym c.requires.stats) c.in_ok-front.ensures.on)

pub returns-in_ok-refined-clause-entries : goal.returns-in_ok-refined-clause-entries
returns-in_ok-refined-clause-entries g c =
    let R = g.R.BucketReading.reading c.args.reading.now in
    let t = terms_view c.args.terms.now in
    let inner = inner_view c.args.node.now in
    let K = c.args.shards.now in
    let Y = g.R.BucketReading.over c.args.domain.now in
    let again = sym c.asks_again.ensures ∙ c.if-asks_again.true in
    refined_entries R t inner K Y g.R.BucketReading.held again c.in_ok-refined.refined.items
    (c.in_ok-refined.ensures.on t inner Y (offering R t inner K Y) (sym c.requires.stats) c.in_ok-front.ensures.on)
    (c.in_ok-refined.ensures.vals ∙ c.in_ok-front.ensures.vals)

pub returns-in_ok-refined-clause-ascend : goal.returns-in_ok-refined-clause-ascend
returns-in_ok-refined-clause-ascend g c =
    let front = c.in_ok-front.front.items in
    let refined = c.in_ok-refined.refined.items in
    subst (IsStrictlySortedBy val_cmp) (entry_vals front ∙ sym c.in_ok-refined.ensures.vals ∙ sym (entry_vals refined)) c.in_ok-front.ensures.ascend

pub returns-in_ok-all-clause-on : goal.returns-in_ok-all-clause-on
returns-in_ok-all-clause-on g c =
    let R = g.R.BucketReading.reading c.args.reading.now in
    let t = terms_view c.args.terms.now in
    let Y = g.R.BucketReading.over c.args.domain.now in
    let none : asks_again t (inner_view c.args.node.now) ≡ false = sym c.asks_again.ensures ∙ c.if-asks_again.false in
    all_known R t (inner_view c.args.node.now) c.args.shards.now Y g.R.BucketReading.held none c.in_ok-all.all.items c.in_ok-all.ensures.on

pub returns-in_ok-all-clause-entries : goal.returns-in_ok-all-clause-entries
returns-in_ok-all-clause-entries g c =
    let R = g.R.BucketReading.reading c.args.reading.now in
    let t = terms_view c.args.terms.now in
    let Y = g.R.BucketReading.over c.args.domain.now in
    let none : asks_again t (inner_view c.args.node.now) ≡ false = sym c.asks_again.ensures ∙ c.if-asks_again.false in
    known_entries R t (inner_view c.args.node.now) c.args.shards.now Y g.R.BucketReading.held none c.in_ok-all.all.items c.in_ok-all.ensures.on c.in_ok-all.ensures.vals

pub returns-in_ok-all-clause-ascend : goal.returns-in_ok-all-clause-ascend
returns-in_ok-all-clause-ascend g c =
    candidates_ascend (g.R.BucketReading.reading c.args.reading.now) (terms_view c.args.terms.now) (inner_view c.args.node.now) c.args.shards.now
    (g.R.BucketReading.over c.args.domain.now) g.R.BucketReading.held c.in_ok-all.all.items c.in_ok-all.ensures.vals
