use Rattle.std.proofs.Common.{◌≡◌, ◌∙◌, ◌++◌, [], true, cond, ap, map, rules, sym}
use Rattle.std.specs.List.{flat_map}
use Rattle.fc_spec.specs.replies.Chosen.{offering}
use Rattle.fc_spec.specs.messages.Lacks.{want_of}
use Rattle.fc_spec.specs.requests.Buckets.{value}
use Rattle.fc_spec.specs.requests.Shape.{asks_again}
use Rattle.fc_base.specs.View.{val_view}
use Rattle.fc_facet.specs.KindView.{terms_view}
use Rattle.fc_refine.specs.AskView.{way_view}
use Rattle.fc_request.specs.FacetNode.{facet_view}
use Rattle.fc_request.specs.NodeView.{inner_view}
use Rattle.fc_reading.specs.declared.candidate.Candidate.{Candidate}
use Rattle.fc_lacks.specs.Lacking.{lacked_by, lacking_values}
use Rattle.fc_lacks.specs.LackView.{lack_view}
use Rattle.fc_lacks.proofs.LackedValues.{values_lack}
use Rattle.fc_lacks.proofs.walk.push_chosen.Goals as goal

pub returns : goal.returns
returns g c =
    let R = g.R.BucketReading.reading c.args.reading.now in
    let has = g.R.BucketReading.has in
    let held = g.R.BucketReading.held in
    let node = c.args.node.now in
    let n = c.args.number in
    let t = terms_view c.args.terms.now in
    let inner = inner_view node in
    let K = c.args.shards.now in
    let Y = g.R.BucketReading.over c.in_ok-domain.domain in
    let Z = R.domain_on n (facet_view node) K (held c.args.around.now) in
    let way = way_view c.args.way.now in
    let old = map lack_view c.args.lacks.now.items in
    let again : asks_again t inner ≡ true = search rules in
    let F = λ (one : Candidate g.row.R-Bucket.Denot). lacked_by has K (held one.bucket) (want_of way n (value (val_view one.val))) in
    c.in_ok-push_values.ensures
    ∙ ap (λ cs. old ++ flat_map F cs) c.deref-2.ensures.value
    ∙ ap (λ ls. old ++ ls) (values_lack R has t inner K Y held n way (offering R t inner K Y) c.in_ok-chosen.chosen.items c.in_ok-chosen.ensures.on c.in_ok-chosen.ensures.vals)
    ∙ ap (λ y. old ++ lacking_values R has t inner n K y way) c.in_ok-domain.ensures.over
    ∙ ap (λ b. old ++ cond b (lacking_values R has t inner n K Z way) []) (sym again)
