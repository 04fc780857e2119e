use Rattle.std.proofs.Common.{◌≡◌, ap, ◌∙◌, rules}
use Rattle.fc_spec.specs.documents.Sets.{places_on}
use Rattle.fc_spec.specs.requests.DomainSets.{changed_set}
use Rattle.fc_facet.specs.KindView.{domain_view}
use Rattle.fc_domain.proofs.GroupSets.{on_ok}
use Rattle.fc_domain.proofs.StepSets.{changed_places}
use Rattle.fc_domain.proofs.changes.step.Goals as goal

pub returns-clause-set : goal.returns-clause-set
returns-clause-set c = search rules

pub returns-clause-places : goal.returns-clause-places
returns-clause-places c =
    let blocks = c.args.segment.now.blocks in
    let change = domain_view c.args.domain.now in
    let base = c.args.base_docs.now in
    let docs = c.args.docs.now in
    let new = c.keep_matching.new.into in
    on_ok c.keep_matching.result (new ≡ changed_set change blocks base docs) _
    (λ is. ap (places_on 0 blocks) is ∙ changed_places change blocks base docs c.requires.base_docs c.requires.docs)
    (returns-clause-set c)
