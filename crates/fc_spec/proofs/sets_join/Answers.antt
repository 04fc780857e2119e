use Rattle.fc_spec.proofs.requests.JoinedSets.{bases_join, rebuilt_join, changes_join, buckets_join, documents_join}
use Rattle.fc_spec.proofs.sets_join.Goals as goal

pub returns-clause-bases : goal.returns-clause-bases
returns-clause-bases c = bases_join

pub returns-clause-rebuilt : goal.returns-clause-rebuilt
returns-clause-rebuilt c = rebuilt_join

pub returns-clause-changes : goal.returns-clause-changes
returns-clause-changes c = changes_join

pub returns-clause-buckets : goal.returns-clause-buckets
returns-clause-buckets c = buckets_join

pub returns-clause-documents : goal.returns-clause-documents
returns-clause-documents c = documents_join
