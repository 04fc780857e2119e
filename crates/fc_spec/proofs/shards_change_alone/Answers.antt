use Rattle.fc_spec.proofs.messages.ShardSets.{bases_of_shards, rebuilt_of_shards, changes_of_shards, buckets_of_shards, documents_of_shards}
use Rattle.fc_spec.proofs.shards_change_alone.Goals as goal

pub returns-clause-bases : goal.returns-clause-bases
returns-clause-bases c = bases_of_shards

pub returns-clause-rebuilt : goal.returns-clause-rebuilt
returns-clause-rebuilt c = rebuilt_of_shards

pub returns-clause-changes : goal.returns-clause-changes
returns-clause-changes c = changes_of_shards

pub returns-clause-buckets : goal.returns-clause-buckets
returns-clause-buckets c = buckets_of_shards

pub returns-clause-documents : goal.returns-clause-documents
returns-clause-documents c = documents_of_shards
