use Rattle.fc_spec.proofs.requests.SetChanges.{bases_are_blockwise, rebuilt_are_blockwise, changes_are_blockwise, buckets_are_blockwise, keep_lengths, are_sets_again}
use Rattle.fc_spec.proofs.places_are_blockwise.Goals as goal

pub returns-clause-bases : goal.returns-clause-bases
returns-clause-bases c = bases_are_blockwise

pub returns-clause-rebuilt : goal.returns-clause-rebuilt
returns-clause-rebuilt c = rebuilt_are_blockwise

pub returns-clause-changes : goal.returns-clause-changes
returns-clause-changes c = changes_are_blockwise

pub returns-clause-buckets : goal.returns-clause-buckets
returns-clause-buckets c = buckets_are_blockwise

pub returns-clause-lengths : goal.returns-clause-lengths
returns-clause-lengths c = keep_lengths

pub returns-clause-sets : goal.returns-clause-sets
returns-clause-sets c = are_sets_again
