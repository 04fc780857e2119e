use Rattle.fc_spec.proofs.requests.ValidNodes.{valid_sort_exact_by_count, valid_are_named_apart}
use Rattle.fc_spec.proofs.requests.OnlyExact.{only_exact_are_searchable}
use Rattle.fc_spec.proofs.valid_requests_sort_exact_by_count.Goals as goal

pub returns-clause-sorted : goal.returns-clause-sorted
returns-clause-sorted c = valid_sort_exact_by_count

pub returns-clause-apart : goal.returns-clause-apart
returns-clause-apart c = valid_are_named_apart

pub returns-clause-alone : goal.returns-clause-alone
returns-clause-alone c = only_exact_are_searchable
