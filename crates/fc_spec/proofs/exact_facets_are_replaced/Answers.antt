use Rattle.fc_spec.proofs.replies.Replaced.{has_top_buckets, restores_reply, replaced_have_no_exact}
use Rattle.fc_spec.proofs.replies.ReplacedValid.{replaced_are_searchable}
use Rattle.fc_spec.proofs.exact_facets_are_replaced.Goals as goal

pub returns-clause-buckets : goal.returns-clause-buckets
returns-clause-buckets c = has_top_buckets

pub returns-clause-no_exact : goal.returns-clause-no_exact
returns-clause-no_exact c = replaced_have_no_exact

pub returns-clause-restored : goal.returns-clause-restored
returns-clause-restored c = restores_reply

pub returns-clause-searchable : goal.returns-clause-searchable
returns-clause-searchable c = replaced_are_searchable
