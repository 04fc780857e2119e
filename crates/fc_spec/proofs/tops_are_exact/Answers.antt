use Rattle.fc_spec.proofs.replies.ByOffers.{made_by_offers}
use Rattle.fc_spec.proofs.replies.ExactPaths.{top_paths}
use Rattle.fc_spec.proofs.replies.ExactTops.{tops_are_exact}
use Rattle.fc_spec.proofs.replies.SingleIndex.{exact_with_tops, single_with_tops}
use Rattle.fc_spec.proofs.tops_are_exact.Goals as goal

pub returns-clause-tops : goal.returns-clause-tops
returns-clause-tops c = tops_are_exact

pub returns-clause-paths : goal.returns-clause-paths
returns-clause-paths c = top_paths

pub returns-clause-offers : goal.returns-clause-offers
returns-clause-offers c = made_by_offers

pub returns-clause-same_world : goal.returns-clause-same_world
returns-clause-same_world c = exact_with_tops

pub returns-clause-single_index : goal.returns-clause-single_index
returns-clause-single_index c = single_with_tops
