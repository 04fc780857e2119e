use Rattle.std.proofs.Common.{ap}
use Rattle.fc_spec.specs.replies.Folded.{folded}
use Rattle.fc_spec.proofs.replies.SingleIndex.{single_with_tops}
use Rattle.fc_spec.proofs.replies.FoldedReply.{folds_into_numbers}
use Rattle.fc_spec.proofs.replies.NumberedPaths.{paths_are_exact, tops_are_exact}
use Rattle.fc_spec.proofs.folds_into_numbers.Goals as goal

pub returns-clause-numbers : goal.returns-clause-numbers
returns-clause-numbers c = folds_into_numbers

pub returns-clause-paths : goal.returns-clause-paths
returns-clause-paths c = paths_are_exact

pub returns-clause-tops : goal.returns-clause-tops
returns-clause-tops c = tops_are_exact

pub returns-clause-single_index : goal.returns-clause-single_index
returns-clause-single_index c r W unlimited = ap (folded r) (single_with_tops r W unlimited)
