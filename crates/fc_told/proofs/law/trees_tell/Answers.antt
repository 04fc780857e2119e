use Rattle.fc_told.proofs.SumsExact.{fits_exactly}
use Rattle.fc_told.proofs.TellerSums.{sums_of_tellers}
use Rattle.fc_told.proofs.TellingMore.{nothing_tells, tells_more}
use Rattle.fc_told.proofs.law.trees_tell.Goals as goal

pub returns-clause-nothing : goal.returns-clause-nothing
returns-clause-nothing c = nothing_tells

pub returns-clause-more : goal.returns-clause-more
returns-clause-more c = tells_more

pub returns-clause-fits : goal.returns-clause-fits
returns-clause-fits c = fits_exactly

pub returns-clause-tellers : goal.returns-clause-tellers
returns-clause-tellers c = sums_of_tellers
