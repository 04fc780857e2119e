use Rattle.fc_spec.proofs.requests.SortedEntries.{page_is_cut, below_rank_is_front}
use Rattle.fc_spec.proofs.requests.RestEntries.{rest_keeps_front, rest_keeps_page}
use Rattle.fc_spec.proofs.ranks_are_sorting.Goals as goal

pub returns-clause-pages : goal.returns-clause-pages
returns-clause-pages c = page_is_cut

pub returns-clause-fronts : goal.returns-clause-fronts
returns-clause-fronts c = below_rank_is_front

pub returns-clause-rests : goal.returns-clause-rests
returns-clause-rests c = rest_keeps_front

pub returns-clause-pages_of_rests : goal.returns-clause-pages_of_rests
returns-clause-pages_of_rests c = rest_keeps_page
