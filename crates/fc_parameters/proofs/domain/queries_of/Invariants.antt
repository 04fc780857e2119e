use Rattle.std.proofs.Common.{◌≡◌, map, drop}
use Rattle.fc_spec.specs.requests.DomainReading.{query_in}
use Rattle.fc_spec.specs.words.Walks.{each}
use Rattle.fc_query.specs.QueryView.{query_view}
use Rattle.fc_parameters.proofs.ReadSoFar.{behind}
use Rattle.fc_parameters.proofs.domain.queries_of.Given as goal

abbrev pub invariant-loop-text : goal.invariant-loop-text
invariant-loop-text l =
    behind (map query_view l.queries.items) (each (query_in l.schema) (map (λ text. text.now) (drop l.text-index l.texts))) ≡ each (query_in l.schema) (map (λ text. text.now) l.texts)
