use Rattle.std.proofs.Common.{Ok, ap, sym, ◌∙◌}
use Rattle.serde_json.specs.View.{view}
use Rattle.fc_spec.specs.requests.SortReading.{is_white, split_sort}
use Rattle.fc_spec.specs.requests.StatisticReading.{stripped}
use Rattle.fc_request.proofs.NamedSorts.{named_sort-string}
use Rattle.fc_request.proofs.reading.sort.named_sort.Goals as goal

pub returns-in-Some : goal.returns-in-Some
returns-in-Some c =
    named_sort-string (view c.args.json.now) c.in-Some.text.now c.in-Some.ensures
    ∙ ap (λ t. Ok (split_sort (stripped is_white t))) (sym c.as_bytes.ensures.value)
    ∙ ap (λ t. Ok (split_sort t)) (sym c.stripped.ensures) ∙ ap Ok (sym c.split_sort.ensures)
