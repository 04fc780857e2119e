-- What a name to sort by stands for in the definitions.
use Rattle.fc_spec.specs.requests.SortReading as definition
use Rattle.fc_request.specs.declared.reading.sort.NamedSort.{NamedSort}

abbrev pub named_view : NamedSort → definition.NamedSort
named_view n = record { name = n.name.now; descending = n.descending }
