-- Whether numbers of values or of buckets are asked for.
use Rattle.std.specs.Prelude.{Bool, true, false, ◌||◌}
use Rattle.fc_spec.specs.requests.Request.{Show, its_buckets, Nodes, no_nodes, statistic, facet}
use Rattle.fc_spec.specs.requests.Spread.{show_of}

abbrev pub shows_number : Show → Bool
shows_number its_buckets = false
shows_number _ = true

-- by a facet among the nodes, at any depth
abbrev pub asks_numbers : Nodes → Bool
asks_numbers no_nodes = false
asks_numbers (statistic name s rest) = asks_numbers rest
asks_numbers (facet f inner rest) = shows_number (show_of f.kind) || (asks_numbers inner || asks_numbers rest)
