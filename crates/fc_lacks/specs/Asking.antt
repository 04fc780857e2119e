-- At which depths facets ask again.
use Rattle.std.specs.Prelude.{ℕ, zero, suc, Bool, false, ◌||◌}
use Rattle.fc_spec.specs.requests.Request.{Kind, terms, Nodes, no_nodes, statistic, facet}
use Rattle.fc_spec.specs.requests.Shape.{asks_again}

-- a facet, of terms facets with e terms facets between: at depth 0 a terms facet itself; else those under it
abbrev pub asks_under : Kind → Nodes → ℕ → (under : ℕ → Bool) → Bool
asks_under (terms t) inner zero under = asks_again t inner
asks_under (terms t) inner (suc e) under = under e
asks_under _ inner e under = under e

-- whether one of the terms facets with e terms facets around them asks again
abbrev pub asks_at : ℕ → Nodes → Bool
asks_at e no_nodes = false
asks_at e (statistic name s rest) = asks_at e rest
asks_at e (facet f inner rest) = asks_under f.kind inner e (λ d. asks_at d inner) || asks_at e rest
