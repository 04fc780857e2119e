-- Where a request has limits, refinement, exact facets, block steps and exclusions, and which of its facets ask again.
use Rattle.std.specs.Prelude.{Bool, true, false, not, ◌&&◌, ◌||◌, is_some, if◌then◌else◌}
use Rattle.fc_spec.specs.words.Lists.{is_empty}
use Rattle.fc_spec.specs.requests.Request.{BlockStep, stay, DomainChange, Terms, Kind, terms, Nodes, no_nodes, statistic, facet}

-- the terms facet has a limit
abbrev pub has_limit : Terms → Bool
has_limit t = is_some t.limit

-- it is no terms facet with a limit
abbrev pub has_no_limit : Kind → Bool
has_no_limit (terms t) = not (has_limit t)
has_no_limit _ = true

-- it is a terms facet that refines or has no limit, or a facet of another kind
abbrev pub is_refining : Kind → Bool
is_refining (terms t) = t.refine || has_no_limit (terms t)
is_refining _ = true

-- it is a terms facet that is refined exactly, which plays a part with a limit alone
abbrev pub is_exact : Kind → Bool
is_exact (terms t) = t.exact && has_limit t
is_exact _ = false

-- of these nodes, those nested in others aside, none is exact
abbrev pub no_exact : Nodes → Bool
no_exact no_nodes = true
no_exact (statistic name s rest) = no_exact rest
no_exact (facet f inner rest) = not (is_exact f.kind) && no_exact rest

-- it is a terms facet that says so, with a limit or not
abbrev pub says_exact : Kind → Bool
says_exact (terms t) = t.exact
says_exact _ = false

-- no facet among the nodes, at any depth, says so
abbrev pub none_says_exact : Nodes → Bool
none_says_exact no_nodes = true
none_says_exact (statistic name s rest) = none_says_exact rest
none_says_exact (facet f inner rest) = not (says_exact f.kind) && none_says_exact inner && none_says_exact rest

-- of these nodes, no facet nested in another says so
abbrev pub outermost_exact : Nodes → Bool
outermost_exact no_nodes = true
outermost_exact (statistic name s rest) = outermost_exact rest
outermost_exact (facet f inner rest) = none_says_exact inner && outermost_exact rest

-- no terms facet among the nodes, at any depth, has a limit
abbrev pub no_limits : Nodes → Bool
no_limits no_nodes = true
no_limits (statistic name s rest) = no_limits rest
no_limits (facet f inner rest) = has_no_limit f.kind && no_limits inner && no_limits rest

-- the change has no block step
abbrev pub is_stay : BlockStep → Bool
is_stay stay = true
is_stay _ = false

abbrev pub stays : DomainChange → Bool
stays change = is_stay change.block

-- no facet among the nodes, at any depth, excludes a tag
abbrev pub no_exclusions : Nodes → Bool
no_exclusions no_nodes = true
no_exclusions (statistic name s rest) = no_exclusions rest
no_exclusions (facet f inner rest) = is_empty f.change.exclude && no_exclusions inner && no_exclusions rest

-- a facet with these nodes nested in it holds an exclusion
abbrev pub holds_exclusion : Nodes → Bool
holds_exclusion inner = not (no_exclusions inner)

-- a terms facet with these nodes nested in it has refine and a limit, or has no limit and holds an exclusion
abbrev pub asks_again : Terms → Nodes → Bool
asks_again t inner = if has_limit t then t.refine else holds_exclusion inner

-- its chosen values are counted on all shards: it refines or asks again
abbrev pub counts_all : Terms → Nodes → Bool
counts_all t inner = t.refine || asks_again t inner
