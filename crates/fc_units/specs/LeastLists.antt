-- What a shard answers from counts on where nothing is nested in the facets of the root: the root's bucket, and in it a list for each facet. V is the list of the segments.
use Rattle.std.specs.Prelude.{◌≡◌, ℕ, List, [], ◌∷◌, map}
use Rattle.fc_spec.specs.documents.Sets.{places_at}
use Rattle.fc_spec.specs.messages.Message.{Partials, no_partials, partial}
use Rattle.fc_spec.specs.messages.TopRounds.{first_number, later_numbers}
use Rattle.fc_spec.specs.requests.Buckets.{whole}
use Rattle.fc_spec.specs.requests.Paths.{at_root}
use Rattle.fc_spec.specs.requests.Request.{Facet, Nodes, no_nodes, statistic, facet, Request, stats_of}
use Rattle.fc_spec.specs.requests.Statistics.{Stats, stats_over}
use Rattle.fc_partial.specs.BucketView.{bare, linked_rows}
use Rattle.fc_answers.specs.LeastSets.{own_least_keys}
use Rattle.fc_answers.specs.Listed.{bucket_entry}
use Rattle.fc_answers.specs.SetAnswer.{Pieces, Sets, base_of, domain_sets, scope_on, whole_world}
use Rattle.fc_levels.specs.Facets.{Nested, facets_of}

-- nothing is nested in a facet among the nodes
abbrev pub NestNothing : Nodes → Type 0
NestNothing no_nodes = Unit {0}
NestNothing (statistic name s rest) = NestNothing rest
NestNothing (facet f inner rest) = (inner ≡ no_nodes) × NestNothing rest

-- the base, and the domain of a facet of the root
abbrev pub root_sets : Request → Pieces → Sets
root_sets r V = map (base_of r []) V

abbrev pub facet_sets : Request → Pieces → Facet → Sets
facet_sets r V f = domain_sets (scope_on r at_root) V f (root_sets r V)

-- the root's statistics
abbrev pub root_stats : Request → Pieces → Stats
root_stats r V = stats_over (stats_of r.nodes) (places_at (whole_world V) (root_sets r V))

-- what is listed of a facet from a count on, over its domain
abbrev pub least_list : Pieces → Nested → ℕ → Sets → Partials
least_list V n least domain =
    bare (map (bucket_entry n.0.kind (stats_of n.1) (places_at (whole_world V) domain)) (own_least_keys n.0.kind n.1 least (places_at (whole_world V) domain)))

-- of facets of the root, with one count for each
abbrev pub least_lists : Request → Pieces → List Nested → List ℕ → List Partials
least_lists r V [] ns = []
least_lists r V (n ∷ more) ns = least_list V n (first_number ns) (facet_sets r V n.0) ∷ least_lists r V more (later_numbers ns)

-- the answer
abbrev pub least_answer : Request → Pieces → List ℕ → Partials
least_answer r V ns = partial whole (root_stats r V) (linked_rows (least_lists r V (facets_of r.nodes) ns)) no_partials
