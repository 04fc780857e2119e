-- What a shard answers that is asked for the values from a count on, from a set of positions for each of its segments. V is the list of the segments.
use Rattle.std.specs.Prelude.{◌≡◌, ℕ, List, [], ◌++◌, map, nat_le, Some, slice_get}
use Rattle.std.specs.List.{filter}
use Rattle.fc_spec.specs.words.Lists.{joined}
use Rattle.fc_spec.specs.documents.World.{World, Place}
use Rattle.fc_spec.specs.documents.Sets.{places_at}
use Rattle.fc_spec.specs.requests.Request.{Kind, terms, Nodes, no_nodes, statistic, facet, Request, stats_of}
use Rattle.fc_spec.specs.requests.Buckets.{Key, value, missing, whole, bucket_places}
use Rattle.fc_spec.specs.requests.Statistics.{stats_over}
use Rattle.fc_spec.specs.replies.Printed.{asked}
use Rattle.fc_spec.specs.replies.Values.{entries_in}
use Rattle.fc_spec.specs.messages.Message.{Partials, no_partials, partial, Rows, no_rows, row, first, more}
use Rattle.fc_spec.specs.messages.Answer.{listed_keys, partials_of}
use Rattle.fc_spec.specs.messages.TopRounds.{ExactAsk, exact_first, exact_least, exact_more, first_number, later_numbers, exact_answer}
use Rattle.fc_answers.specs.SetAnswer.{Pieces, AreWhole, Scope, Sets, Spot, bucket_sets, domain_sets, inside, live_world, own_keys, root, scope_of, set_answer, set_rows, whole_world}

-- the keys that a shard lists of a node from a count on, over its places Y of the domain: the values of at least that count, and missing where asked
abbrev pub own_least_keys : Kind → Nodes → ℕ → List Place → List Key
own_least_keys (terms t) inner least Y = map value (map (λ e. e.val) (filter (λ e. nat_le least e.stats.count) (entries_in t [] Y))) ++ listed_keys (terms t) inner Y (asked t.missing missing)
own_least_keys kind inner least Y = own_keys kind inner Y

-- what is listed for the facets of a bucket, from its sets, with one count for each of them
abbrev pub set_least_rows : Scope → Pieces → Nodes → List ℕ → Sets → Rows
set_least_rows o V no_nodes ns sets = no_rows
set_least_rows o V (statistic name s rest) ns sets = set_least_rows o V rest ns sets
set_least_rows o V (facet f inner rest) ns sets =
    row
    (partials_of (λ k. stats_over (stats_of inner) (bucket_places f.kind k (places_at (whole_world V) (domain_sets o V f sets)))) (λ k. set_rows (inside o f k) V inner (bucket_sets V f.kind k (domain_sets o V f sets)))
    (own_least_keys f.kind inner (first_number ns) (places_at (whole_world V) (domain_sets o V f sets))))
    (set_least_rows o V rest (later_numbers ns) sets)

-- the bucket at a spot, with such lists
abbrev pub set_least_bucket : Request → Pieces → Spot → List ℕ → Partials
set_least_bucket r V s ns = partial whole (stats_over (stats_of s.nodes) (places_at (whole_world V) s.sets)) (set_least_rows (scope_of r s) V s.nodes ns s.sets) no_partials

-- the message for an ask
abbrev pub set_exact : Request → Pieces → ExactAsk → Partials
set_exact r V exact_first = set_answer r V first
set_exact r V (exact_least ns) = set_least_bucket r V (root r V) ns
set_exact r V (exact_more wants) = set_answer r V (more wants)

-- however a shard's blocks are cut into segments, and whatever else stands in these, it is the shard's answer
abbrev pub ExactFromSets : Type 0
ExactFromSets = (r : Request) (W : World) (i : ℕ) (V : Pieces) → AreWhole V → slice_get W i ≡ Some (joined (live_world V)) → (ask : ExactAsk) → exact_answer r W i ask ≡ set_exact r V ask
