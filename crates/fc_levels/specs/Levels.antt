-- A message that is partly built: the facets whose job has ended, each with one bucket open, from the outermost inwards.
use Rattle.std.specs.Prelude.{List, [], ◌∷◌, ◌++◌, ℕ, map, reverse}
use Rattle.fc_spec.specs.documents.Sets.{places_at}
use Rattle.fc_spec.specs.messages.Answer.{partials_of}
use Rattle.fc_spec.specs.messages.Message.{Partials, no_partials, partial, Rows, row}
use Rattle.fc_spec.specs.requests.Buckets.{bucket_places}
use Rattle.fc_spec.specs.requests.Request.{facet, stats_of}
use Rattle.fc_spec.specs.requests.Statistics.{stats_over}
use Rattle.fc_partial.specs.BucketView.{Part, bucket_view, linked, linked_rows, node_view}
use Rattle.fc_partial.specs.StatsView.{stats_view}
use Rattle.fc_partial.specs.Tallied.{Entry}
use Rattle.fc_partial.specs.View.{key_view}
use Rattle.fc_partial.specs.declared.bucket.PartialBucket.{PartialBucket}
use Rattle.fc_request.specs.FacetNode.{facet_view}
use Rattle.fc_request.specs.NodeView.{inner_view, nodes_view}
use Rattle.fc_answers.specs.SetAnswer.{Pieces, Scope, Sets, inside, bucket_sets, domain_sets, own_keys, set_rows, whole_world}
use Rattle.fc_levels.specs.Facets.{Nested}
use Rattle.fc_levels.specs.Jobs.{opened, opened_inside, opened_in_rows}
use Rattle.fc_levels.specs.declared.level.Level.{Level}

-- the buckets that are listed of a facet over its domain, with what is nested in each
abbrev pub row_over : Scope → Pieces → Nested → Sets → Partials
row_over o V n domain =
    partials_of (λ k. stats_over (stats_of n.1) (bucket_places n.0.kind k (places_at (whole_world V) domain))) (λ k. set_rows (inside o n.0 k) V n.1 (bucket_sets V n.0.kind k domain)) (own_keys n.0.kind n.1 (places_at (whole_world V) domain))

-- the same in a bucket
abbrev pub row_in : Scope → Pieces → Nested → Sets → Partials
row_in o V n sets = row_over o V n (domain_sets o V n.0 sets)

-- buckets of a facet by their keys and statistics, with what is nested in each
abbrev pub filled : Scope → Pieces → Nested → Sets → List Entry → Partials
filled o V n domain [] = no_partials
filled o V n domain (e ∷ es) = partial e.0 e.1 (set_rows (inside o n.0 e.0) V n.1 (bucket_sets V n.0.kind e.0 domain)) (filled o V n domain es)

abbrev pub entry_of : PartialBucket → Entry
entry_of b = ((bucket_view b).key, (bucket_view b).stats)

-- buckets and lists that are whole, then others
abbrev pub put : List Part → Partials → Partials
put [] ps = ps
put (b ∷ bs) ps = partial b.key b.stats b.rows (put bs ps)

abbrev pub put_rows : List Partials → Rows → Rows
put_rows [] rows = rows
put_rows (ps ∷ pss) rows = row ps (put_rows pss rows)

-- the sets of the bucket that is open at a level
abbrev pub open_sets : Pieces → Level → Sets
open_sets V l = bucket_sets V (facet_view l.node.now).kind (key_view l.key) l.domain.items

-- its scope, from that of the bucket around its facet
abbrev pub open_scope : Scope → Level → Scope
open_scope o l = inside o (facet_view l.node.now) (key_view l.key)

-- a level's facet, with the first facet in it and the nodes behind
abbrev pub nested_in : Level → Nested
nested_in l = (facet_view l.node.now, facet (facet_view l.first.now) (inner_view l.first.now) (nodes_view l.others.now))

-- the buckets of a level, in the scope o, once the list under way in its open bucket is ps
abbrev pub around : Scope → Pieces → Level → Partials → Partials
around o V l ps =
    put (map bucket_view l.done.items)
    (partial (key_view l.key) (stats_view l.stats) (put_rows (map node_view l.rows.items) (row ps (set_rows (open_scope o l) V (nodes_view l.left.now) (open_sets V l))))
    (filled o V (nested_in l) l.domain.items (map entry_of (reverse l.wait.items))))

-- the buckets of the outermost level, once the list under way in the innermost is ps
abbrev pub plug : Scope → Pieces → List Level → Partials → Partials
plug o V [] ps = ps
plug o V (l ∷ ls) ps = around o V l (plug (open_scope o l) V ls ps)

-- the sets of the bucket that is open at the innermost level; D where there is no level
abbrev pub open_in : Pieces → Sets → List Level → Sets
open_in V D [] = D
open_in V D (l ∷ ls) = open_in V (open_sets V l) ls

-- its scope, from that around the outermost
abbrev pub scope_in : Scope → List Level → Scope
scope_in o [] = o
scope_in o (l ∷ ls) = scope_in (open_scope o l) ls

-- the sets of the outermost level's domain; D where there is no level
abbrev pub outermost_domain : Sets → List Level → Sets
outermost_domain D [] = D
outermost_domain D (l ∷ ls) = l.domain.items

-- for each job that has ended inside a level's buckets, how many jobs are known from its end on
abbrev pub ended_inside : Level → List ℕ
ended_inside l = opened_inside (linked (map bucket_view l.done.items)) ++ opened_in_rows (linked_rows (map node_view l.rows.items))

-- the same of all levels, their own jobs among them
abbrev pub ended_in : Scope → Pieces → List Level → Partials → List ℕ
ended_in o V [] ps = []
ended_in o V (l ∷ ls) ps = (opened (around o V l (plug (open_scope o l) V ls ps)) ∷ ended_inside l) ++ ended_in (open_scope o l) V ls ps
