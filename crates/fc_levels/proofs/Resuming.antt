-- A level whose open bucket gets one more list.
use Rattle.std.proofs.Common.{◌≡◌, ℕ, List, [], ◌∷◌, ◌++◌, map, reverse, refl, sym, ap, ◌∙◌, subst, append_assoc, append-nil, Bor, Some}
use Rattle.std.specs.Prelude.{IsTrue}
use Rattle.std.specs.declared.vec.Vec.{Vec}
use Rattle.std.specs.declared.alloc.Global.{Global}
use Rattle.std.proofs.lemmas.List.{reverse-append}
use Rattle.std.proofs.lemmas.List.Elements.{All-pop}
use Rattle.fc_spec.specs.documents.Schema.{Schema}
use Rattle.fc_spec.specs.messages.Message.{Partials, partial, row}
use Rattle.fc_spec.specs.requests.Buckets.{is_key_of}
use Rattle.fc_partial.specs.BucketView.{Part, bucket_step, bucket_view, linked, linked_rows, node_step, node_view}
use Rattle.fc_partial.specs.StatsView.{stats_view}
use Rattle.fc_partial.specs.Tallied.{Entry}
use Rattle.fc_partial.specs.View.{key_view}
use Rattle.fc_partial.specs.declared.key.Key.{Key}
use Rattle.fc_partial.specs.declared.statistics.Stats.{Stats}
use Rattle.fc_partial.specs.declared.bucket.PartialBucket.{PartialBucket, out-PartialBucket}
use Rattle.fc_partial.specs.declared.bucket.PartialBucket.TheFolds.{fold_out-PartialBucket, fold-roll-PartialBucket, fold-roll-PartialNode}
use Rattle.fc_partial.specs.declared.bucket.PartialBucket.TheViews.{roll-PartialBucket, roll-PartialNode}
use Rattle.fc_partial.specs.declared.bucket.PartialNode.{PartialNode}
use Rattle.fc_request.specs.FacetNode.{has_buckets, kind_of, kind_view}
use Rattle.fc_request.specs.NodeView.{nodes_view}
use Rattle.fc_request.specs.declared.node.Node.{Node}
use Rattle.fc_answers.specs.SetAnswer.{Pieces, Scope, Sets, bucket_sets, inside, set_rows}
use Rattle.fc_levels.specs.declared.level.Level.{Level}
use Rattle.fc_levels.specs.declared.level.Step.TheVariants.{Opened, Closed}
use Rattle.fc_levels.specs.Facets.{Nested, nested_view, facets_of}
use Rattle.fc_levels.specs.Jobs.{opened_inside, opened_in_rows, openings_of}
use Rattle.fc_levels.specs.Levels.{ended_inside, entry_of, filled, nested_in, open_scope, open_sets, put, put_rows, row_in}
use Rattle.fc_levels.specs.Steps.{IsLevel, Resumes, StaysValid}
use Rattle.fc_levels.proofs.FacetLists.{first_valid, rest_valid, rows_first, rows_none}
use Rattle.fc_levels.proofs.Putting.{inside_bucket, inside_row, last_row, put_bucket, put_none, put_row}

pub list_is : (buckets : Vec PartialBucket Global) → node_view (roll-PartialNode (record { buckets = buckets })) ≡ linked (map bucket_view buckets.items)
list_is buckets = fold-roll-PartialNode Part Partials bucket_step node_step (record { buckets = buckets })

pub bucket_is : (key : Key) (stats : Stats) (nodes : Vec PartialNode Global) → bucket_view (roll-PartialBucket (record { key = key; stats = stats; nodes = nodes })) ≡ record { key = key_view key; stats = stats_view stats; rows = linked_rows (map node_view nodes.items) }
bucket_is key stats nodes = fold-roll-PartialBucket Part Partials bucket_step node_step (record { key = key; stats = stats; nodes = nodes })

pub entry_is : (b : PartialBucket) → entry_of b ≡ (key_view (out-PartialBucket b).key, stats_view (out-PartialBucket b).stats)
entry_is b = let entry : Part → Entry = λ p. (p.key, p.stats) in ap entry (fold_out-PartialBucket Part Partials bucket_step node_step b)

-- a bucket that waits, before those that wait behind it
pub next_bucket : (o : Scope) (V : Pieces) (n : Nested) (domain : Sets) (open' : PartialBucket) (wait wait' : List PartialBucket) → wait ≡ wait' ++ open' ∷ []
    → partial (key_view (out-PartialBucket open').key) (stats_view (out-PartialBucket open').stats) (set_rows (inside o n.0 (key_view (out-PartialBucket open').key)) V n.1 (bucket_sets V n.0.kind (key_view (out-PartialBucket open').key) domain)) (filled o V n domain (map entry_of (reverse wait')))
    ≡ filled o V n domain (map entry_of (reverse wait))
next_bucket o V n domain open' wait wait' e =
    ap (λ e. filled o V n domain (e ∷ map entry_of (reverse wait'))) (sym (entry_is open')) ∙ ap (λ bs. filled o V n domain (map entry_of bs)) (sym (ap reverse e ∙ reverse-append wait' (open' ∷ [])))

module _ (l : Level) (h : PartialNode) (rows : Vec PartialNode Global) (grown : rows.items ≡ l.rows.items ++ h ∷ []) where
  abbrev done_inside : List ℕ
  done_inside = opened_inside (linked (map bucket_view l.done.items))

  -- another facet of the bucket that is open
  pub resumes_next : (left : Bor (List Node)) (n : Bor Node) → facets_of (nodes_view l.left.now) ≡ nested_view n.now ∷ facets_of (nodes_view left.now) → Resumes l h (Opened (record l { rows = rows; left = left }) n)
  resumes_next left n e = (
    λ o V. ap (λ x. put (map bucket_view l.done.items) (partial (key_view l.key) (stats_view l.stats) x (filled o V (nested_in l) l.domain.items (map entry_of (reverse l.wait.items)))))
        (put_row l.rows.items rows.items h (row (row_in (open_scope o l) V (nested_view n.now) (open_sets V l)) (set_rows (open_scope o l) V (nodes_view left.now) (open_sets V l))) grown
        ∙ ap (λ x. put_rows (map node_view l.rows.items) (row (node_view h) x)) (sym (rows_first (open_scope o l) V (nodes_view l.left.now) (nodes_view left.now) (nested_view n.now) (open_sets V l) e))),
    ap (λ xs. done_inside ++ xs) (inside_row l.rows.items rows.items h grown) ∙ sym (append_assoc done_inside (opened_in_rows (linked_rows (map node_view l.rows.items))) (openings_of (node_view h))),
    refl,
  )

  pub valid_next : (left : Bor (List Node)) (n : Bor Node) → facets_of (nodes_view l.left.now) ≡ nested_view n.now ∷ facets_of (nodes_view left.now) → IsTrue (has_buckets (kind_of n.now))
      → (s : Schema) (V : Pieces) → IsLevel s V l → StaysValid s V (Opened (record l { rows = rows; left = left }) n)
  valid_next left n e b s V i =
      (record { node = i.node; sets = i.sets; key = i.key; wait = i.wait; first = i.first; others = i.others; left = rest_valid s (nodes_view l.left.now) (nodes_view left.now) n.now e i.left }, first_valid s (nodes_view l.left.now) (nodes_view left.now) n.now e b i.left)

  -- that was the last: the bucket is whole
  module _ (none : facets_of (nodes_view l.left.now) ≡ []) (done : Vec PartialBucket Global) (more : done.items ≡ l.done.items ++ roll-PartialBucket (record { key = l.key; stats = l.stats; nodes = rows }) ∷ []) where
    closed_bucket : (o : Scope) (V : Pieces) (ps : Partials)
        → put (map bucket_view done.items) ps ≡ put (map bucket_view l.done.items) (partial (key_view l.key) (stats_view l.stats) (put_rows (map node_view l.rows.items) (row (node_view h) (set_rows (open_scope o l) V (nodes_view l.left.now) (open_sets V l)))) ps)
    closed_bucket o V ps =
        put_bucket l.done.items done.items (roll-PartialBucket (record { key = l.key; stats = l.stats; nodes = rows })) ps more
        ∙ ap (λ (p : Part). put (map bucket_view l.done.items) (partial p.key p.stats p.rows ps)) (bucket_is l.key l.stats rows)
        ∙ ap (λ x. put (map bucket_view l.done.items) (partial (key_view l.key) (stats_view l.stats) x ps))
        (last_row l.rows.items rows.items h grown ∙ ap (λ x. put_rows (map node_view l.rows.items) (row (node_view h) x)) (sym (rows_none (open_scope o l) V (nodes_view l.left.now) (open_sets V l) none)))

    closed_inside : opened_inside (linked (map bucket_view done.items)) ≡ ended_inside l ++ openings_of (node_view h)
    closed_inside =
        inside_bucket l.done.items done.items (roll-PartialBucket (record { key = l.key; stats = l.stats; nodes = rows })) more
        ∙ ap (λ (p : Part). done_inside ++ opened_in_rows p.rows) (bucket_is l.key l.stats rows)
        ∙ ap (λ xs. done_inside ++ xs) (inside_row l.rows.items rows.items h grown) ∙ sym (append_assoc done_inside (opened_in_rows (linked_rows (map node_view l.rows.items))) (openings_of (node_view h)))

    -- the next bucket is opened
    module _ (open' : PartialBucket) (wait : Vec PartialBucket Global) (split : l.wait.items ≡ wait.items ++ open' ∷ []) (nothing : Vec PartialNode Global) (empty : nothing.items ≡ []) where
      abbrev next_level : Level
      next_level = record l { done = done; key = (out-PartialBucket open').key; stats = (out-PartialBucket open').stats; rows = nothing; left = l.others; wait = wait }

      pub resumes_bucket : Resumes l h (Opened next_level l.first)
      resumes_bucket = (
        λ o V. ap (λ ns. put (map bucket_view done.items) (partial (key_view (out-PartialBucket open').key) (stats_view (out-PartialBucket open').stats)
            (put_rows (map node_view ns) (set_rows (inside o (nested_in l).0 (key_view (out-PartialBucket open').key)) V (nested_in l).1 (bucket_sets V (nested_in l).0.kind (key_view (out-PartialBucket open').key) l.domain.items))) (filled o V (nested_in l) l.domain.items (map entry_of (reverse wait.items))))) empty
            ∙ ap (put (map bucket_view done.items)) (next_bucket o V (nested_in l) l.domain.items open' l.wait.items wait.items split) ∙ closed_bucket o V (filled o V (nested_in l) l.domain.items (map entry_of (reverse l.wait.items))),
        ap (λ ns. opened_inside (linked (map bucket_view done.items)) ++ opened_in_rows (linked_rows (map node_view ns))) empty ∙ append-nil (opened_inside (linked (map bucket_view done.items))) ∙ closed_inside,
        refl,
      )

      pub valid_bucket : (s : Schema) (V : Pieces) → IsLevel s V l → StaysValid s V (Opened next_level l.first)
      valid_bucket s V i =
          let both = All-pop (λ b. IsTrue (is_key_of (kind_view (kind_of l.node.now)) (entry_of b).0)) l.wait.items wait.items (Some open') split i.wait in
          (record { node = i.node; sets = i.sets; key = subst (λ (e : Entry). IsTrue (is_key_of (kind_view (kind_of l.node.now)) e.0)) (entry_is open') both.1; wait = both.0; first = i.first; others = i.others; left = i.others }, i.first)

    -- no bucket is left
    pub resumes_whole : l.wait.items ≡ [] → Resumes l h (Closed (roll-PartialNode (record { buckets = done })) l.domain)
    resumes_whole e = (
      λ o V. list_is done ∙ sym (put_none (map bucket_view done.items)) ∙ ap (λ bs. put (map bucket_view done.items) (filled o V (nested_in l) l.domain.items (map entry_of (reverse bs)))) (sym e) ∙ closed_bucket o V (filled o V (nested_in l) l.domain.items (map entry_of (reverse l.wait.items))),
      ap opened_inside (list_is done) ∙ closed_inside,
      refl,
    )
