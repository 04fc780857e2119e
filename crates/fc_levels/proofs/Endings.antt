-- What the end of a job makes of levels.
use Rattle.std.proofs.Common.{◌≡◌, ℕ, ◌+◌, ◌*◌, List, [], ◌∷◌, ◌++◌, map, reverse, length, refl, sym, ap, ◌∙◌, subst, arith, Some}
use Rattle.std.specs.Prelude.{IsTrue, All, Result, Ok, Err, IfOk}
use Rattle.std.specs.declared.vec.Vec.{Vec}
use Rattle.std.specs.declared.alloc.Global.{Global}
use Rattle.std.proofs.lemmas.List.{length-map, reverse-append, reverse-reverse}
use Rattle.std.proofs.lemmas.List.Elements.{All-head, All-nil, All-pop, All-push, All-same, All-tail}
use Rattle.fc_base.specs.declared.error.WantMemory.{WantMemory}
use Rattle.fc_spec.specs.documents.Schema.{Schema}
use Rattle.fc_spec.specs.documents.Sets.{places_at}
use Rattle.fc_spec.specs.documents.World.{Place}
use Rattle.fc_spec.specs.messages.Answer.{partials_of}
use Rattle.fc_spec.specs.messages.Message.{Partials, no_partials, partial, no_rows, row}
use Rattle.fc_spec.specs.requests.Buckets.{bucket_places, is_key_of}
use Rattle.fc_spec.specs.requests.Buckets as definition
use Rattle.fc_spec.specs.requests.Request.{Nodes, stats_of}
use Rattle.fc_spec.specs.requests.Statistics.{stats_over}
use Rattle.fc_spec.specs.requests.Statistics as statistics
use Rattle.fc_partial.specs.BucketView.{Part, bare, bucket_view, buckets_view, linked, linked_rows, node_view}
use Rattle.fc_partial.specs.StatsView.{stats_view}
use Rattle.fc_partial.specs.Tallied.{Entry}
use Rattle.fc_partial.specs.View.{key_view}
use Rattle.fc_partial.specs.declared.key.Key.{Key}
use Rattle.fc_partial.specs.declared.statistics.Stats.{Stats}
use Rattle.fc_partial.specs.declared.bucket.PartialBucket.{PartialBucket, out-PartialBucket}
use Rattle.fc_partial.specs.declared.bucket.PartialBucket.TheViews.{roll-PartialBucket, roll-PartialNode}
use Rattle.fc_partial.specs.declared.bucket.PartialNode.{PartialNode}
use Rattle.fc_request.specs.FacetNode.{facet_view, has_buckets, kind_of, kind_view}
use Rattle.fc_request.specs.NodeView.{inner_view, nodes_view}
use Rattle.fc_request.specs.declared.node.Node.{Node}
use Rattle.fc_answers.specs.Listed.{bucket_entry}
use Rattle.fc_answers.specs.LiveSets.{AreLive}
use Rattle.fc_answers.specs.SetAnswer.{Pieces, Scope, Sets, bucket_sets, inside, own_keys, set_rows, whole_world}
use Rattle.fc_levels.specs.declared.level.Level.{Level}
use Rattle.fc_levels.specs.declared.level.Next.{Next}
use Rattle.fc_levels.specs.declared.level.Next.TheVariants.{Job, Whole}
use Rattle.fc_levels.specs.Facets.{Nested, nested_view, facets_of, facet_count}
use Rattle.fc_levels.specs.Jobs.{opened, opened_inside, opened_in_rows, openings_of, row_count}
use Rattle.fc_levels.specs.Levels.{around, ended_in, ended_inside, entry_of, filled, nested_in, open_in, open_scope, open_sets, outermost_domain, plug, put, put_rows, row_in, row_over, scope_in}
use Rattle.fc_levels.specs.Steps.{AreKeysOf, AreValidFacets, Given, Goes, IsLevel, IsValidNode}
use Rattle.fc_levels.proofs.FacetLists.{first_valid, opened_of, rest_valid, rows_alike, rows_counted, rows_none, valid_facets}
use Rattle.fc_levels.proofs.Resuming.{bucket_is, entry_is, list_is, next_bucket}
use Rattle.fc_levels.proofs.Stacked.{ended_top, open_top, outermost_top, plug_top, scope_top}

-- ---- entries

entries : Partials → List Entry
entries no_partials = []
entries (partial k stats rows rest) = (k, stats) ∷ entries rest

entries_linked : (bs : List PartialBucket) → entries (buckets_view bs) ≡ map entry_of bs
unfolding entries
entries_linked [] = refl
entries_linked (b ∷ bs) = ap (λ es. entry_of b ∷ es) (entries_linked bs)

entries_bare : (es : List Entry) → entries (bare es) ≡ es
unfolding entries
entries_bare [] = refl
entries_bare (e ∷ es) = ap (λ es. e ∷ es) (entries_bare es)

-- buckets with nothing nested are their entries
listed_entries : (bs : List PartialBucket) (es : List Entry) → buckets_view bs ≡ bare es → map entry_of bs ≡ es
listed_entries bs es e = sym (entries_linked bs) ∙ ap entries e ∙ entries_bare es

module _ (o : Scope) (V : Pieces) where
  filled_alike : (n m : Nested) (domain : Sets) (es : List Entry) → n.0 ≡ m.0 → facets_of n.1 ≡ facets_of m.1 → filled o V n domain es ≡ filled o V m domain es
  filled_alike n m domain [] same e = refl
  filled_alike n m domain (x ∷ es) same e =
      ap (λ rows. partial x.0 x.1 rows (filled o V n domain es)) (rows_alike (inside o n.0 x.0) V n.1 m.1 (bucket_sets V n.0.kind x.0 domain) e ∙ ap (λ (f : _). set_rows (inside o f x.0) V m.1 (bucket_sets V f.kind x.0 domain)) same)
      ∙ ap (partial x.0 x.1 (set_rows (inside o m.0 x.0) V m.1 (bucket_sets V m.0.kind x.0 domain))) (filled_alike n m domain es same e)

  filled_keys : (n : Nested) (domain : Sets) (Y : List Place) (keys : List definition.Key)
      → filled o V n domain (map (bucket_entry n.0.kind (stats_of n.1) Y) keys) ≡ partials_of (λ k. stats_over (stats_of n.1) (bucket_places n.0.kind k Y)) (λ k. set_rows (inside o n.0 k) V n.1 (bucket_sets V n.0.kind k domain)) keys
  filled_keys n domain Y [] = refl
  filled_keys n domain Y (k ∷ keys) = ap (partial k (stats_over (stats_of n.1) (bucket_places n.0.kind k Y)) (set_rows (inside o n.0 k) V n.1 (bucket_sets V n.0.kind k domain))) (filled_keys n domain Y keys)

  -- what is listed over a domain
  module _ (n : Node) (domain : Sets) (listed : List PartialBucket)
      (is : buckets_view listed ≡ bare (map (bucket_entry (facet_view n).kind (stats_of (inner_view n)) (places_at (whole_world V) domain)) (own_keys (facet_view n).kind (inner_view n) (places_at (whole_world V) domain)))) where
    listed_keys : map entry_of listed ≡ map (bucket_entry (facet_view n).kind (stats_of (inner_view n)) (places_at (whole_world V) domain)) (own_keys (facet_view n).kind (inner_view n) (places_at (whole_world V) domain))
    listed_keys = listed_entries listed (map (bucket_entry (facet_view n).kind (stats_of (inner_view n)) (places_at (whole_world V) domain)) (own_keys (facet_view n).kind (inner_view n) (places_at (whole_world V) domain))) is

    pub filled_over : (inner : Nodes) → facets_of inner ≡ facets_of (inner_view n) → filled o V (facet_view n, inner) domain (map entry_of listed) ≡ row_over o V (nested_view n) domain
    filled_over inner e =
        ap (filled o V (facet_view n, inner) domain) listed_keys
        ∙ filled_alike (facet_view n, inner) (nested_view n) domain (map (bucket_entry (facet_view n).kind (stats_of (inner_view n)) (places_at (whole_world V) domain)) (own_keys (facet_view n).kind (inner_view n) (places_at (whole_world V) domain))) refl e
        ∙ filled_keys (nested_view n) domain (places_at (whole_world V) domain) (own_keys (facet_view n).kind (inner_view n) (places_at (whole_world V) domain))

    pub opened_over : opened (row_over o V (nested_view n) domain) ≡ length listed * facet_count (inner_view n)
    opened_over =
        opened_of V (inner_view n) (λ k. stats_over (stats_of (inner_view n)) (bucket_places (facet_view n).kind k (places_at (whole_world V) domain))) (λ k. inside o (facet_view n) k) (λ k. bucket_sets V (facet_view n).kind k domain) (own_keys (facet_view n).kind (inner_view n) (places_at (whole_world V) domain))
        ∙ ap (λ k. k * facet_count (inner_view n)) (sym (sym (length-map listed entry_of) ∙ ap length listed_keys ∙ length-map (own_keys (facet_view n).kind (inner_view n) (places_at (whole_world V) domain)) (bucket_entry (facet_view n).kind (stats_of (inner_view n)) (places_at (whole_world V) domain))))

-- ---- a list that is whole

-- a list is ps, and no list stands inside
pub record IsLeaf (h : PartialNode) (ps : Partials) : Type 0 where
  pub same : node_view h ≡ ps
  pub none : opened ps ≡ 0
  pub inside : opened_inside ps ≡ []

module _ (before after : List Level) (D : Sets) (h : PartialNode) (o : Scope) (V : Pieces) (ps : Partials) (leaf : IsLeaf h ps) where
  ended_leaf : ended_in o V before (node_view h) ++ openings_of (node_view h) ≡ ended_in o V before ps ++ 0 ∷ []
  ended_leaf = ap (λ x. ended_in o V before x ++ openings_of x) leaf.same ∙ ap (λ xs. ended_in o V before ps ++ (opened ps ∷ xs)) leaf.inside ∙ ap (λ k. ended_in o V before ps ++ k ∷ []) leaf.none

  given_goes : (next : Next) → Given before after D h next → Goes o V before after D ps next
  given_goes (Job n k) g = (g.0 ∙ sym leaf.none, g.1 o V ∙ ap (plug o V before) leaf.same, g.2 o V ∙ ended_leaf ∙ ap (λ j. ended_in o V before ps ++ j ∷ []) (sym g.0), g.3)
  given_goes (Whole p domain) g = (leaf.none, g.0 o V ∙ ap (plug o V before) leaf.same, g.1 o V ∙ ended_leaf, g.2, g.3)

bare_over : (o : Scope) (V : Pieces) (n : Node) (domain : Sets) (keys : List definition.Key) → facets_of (inner_view n) ≡ []
    → bare (map (bucket_entry (facet_view n).kind (stats_of (inner_view n)) (places_at (whole_world V) domain)) keys)
    ≡ partials_of (λ k. stats_over (stats_of (inner_view n)) (bucket_places (facet_view n).kind k (places_at (whole_world V) domain))) (λ k. set_rows (inside o (facet_view n) k) V (inner_view n) (bucket_sets V (facet_view n).kind k domain)) keys
bare_over o V n domain [] e = refl
bare_over o V n domain (k ∷ keys) e =
    ap (partial k (stats_over (stats_of (inner_view n)) (bucket_places (facet_view n).kind k (places_at (whole_world V) domain))) no_rows) (bare_over o V n domain keys e)
    ∙ ap (λ rows. partial k (stats_over (stats_of (inner_view n)) (bucket_places (facet_view n).kind k (places_at (whole_world V) domain))) rows
    (partials_of (λ k. stats_over (stats_of (inner_view n)) (bucket_places (facet_view n).kind k (places_at (whole_world V) domain))) (λ k. set_rows (inside o (facet_view n) k) V (inner_view n) (bucket_sets V (facet_view n).kind k domain)) keys))
    (sym (rows_none (inside o (facet_view n) k) V (inner_view n) (bucket_sets V (facet_view n).kind k domain) e))

bare_opened : (es : List Entry) → opened (bare es) ≡ 0
bare_opened [] = refl
bare_opened (e ∷ es) = ap (λ n. 0 + n) (bare_opened es)

bare_inside : (es : List Entry) → opened_inside (bare es) ≡ []
bare_inside [] = refl
bare_inside (e ∷ es) = bare_inside es

-- the listed buckets are those of the node's keys, with nothing nested
abbrev pub IsListed : Pieces → Node → Sets → List PartialBucket → Type 0
IsListed V n domain listed = buckets_view listed ≡ bare (map (bucket_entry (facet_view n).kind (stats_of (inner_view n)) (places_at (whole_world V) domain)) (own_keys (facet_view n).kind (inner_view n) (places_at (whole_world V) domain)))

-- the end of a node's job
abbrev pub JobGoes : (before after : List Level) → Node → Sets → List PartialBucket → Next → Type 0
JobGoes before after n domain listed next = (o : Scope) (V : Pieces) → IsListed V n domain listed → Goes o V before after domain (row_over (scope_in o before) V (nested_view n) domain) next

-- with no facet in it
module _ (before after : List Level) (n : Node) (domain : Sets) (listed : Vec PartialBucket Global) where
  leaf_listed : (o : Scope) (V : Pieces) → facets_of (inner_view n) ≡ [] → IsListed V n domain listed.items → IsLeaf (roll-PartialNode (record { buckets = listed })) (row_over o V (nested_view n) domain)
  leaf_listed o V e is =
      let es = map (bucket_entry (facet_view n).kind (stats_of (inner_view n)) (places_at (whole_world V) domain)) (own_keys (facet_view n).kind (inner_view n) (places_at (whole_world V) domain)) in
      let over = bare_over o V n domain (own_keys (facet_view n).kind (inner_view n) (places_at (whole_world V) domain)) e in
      record { same = list_is listed ∙ is ∙ over; none = ap opened (sym over) ∙ bare_opened es; inside = ap opened_inside (sym over) ∙ bare_inside es }

  pub listed_goes : facets_of (inner_view n) ≡ [] → (result : Result Next WantMemory) → IfOk result (Given before after domain (roll-PartialNode (record { buckets = listed }))) → IfOk result (JobGoes before after n domain listed.items)
  listed_goes e (Ok next) g = λ o V is. given_goes before after domain (roll-PartialNode (record { buckets = listed })) o V (row_over (scope_in o before) V (nested_view n) domain) (leaf_listed (scope_in o before) V e is) next g
  listed_goes e (Err x) g = g

-- with no bucket
module _ (before after : List Level) (n : Node) (domain : Sets) (listed : List PartialBucket) (empty : listed ≡ []) (buckets : Vec PartialBucket Global) (none : buckets.items ≡ []) where
  leaf_none : (o : Scope) (V : Pieces) → IsListed V n domain listed → IsLeaf (roll-PartialNode (record { buckets = buckets })) (row_over o V (nested_view n) domain)
  leaf_none o V is =
      let over : no_partials ≡ row_over o V (nested_view n) domain = ap (λ bs. filled o V (nested_view n) domain (map entry_of bs)) (sym empty) ∙ filled_over o V n domain listed is (inner_view n) refl in
      record { same = list_is buckets ∙ ap buckets_view none ∙ over; none = ap opened (sym over); inside = ap opened_inside (sym over) }

  pub none_goes : (result : Result Next WantMemory) → IfOk result (Given before after domain (roll-PartialNode (record { buckets = buckets }))) → IfOk result (JobGoes before after n domain listed)
  none_goes (Ok next) g = λ o V is. given_goes before after domain (roll-PartialNode (record { buckets = buckets })) o V (row_over (scope_in o before) V (nested_view n) domain) (leaf_none (scope_in o before) V is) next g
  none_goes (Err x) g = g

-- a bucket by itself, with no facet in it
abbrev pub top_over : Scope → Pieces → Node → Sets → definition.Key → statistics.Stats → Partials
top_over o V n domain key stats = partial key stats (set_rows (inside o (facet_view n) key) V (inner_view n) (bucket_sets V (facet_view n).kind key domain)) no_partials

module _ (before after : List Level) (n : Node) (domain : Sets) (key : Key) (stats : Stats) (rows : Vec PartialNode Global) (none : rows.items ≡ []) (buckets : Vec PartialBucket Global)
    (is : buckets.items ≡ roll-PartialBucket (record { key = key; stats = stats; nodes = rows }) ∷ []) where
  leaf_top : (o : Scope) (V : Pieces) → facets_of (inner_view n) ≡ [] → IsLeaf (roll-PartialNode (record { buckets = buckets })) (top_over o V n domain (key_view key) (stats_view stats))
  leaf_top o V e =
      let over : partial (key_view key) (stats_view stats) no_rows no_partials ≡ top_over o V n domain (key_view key) (stats_view stats)
      = ap (λ x. partial (key_view key) (stats_view stats) x no_partials) (sym (rows_none (inside o (facet_view n) (key_view key)) V (inner_view n) (bucket_sets V (facet_view n).kind (key_view key) domain) e)) in
      record {
        same =
            list_is buckets ∙ ap buckets_view is ∙ ap (λ (p : Part). partial p.key p.stats p.rows no_partials) (bucket_is key stats rows)
            ∙ ap (λ ns. partial (key_view key) (stats_view stats) (linked_rows (map node_view ns)) no_partials) none ∙ over;
        none = ap opened (sym over);
        inside = ap opened_inside (sym over);
      }

  pub top_goes : facets_of (inner_view n) ≡ [] → (result : Result Next WantMemory) → IfOk result (Given before after domain (roll-PartialNode (record { buckets = buckets })))
      → (P : Scope → Pieces → Type 0) → IfOk result (λ next. (o : Scope) (V : Pieces) → P o V → Goes o V before after domain (top_over (scope_in o before) V n domain (key_view key) (stats_view stats)) next)
  top_goes e (Ok next) g P = λ o V p. given_goes before after domain (roll-PartialNode (record { buckets = buckets })) o V (top_over (scope_in o before) V n domain (key_view key) (stats_view stats)) (leaf_top (scope_in o before) V e) next g
  top_goes e (Err x) g P = g

-- ---- a level that is opened

module _ (before after : List Level) (l : Level) (f : after ≡ before ++ l ∷ []) (done : l.done.items ≡ []) (rows : l.rows.items ≡ []) (left : l.left.now ≡ l.others.now) where
  -- what its buckets will be
  abbrev whole_level : Scope → Pieces → Partials
  whole_level o V = partial (key_view l.key) (stats_view l.stats) (set_rows (open_scope o l) V (nested_in l).1 (open_sets V l)) (filled o V (nested_in l) l.domain.items (map entry_of (reverse l.wait.items)))

  abbrev first_list : Scope → Pieces → Partials
  first_list o V = row_in (open_scope o l) V (nested_view l.first.now) (open_sets V l)

  pub pushed_goes : (o : Scope) (V : Pieces) (D : Sets) (ps : Partials) (k : ℕ) → ps ≡ whole_level (scope_in o before) V → k ≡ opened ps → l.domain.items ≡ D → Goes o V before after D ps (Job l.first k)
  pushed_goes o V D ps k is counted own = (counted, plugged, ended, ap (outermost_domain D) f ∙ outermost_top D before l ∙ ap (λ d. outermost_domain d before) own)
    where
      opens : around (scope_in o before) V l (first_list (scope_in o before) V) ≡ ps
      opens =
          (λ i. put (map bucket_view (done i)) (partial (key_view l.key) (stats_view l.stats) (put_rows (map node_view (rows i)) (row (first_list (scope_in o before) V) (set_rows (open_scope (scope_in o before) l) V (nodes_view (left i)) (open_sets V l)))) (filled (scope_in o before) V (nested_in l) l.domain.items (map entry_of (reverse l.wait.items)))))
          ∙ sym is

      inside_none : ended_inside l ≡ []
      inside_none = λ i. opened_inside (linked (map bucket_view (done i))) ++ opened_in_rows (linked_rows (map node_view (rows i)))

      first_is : row_in (scope_in o (before ++ l ∷ [])) V (nested_view l.first.now) (open_in V [] (before ++ l ∷ [])) ≡ first_list (scope_in o before) V
      first_is = λ i. row_in (scope_top o before l i) V (nested_view l.first.now) (open_top V [] before l i)

      plugged : plug o V after (row_in (scope_in o after) V (nested_view l.first.now) (open_in V [] after)) ≡ plug o V before ps
      plugged =
          ap (λ x. plug o V x (row_in (scope_in o x) V (nested_view l.first.now) (open_in V [] x))) f ∙ ap (plug o V (before ++ l ∷ [])) first_is
          ∙ plug_top o V before l (first_list (scope_in o before) V) ∙ ap (plug o V before) opens

      ended : ended_in o V after (row_in (scope_in o after) V (nested_view l.first.now) (open_in V [] after)) ≡ ended_in o V before ps ++ k ∷ []
      ended =
          ap (λ x. ended_in o V x (row_in (scope_in o x) V (nested_view l.first.now) (open_in V [] x))) f ∙ ap (ended_in o V (before ++ l ∷ [])) first_is
          ∙ ended_top o V before l (first_list (scope_in o before) V) ∙ ap (λ x. ended_in o V before x ++ (opened x ∷ ended_inside l)) opens
          ∙ ap (λ xs. ended_in o V before ps ++ (opened ps ∷ xs)) inside_none ∙ ap (λ j. ended_in o V before ps ++ j ∷ []) (sym counted)

  pub pushed_kept : (s : Schema) (V : Pieces) → All (IsLevel s V) before → IsLevel s V l → All (IsLevel s V) after
  pushed_kept s V a i = All-same (IsLevel s V) after (before ++ l ∷ []) f (All-push (IsLevel s V) before l a i)

-- for the first of the buckets that are listed
pub job_opens : (l : Level) (listed : List PartialBucket) (open' : PartialBucket) → l.key ≡ (out-PartialBucket open').key → l.stats ≡ (out-PartialBucket open').stats → reverse listed ≡ l.wait.items ++ open' ∷ []
    → facets_of (inner_view l.node.now) ≡ nested_view l.first.now ∷ facets_of (nodes_view l.others.now) → (o : Scope) (V : Pieces) → IsListed V l.node.now l.domain.items listed
    → row_over o V (nested_view l.node.now) l.domain.items ≡ partial (key_view l.key) (stats_view l.stats) (set_rows (open_scope o l) V (nested_in l).1 (open_sets V l)) (filled o V (nested_in l) l.domain.items (map entry_of (reverse l.wait.items)))
job_opens l listed open' key stats split e o V is = sym (
    (λ i. partial (key_view (key i)) (stats_view (stats i)) (set_rows (inside o (nested_in l).0 (key_view (key i))) V (nested_in l).1 (bucket_sets V (nested_in l).0.kind (key_view (key i)) l.domain.items)) (filled o V (nested_in l) l.domain.items (map entry_of (reverse l.wait.items))))
    ∙ next_bucket o V (nested_in l) l.domain.items open' (reverse listed) l.wait.items split ∙ ap (λ bs. filled o V (nested_in l) l.domain.items (map entry_of bs)) (reverse-reverse listed)
    ∙ filled_over o V l.node.now l.domain.items listed is (nested_in l).1 (sym e))

-- for a bucket by itself
pub top_opens : (l : Level) → l.wait.items ≡ [] → facets_of (inner_view l.node.now) ≡ nested_view l.first.now ∷ facets_of (nodes_view l.others.now) → (o : Scope) (V : Pieces)
    → top_over o V l.node.now l.domain.items (key_view l.key) (stats_view l.stats) ≡ partial (key_view l.key) (stats_view l.stats) (set_rows (open_scope o l) V (nested_in l).1 (open_sets V l)) (filled o V (nested_in l) l.domain.items (map entry_of (reverse l.wait.items)))
top_opens l none e o V =
    ap (λ rows. partial (key_view l.key) (stats_view l.stats) rows no_partials) (rows_alike (open_scope o l) V (inner_view l.node.now) (nested_in l).1 (open_sets V l) e)
    ∙ ap (λ bs. partial (key_view l.key) (stats_view l.stats) (set_rows (open_scope o l) V (nested_in l).1 (open_sets V l)) (filled o V (nested_in l) l.domain.items (map entry_of (reverse bs)))) (sym none)

pub top_counted : (o : Scope) (V : Pieces) (n : Node) (domain : Sets) (key : definition.Key) (stats : statistics.Stats) → facet_count (inner_view n) ≡ opened (top_over o V n domain key stats)
top_counted o V n domain key stats =
    let one : row_count (set_rows (inside o (facet_view n) key) V (inner_view n) (bucket_sets V (facet_view n).kind key domain)) ≡ facet_count (inner_view n) = rows_counted (inside o (facet_view n) key) V (inner_view n) (bucket_sets V (facet_view n).kind key domain) in
    omega arith

-- ---- levels that are valid

-- whatever else is known
pub given_kept : (before after : List Level) (n : Node) (domain : Sets) (K : Type 0) (result : Result Next WantMemory) → IfOk result (λ next. (s : Schema) (V : Pieces) → All (IsLevel s V) before → All (IsLevel s V) after)
    → IfOk result (λ next. (s : Schema) (V : Pieces) → All (IsLevel s V) before → IsValidNode s n → AreLive V domain → K → All (IsLevel s V) after)
given_kept before after n domain K (Ok next) kept = λ s V a i sets k. kept s V a
given_kept before after n domain K (Err x) kept = kept

All-reverse : {X : Type 0} (P : X → Type 0) (xs : List X) → All P xs → All P (reverse xs)
All-reverse P [] a = a
All-reverse P (x ∷ xs) a = All-same P (reverse (x ∷ xs)) (reverse xs ++ x ∷ []) (reverse-append (x ∷ []) xs) (All-push P (reverse xs) x (All-reverse P xs (All-tail P x xs a)) (All-head P x xs a))

-- the listed buckets are of the node's keys, and so are the first and those that wait
pub keys_split : (n : Node) (listed wait : List PartialBucket) (open' : PartialBucket) → reverse listed ≡ wait ++ open' ∷ [] → AreKeysOf n listed → AreKeysOf n wait × IsTrue (is_key_of (kind_view (kind_of n)) (key_view (out-PartialBucket open').key))
keys_split n listed wait open' split a =
    let both = All-pop (λ b. IsTrue (is_key_of (kind_view (kind_of n)) (entry_of b).0)) (reverse listed) wait (Some open') split (All-reverse (λ b. IsTrue (is_key_of (kind_view (kind_of n)) (entry_of b).0)) listed a) in
    (both.0, subst (λ (e : Entry). IsTrue (is_key_of (kind_view (kind_of n)) e.0)) (entry_is open') both.1)

pub no_keys : (n : Node) (wait : List PartialBucket) → wait ≡ [] → AreKeysOf n wait
no_keys n wait e = All-same (λ b. IsTrue (is_key_of (kind_view (kind_of n)) (entry_of b).0)) wait [] e (All-nil (λ b. IsTrue (is_key_of (kind_view (kind_of n)) (entry_of b).0)))

module _ (s : Schema) (V : Pieces) (l : Level) (e : facets_of (inner_view l.node.now) ≡ nested_view l.first.now ∷ facets_of (nodes_view l.others.now)) (b : IsTrue (has_buckets (kind_of l.first.now))) (left : l.left.now ≡ l.others.now) where
  pub level_valid : IsValidNode s l.node.now → AreLive V l.domain.items → IsTrue (is_key_of (kind_view (kind_of l.node.now)) (key_view l.key)) → AreKeysOf l.node.now l.wait.items → IsLevel s V l
  level_valid i sets key wait =
      let others = rest_valid s (inner_view l.node.now) (nodes_view l.others.now) l.first.now e (valid_facets s (inner_view l.node.now) i.inner) in
      record {
        node = i;
        sets = sets;
        key = key;
        wait = wait;
        first = first_valid s (inner_view l.node.now) (nodes_view l.others.now) l.first.now e b (valid_facets s (inner_view l.node.now) i.inner);
        others = others;
        left = subst (λ ns. AreValidFacets s (nodes_view ns)) (sym left) others;
      }
