-- Over documents of the schema the replaced request of a valid one is valid but for names.
use Rattle.std.proofs.Common.{◌≡◌, ℕ, suc, ◌<◌, ◌≤◌, max, List, [], ◌∷◌, length, Bool, true, false, cond, Some, refl, sym, ◌∙◌, ap, subst, arith, get_or, All}
use Rattle.std.specs.Prelude.{nat_le, slice_get, IsTrue, IsSomeAnd, not, map, ◌+◌}
use Rattle.std.specs.List.{filter, AllByRecursion}
use Rattle.std.proofs.lemmas.Bool.{and_parts, and_from}
use Rattle.std.proofs.lemmas.List.Elements.{All-head, All-tail}
use Rattle.std.proofs.lemmas.Option.{slice_get-get_or}
use Rattle.fc_spec.specs.documents.Val.{Text, Val, text, long, same_val, has_val, distinct}
use Rattle.fc_spec.specs.documents.Document.{Document, Block, values_of}
use Rattle.fc_spec.specs.documents.Schema.{Field, string, Schema}
use Rattle.fc_spec.specs.documents.ValidBlocks.{is_of_type, is_value_of, IsDocumentOf, IsBlockOf}
use Rattle.fc_spec.specs.documents.World.{World, Place, places, places_from, shard_places, block_places}
use Rattle.fc_spec.specs.queries.ValidQueries.{IsValidQuery}
use Rattle.fc_spec.specs.requests.Request.{Stat, Terms, Kind, terms, range, date_range, query, DomainChange, BlockStep, stay, parents, children, Facet, Nodes, no_nodes, statistic, facet, Request, stats_of}
use Rattle.fc_spec.specs.requests.Shape.{is_exact, stays, none_says_exact, outermost_exact}
use Rattle.fc_spec.specs.requests.Base.{meets_base, root_domain}
use Rattle.fc_spec.specs.requests.Domain.{moved}
use Rattle.fc_spec.specs.requests.Paths.{at_root, meets_rebuilt, rebuilt, domain}
use Rattle.fc_spec.specs.requests.Buckets.{Key, value, missing, gap, before, between, after, whole, has_prefix}
use Rattle.fc_spec.specs.requests.Ranks.{Entry}
use Rattle.fc_spec.specs.requests.Statistics.{stats_over, pair_values}
use Rattle.fc_spec.specs.requests.ValidRequests.{IsValidChange, IsValidFacet, AreValidNodes, node_depth}
use Rattle.fc_spec.specs.words.Lists.{is_empty}
use Rattle.fc_spec.specs.replies.Printed.{asked}
use Rattle.fc_spec.specs.replies.Values.{value_places, values_in, entries_in}
use Rattle.fc_spec.specs.replies.Tops.{printed_values, tops, tops_in, tops_of, key_query, key_nodes, top_keys, first_list, lists_after, replaced_facet, replaced_nodes}
use Rattle.fc_spec.specs.laws.ReplacedLaw.{HasBlocksOf, ReplacedAreSearchable}
use Rattle.fc_spec.proofs.words.Members.{Every, every_from_members, every_filter, every_map, filter_member, passing_member, all_from_members, each_member}
use Rattle.fc_spec.proofs.documents.ValOrder.{same_val_exact}
use Rattle.fc_spec.proofs.requests.Certificate.{of_member}
use Rattle.fc_spec.proofs.requests.FoundValues.{holds_value, not-is_empty-filter}
use Rattle.fc_spec.proofs.replies.PrintedKeys.{every_page}
use Rattle.fc_spec.proofs.replies.Replaced.{lists_after-not}
use Rattle.fc_spec.proofs.messages.HeldFurther.{all_append}

-- ---- documents of a schema

all_filter : {X : Type 0} (P : X → Type 0) (q : X → Bool) (xs : List X) → AllByRecursion P xs → AllByRecursion P (filter q xs)
all_filter P q xs h = all_from_members P (filter q xs) (λ x m. each_member P xs x h (filter_member q xs x m).0)

module _ (s : Schema) where
  abbrev IsOwn : Place → Type 0
  IsOwn p = IsDocumentOf s p.document

  block_own : (i b p : ℕ) (ds : List Document) (d : Document) → All (IsDocumentOf s) ds → IsDocumentOf s d → AllByRecursion IsOwn (block_places i b p ds d)
  block_own i b p [] d h k = (k, tt)
  block_own i b p (c ∷ cs) d h k = (All-head (IsDocumentOf s) c cs h, block_own i b (p + 1) cs d (All-tail (IsDocumentOf s) c cs h) k)

  shard_own : (i b p : ℕ) (blocks : List Block) → All (IsBlockOf s) blocks → AllByRecursion IsOwn (shard_places i b p blocks)
  shard_own i b p [] h = tt
  shard_own i b p (x ∷ xs) h =
      let here = All-head (IsBlockOf s) x xs h in
      all_append IsOwn (block_places i b p x.children x.parent) (shard_places i (b + 1) (p + length x.children + 1) xs) (block_own i b p x.children x.parent here.children here.parent)
      (shard_own i (b + 1) (p + length x.children + 1) xs (All-tail (IsBlockOf s) x xs h))

  world_own : (i : ℕ) (W : World) → HasBlocksOf s W → AllByRecursion IsOwn (places_from i W)
  world_own i [] h = tt
  world_own i (blocks ∷ rest) h =
      all_append IsOwn (shard_places i 0 0 blocks) (places_from (i + 1) rest) (shard_own i 0 0 blocks (All-head (All (IsBlockOf s)) blocks rest h)) (world_own (i + 1) rest (All-tail (All (IsBlockOf s)) blocks rest h))

  domain_own : (r : Request) (W : World) (change : DomainChange) (X : List Place) → AllByRecursion IsOwn (places W) → AllByRecursion IsOwn X → AllByRecursion IsOwn (domain r W at_root change X)
  domain_own r W change X all own = all_filter IsOwn _ (moved W change.block (cond (is_empty change.exclude) X (rebuilt r W at_root change.exclude))) (step change.block (is_empty change.exclude))
    where
      begin : (c : Bool) → AllByRecursion IsOwn (cond c X (rebuilt r W at_root change.exclude))
      begin true = own
      begin false = all_filter IsOwn (λ p. meets_rebuilt r at_root change.exclude p.document) (places W) all

      step : (b : BlockStep) (c : Bool) → AllByRecursion IsOwn (moved W b (cond c X (rebuilt r W at_root change.exclude)))
      step stay c = begin c
      step (parents q) c = all_filter IsOwn _ (places W) all
      step (children q) c = all_filter IsOwn _ (places W) all

  -- ---- values of a field

  value_of_type : (f : Field) (v : Val) → is_value_of f.kind v ≡ true → is_of_type f.kind v ≡ true
  value_of_type f (text t) h = (and_parts (is_of_type f.kind (text t)) _ h).0
  value_of_type f (long z) h = h

  -- the values that a terms facet finds
  found_of_type : (f : Field) (t : Terms) (Y : List Place) → slice_get s.fields t.field ≡ Some f → AllByRecursion IsOwn Y → Every (is_of_type f.kind) (values_in t Y)
  found_of_type f t Y at own = every_from_members (is_of_type f.kind) (values_in t Y) (λ v m.
      let found = (filter_member (λ w. not (is_empty (value_places t w Y))) (distinct (pair_values t.field Y)) v m).1 in
      let p = passing_member (holds_value t v) Y (sym (not-is_empty-filter (holds_value t v) Y) ∙ found) in
      let held = passing_member (same_val v) (values_of (p.0).document t.field) (and_parts (has_val v (values_of (p.0).document t.field)) (has_prefix t.prefix v) p.2).0 in
      let document : IsDocumentOf s (p.0).document = each_member IsOwn Y p.0 own p.1 in
      let typed = of_member (λ w. IsTrue (is_value_of f.kind w)) (values_of (p.0).document t.field) held.0 (document.values t.field f at).of_type held.1 in
      value_of_type f v (ap (is_value_of f.kind) (same_val_exact v held.0 held.2) ∙ typed))

  -- those that it prints
  printed_of_type : (f : Field) (t : Terms) (ss : List Stat) (Y : List Place) → slice_get s.fields t.field ≡ Some f → AllByRecursion IsOwn Y → Every (is_of_type f.kind) (printed_values t (entries_in t ss Y))
  printed_of_type f t ss Y at own =
      let ok : Entry → Bool = λ e. is_of_type f.kind e.val in
      every_map (is_of_type f.kind) (λ e. e.val) _
      (every_page ok t.sort t.offset t.limit (filter (λ e. nat_le t.mincount e.stats.count) (entries_in t ss Y))
      (every_filter ok (λ e. nat_le t.mincount e.stats.count) (entries_in t ss Y)
      (every_map ok (λ v. record { val = v; stats = stats_over ss (value_places t v Y) }) (values_in t Y) (found_of_type f t Y at own))))

  -- ---- nodes

  -- the query of a key whose value is of the field
  key_valid : (f : Field) (t : Terms) (k : Key) → t.field < length s.fields → slice_get s.fields t.field ≡ Some f → ((v : Val) → k ≡ value v → is_of_type f.kind v ≡ true) → IsValidQuery s (key_query t k)
  key_valid f t (value v) field at typed = record { fits = subst (λ o. IsSomeAnd o (λ g. IsTrue (is_of_type g.kind v))) (sym at) (typed v refl); shallow = omega arith }
  key_valid f t missing field at typed = record { fits = (field, tt); shallow = omega arith }
  key_valid f t (gap i) field at typed = record { fits = (field, tt); shallow = omega arith }
  key_valid f t before field at typed = record { fits = (field, tt); shallow = omega arith }
  key_valid f t between field at typed = record { fits = (field, tt); shallow = omega arith }
  key_valid f t after field at typed = record { fits = (field, tt); shallow = omega arith }
  key_valid f t whole field at typed = record { fits = (field, tt); shallow = omega arith }

  -- each value among the keys is of a type
  abbrev AreTyped : Field → List Key → Type 0
  AreTyped f ks = AllByRecursion (λ k. (v : Val) → k ≡ value v → is_of_type f.kind v ≡ true) ks

  values_typed : (f : Field) (vs : List Val) → Every (is_of_type f.kind) vs → AreTyped f (map value vs)
  values_typed f [] h = tt
  values_typed f (v ∷ vs) h = ((λ w e. ap (is_of_type f.kind) (value_exact w v (sym e)) ∙ h.0), values_typed f vs h.1)
    where
      value_exact : (a b : Val) → value a ≡ value b → a ≡ b
      value_exact a b e = cc

  asked_typed : (f : Field) (b : Bool) → AreTyped f (asked b missing)
  asked_typed f true = ((λ w e. absurd (cc)), tt)
  asked_typed f false = tt

  keys_typed : (f : Field) (t : Terms) (vs : List Val) → Every (is_of_type f.kind) vs → AreTyped f (top_keys t vs)
  keys_typed f t vs h = all_append (λ k. (v : Val) → k ≡ value v → is_of_type f.kind v ≡ true) (map value vs) (asked t.missing missing) (values_typed f vs h) (asked_typed f t.missing)

  keys_valid : (field : Field) (f : Facet) (t : Terms) (inner : Nodes) (ks : List Key) (more : Nodes) → t.field < length s.fields → slice_get s.fields t.field ≡ Some field → AreTyped field ks
      → IsValidChange s true f.change → AreValidNodes s (stays f.change) inner → AreValidNodes s true more → AreValidNodes s true (key_nodes f t inner ks more)
  keys_valid field f t inner [] more there at typed change inside later = later
  keys_valid field f t inner (k ∷ ks) more there at typed change inside later =
      (record { change = change; kind = key_valid field t k there at typed.0 }, inside, keys_valid field f t inner ks more there at typed.1 change inside later)

  keys_deep : (f : Facet) (t : Terms) (inner : Nodes) (ks : List Key) (more : Nodes) → node_depth (key_nodes f t inner ks more) ≤ max (suc (node_depth inner)) (node_depth more)
  keys_deep f t inner [] more = omega arith
  keys_deep f t inner (k ∷ ks) more = let rest = keys_deep f t inner ks more in omega arith

  module _ (r : Request) (W : World) (all : AllByRecursion IsOwn (places W)) where
    Y_own : (change : DomainChange) → AllByRecursion IsOwn (domain r W at_root change (root_domain r W))
    Y_own change = domain_own r W change (root_domain r W) all (all_filter IsOwn (λ p. meets_base r [] p.document) (places W) all)

    abbrev made : Facet → Terms → (inner rest : Nodes) → Bool → List (List Val) → Nodes
    made f t inner rest b us = cond b (key_nodes f t inner (top_keys t (first_list us)) (replaced_nodes rest (lists_after b us))) (facet f inner (replaced_nodes rest (lists_after b us)))

    -- what is shown of nodes
    abbrev AreReplacedValid : Nodes → Nodes → Type 0
    AreReplacedValid nodes others = AreValidNodes s true others × (node_depth others ≤ node_depth nodes)

    same_valid : (f : Facet) (inner rest others : Nodes) → IsValidFacet s true f inner → AreValidNodes s (stays f.change) inner → AreReplacedValid rest others → AreReplacedValid (facet f inner rest) (facet f inner others)
    same_valid f inner rest others h k later = ((h, k, later.0), (let deep : node_depth others ≤ node_depth rest = later.1 in omega arith))

    kind_valid : (name : Text) (change : DomainChange) (kind : Kind) (inner rest : Nodes) (vss : List (List Val)) → IsValidFacet s true (record { name = name; change = change; kind = kind }) inner → AreValidNodes s (stays change) inner
        → vss ≡ tops_in r W (facet (record { name = name; change = change; kind = kind }) inner rest) → ((us : List (List Val)) → us ≡ tops_in r W rest → AreReplacedValid rest (replaced_nodes rest us))
        → AreReplacedValid (facet (record { name = name; change = change; kind = kind }) inner rest) (replaced_nodes (facet (record { name = name; change = change; kind = kind }) inner rest) vss)
    kind_valid name change (terms t) inner rest vss h k same later = go (is_exact (terms t)) refl
      where
        tops_are : (b : Bool) → is_exact (terms t) ≡ b → vss ≡ cond b (tops r W change t (stats_of inner) ∷ tops_in r W rest) (tops_in r W rest)
        tops_are b e = same ∙ ap (λ c. cond c (tops r W change t (stats_of inner) ∷ tops_in r W rest) (tops_in r W rest)) e

        field_at : slice_get s.fields t.field ≡ Some (get_or s.fields t.field (record { name = []; kind = string }))
        field_at = slice_get-get_or s.fields t.field (record { name = []; kind = string }) h.kind.field

        go : (b : Bool) → is_exact (terms t) ≡ b
            → AreReplacedValid (facet (record { name = name; change = change; kind = terms t }) inner rest) (made (record { name = name; change = change; kind = terms t }) t inner rest (is_exact (terms t)) vss)
        go true e =
            let f : Facet = record { name = name; change = change; kind = terms t } in
            let field = get_or s.fields t.field (record { name = []; kind = string }) in
            let vs = tops r W change t (stats_of inner) in
            let more = later (tops_in r W rest) refl in
            subst (AreReplacedValid (facet f inner rest)) (sym (ap (λ c. made f t inner rest c vss) e ∙ ap (made f t inner rest true) (tops_are true e))) (
              keys_valid field f t inner (top_keys t vs) (replaced_nodes rest (tops_in r W rest)) h.kind.field field_at (keys_typed field t vs (printed_of_type field t (stats_of inner) (domain r W at_root change (root_domain r W)) field_at (Y_own change))) h.change k more.0,
              (let deep : node_depth (replaced_nodes rest (tops_in r W rest)) ≤ node_depth rest = more.1 in let keys = keys_deep f t inner (top_keys t vs) (replaced_nodes rest (tops_in r W rest)) in omega arith),
            )
        go false e =
            let f : Facet = record { name = name; change = change; kind = terms t } in
            subst (AreReplacedValid (facet f inner rest)) (sym (ap (λ c. made f t inner rest c vss) e)) (same_valid f inner rest (replaced_nodes rest (lists_after false vss)) h k (later (lists_after false vss) (lists_after-not vss ∙ tops_are false e)))
    kind_valid name change (range g) inner rest vss h k same later =
        same_valid (record { name = name; change = change; kind = range g }) inner rest (replaced_nodes rest (lists_after false vss)) h k (later (lists_after false vss) (lists_after-not vss ∙ same))
    kind_valid name change (date_range g) inner rest vss h k same later =
        same_valid (record { name = name; change = change; kind = date_range g }) inner rest (replaced_nodes rest (lists_after false vss)) h k (later (lists_after false vss) (lists_after-not vss ∙ same))
    kind_valid name change (query q) inner rest vss h k same later =
        same_valid (record { name = name; change = change; kind = query q }) inner rest (replaced_nodes rest (lists_after false vss)) h k (later (lists_after false vss) (lists_after-not vss ∙ same))

    nodes_valid : (nodes : Nodes) (vss : List (List Val)) → AreValidNodes s true nodes → vss ≡ tops_in r W nodes → AreReplacedValid nodes (replaced_nodes nodes vss)
    nodes_valid no_nodes vss h same = (tt, omega arith)
    nodes_valid (statistic name st rest) vss h same = let later = nodes_valid rest vss h.1 same in ((h.0, later.0), (let deep : node_depth (replaced_nodes rest vss) ≤ node_depth rest = later.1 in omega arith))
    nodes_valid (facet f inner rest) vss h same = kind_valid f.name f.change f.kind inner rest vss h.0 h.1 same (λ us e. nodes_valid rest us h.2 e)

-- ---- exact facets stand outermost

keys_stand : (f : Facet) (t : Terms) (inner : Nodes) (ks : List Key) (more : Nodes) → none_says_exact inner ≡ true → outermost_exact more ≡ true → outermost_exact (key_nodes f t inner ks more) ≡ true
keys_stand f t inner [] more none later = later
keys_stand f t inner (k ∷ ks) more none later = and_from (none_says_exact inner) (outermost_exact (key_nodes f t inner ks more)) none (keys_stand f t inner ks more none later)

facet_stands : (f : Facet) (kind : Kind) (inner : Nodes) (vs : List Val) (more : Nodes) → none_says_exact inner ≡ true → outermost_exact more ≡ true → outermost_exact (replaced_facet kind f inner vs more) ≡ true
facet_stands f (terms t) inner vs more none later = go (is_exact (terms t))
  where
    go : (b : Bool) → outermost_exact (cond b (key_nodes f t inner (top_keys t vs) more) (facet f inner more)) ≡ true
    go true = keys_stand f t inner (top_keys t vs) more none later
    go false = and_from (none_says_exact inner) (outermost_exact more) none later
facet_stands f (range g) inner vs more none later = and_from (none_says_exact inner) (outermost_exact more) none later
facet_stands f (date_range g) inner vs more none later = and_from (none_says_exact inner) (outermost_exact more) none later
facet_stands f (query q) inner vs more none later = and_from (none_says_exact inner) (outermost_exact more) none later

replaced_stand : (nodes : Nodes) (vss : List (List Val)) → outermost_exact nodes ≡ true → outermost_exact (replaced_nodes nodes vss) ≡ true
replaced_stand no_nodes vss h = refl
replaced_stand (statistic name st rest) vss h = replaced_stand rest vss h
replaced_stand (facet f inner rest) vss h =
    let parts = and_parts (none_says_exact inner) (outermost_exact rest) h in
    facet_stands f f.kind inner (first_list vss) (replaced_nodes rest (lists_after (is_exact f.kind) vss)) parts.0 (replaced_stand rest (lists_after (is_exact f.kind) vss) parts.1)

pub replaced_are_searchable : ReplacedAreSearchable
replaced_are_searchable s r W h blocks =
    let valid = nodes_valid s r W (world_own s 0 W blocks) r.nodes (tops_of r W) h.nodes refl in
    record { query = h.query; filters = h.filters; nodes = valid.0; exact = replaced_stand r.nodes (tops_of r W) h.exact; depth = (let d = h.depth in let e : node_depth (replaced_nodes r.nodes (tops_of r W)) ≤ node_depth r.nodes = valid.1 in omega arith) }
