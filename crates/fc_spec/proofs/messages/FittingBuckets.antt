-- What is held of told buckets that fit the request fits it, and the values listed there are keys of their facets.
use Rattle.std.proofs.Common.{◌≡◌, ℕ, zero, suc, List, [], ◌∷◌, Bool, true, false, cond, ◌&&◌, ◌==◌, Option, None, Some, refl, sym, ◌∙◌, ap, subst}
use Rattle.std.specs.List.{AllByRecursion}
use Rattle.std.specs.Option.{option_and_then}
use Rattle.std.proofs.lemmas.Bool.{false≢true, and_parts}
use Rattle.fc_spec.specs.requests.Request.{Terms, terms, Facet, Nodes, no_nodes, statistic, facet, Request, stats_of}
use Rattle.fc_spec.specs.requests.Buckets.{Key, value, missing, gap, before, between, after, whole, has_prefix, is_key_of}
use Rattle.fc_spec.specs.requests.Statistics.{Stats}
use Rattle.fc_spec.specs.requests.Paths.{at_root}
use Rattle.fc_spec.specs.requests.Shape.{holds_exclusion}
use Rattle.fc_spec.specs.messages.KeyOrder.{same_key}
use Rattle.fc_spec.specs.messages.Message.{Partials, no_partials, partial, Rows, no_rows, row, Way, Want, way_of, first, more}
use Rattle.fc_spec.specs.messages.MessageShape.{values_fit, count_fits, key_ascends, bucket_fits, buckets_fit, is_complete, rows_fit, insides_fit, top_fits, wants_fit}
use Rattle.fc_spec.specs.messages.Target.{Target, leads_nowhere, leads_to, target_nodes, target_in, target_from, target_of, facet_at, nodes_in}
use Rattle.fc_spec.specs.messages.Held.{HeldBucket, Told, told_wants, find_key, row_at, bucket_in, descend, behind, held_in, held, or_else, listed_value, listed_values}
use Rattle.fc_spec.specs.messages.Merged.{values_held}
use Rattle.fc_spec.specs.laws.LacksLaws.{IsFitting, ShapedAreFitting}
use Rattle.fc_spec.proofs.words.Members.{Every}
use Rattle.fc_spec.proofs.messages.Ways.{some_exact, none_not_some, target_from-append, behind_is}

-- the nodes where a step leads
pub stepped_nodes_are : (key : Key) (n : ℕ) (t : Target) → target_nodes (target_in key t (facet_at n (target_nodes t))) ≡ nodes_in (facet_at n (target_nodes t))
stepped_nodes_are key n leads_nowhere = refl
stepped_nodes_are key n (leads_to path nodes) = go (facet_at n nodes)
  where
    go : (o : Option (Facet × Nodes)) → target_nodes (target_in key (leads_to path nodes) o) ≡ nodes_in o
    go None = refl
    go (Some f) = refl

-- the values among keys of a terms facet begin with its prefix
listed_prefixed : (t : Terms) (inner : Nodes) (ps : Partials) (last : Option Key) → buckets_fit (terms t) inner ps last ≡ true → Every (has_prefix t.prefix) (listed_values ps)
listed_prefixed t inner no_partials last h = tt
listed_prefixed t inner (partial k stats rows rest) last h =
    let both = and_parts (bucket_fits (terms t) inner last k stats) (buckets_fit (terms t) inner rest (Some k)) h in
    let values = and_parts (key_ascends last k && is_key_of (terms t) k && count_fits (holds_exclusion inner) k stats) (values_fit (stats_of inner) stats.values) both.0 in
    let count = and_parts (key_ascends last k && is_key_of (terms t) k) (count_fits (holds_exclusion inner) k stats) values.0 in
    let own = and_parts (key_ascends last k) (is_key_of (terms t) k) count.0 in
    go k own.1 (listed_prefixed t inner rest (Some k) both.1)
  where
    go : (k : Key) → is_key_of (terms t) k ≡ true → Every (has_prefix t.prefix) (listed_values rest) → Every (has_prefix t.prefix) (listed_value k (listed_values rest))
    go (value v) own ih = (own, ih)
    go missing own ih = ih
    go (gap i) own ih = ih
    go before own ih = ih
    go between own ih = ih
    go after own ih = ih
    go whole own ih = ih

module _ (most : Terms → Option ℕ) where
  -- a bucket has these nodes, and rows that fit them
  abbrev pub Fits : Nodes → HeldBucket → Type 0
  Fits nodes b = (b.nodes ≡ nodes) × (rows_fit most b.rows b.nodes ≡ true)

  -- the row of a facet fits it; there is none of no facet
  abbrev pub RowFits : Option (Facet × Nodes) → Partials → Type 0
  RowFits None ps = ps ≡ no_partials
  RowFits (Some f) ps = (buckets_fit (f.0).kind f.1 ps None ≡ true) × (insides_fit most ps f.1 ≡ true)

  -- the parts of a row that fits
  row_parts : (f : Facet) (inner rest : Nodes) (ps : Partials) (rows : Rows) → rows_fit most (row ps rows) (facet f inner rest) ≡ true → RowFits (Some (f, inner)) ps × (rows_fit most rows rest ≡ true)
  row_parts f inner rest ps rows h =
      let others = and_parts (is_complete most f.kind ps && buckets_fit f.kind inner ps None && insides_fit most ps inner) (rows_fit most rows rest) h in
      let insides = and_parts (is_complete most f.kind ps && buckets_fit f.kind inner ps None) (insides_fit most ps inner) others.0 in
      let buckets = and_parts (is_complete most f.kind ps) (buckets_fit f.kind inner ps None) insides.0 in
      ((buckets.1, insides.1), others.1)

  pub row_fits_at : (n : ℕ) (nodes : Nodes) (rows : Rows) → rows_fit most rows nodes ≡ true → RowFits (facet_at n nodes) (row_at n nodes rows)
  row_fits_at n no_nodes rows h = refl
  row_fits_at zero (statistic name s rest) rows h = refl
  row_fits_at (suc n) (statistic name s rest) no_rows h = row_fits_at n rest no_rows h
  row_fits_at (suc n) (statistic name s rest) (row ps rows) h = row_fits_at n rest (row ps rows) h
  row_fits_at n (facet f inner rest) no_rows h = absurd (false≢true h)
  row_fits_at zero (facet f inner rest) (row ps rows) h = (row_parts f inner rest ps rows h).0
  row_fits_at (suc n) (facet f inner rest) (row ps rows) h = row_fits_at n rest rows (row_parts f inner rest ps rows h).1

  -- the bucket of a key fits
  find_fits : (nodes : Nodes) (key : Key) (ps : Partials) (b : HeldBucket) → insides_fit most ps nodes ≡ true → find_key nodes key ps ≡ Some b → Fits nodes b
  find_fits nodes key no_partials b h e = absurd (none_not_some b e)
  find_fits nodes key (partial k stats rows rest) b h e =
      let both = and_parts (rows_fit most rows nodes) (insides_fit most rest nodes) h in
      go (same_key key k) both.0 e (find_fits nodes key rest b both.1)
    where
      here : HeldBucket
      here = record { stats = stats; nodes = nodes; rows = rows }

      go : (c : Bool) → rows_fit most rows nodes ≡ true → cond c (Some here) (find_key nodes key rest) ≡ Some b → (find_key nodes key rest ≡ Some b → Fits nodes b) → Fits nodes b
      go true fit f ih = subst (Fits nodes) (some_exact here b f) (refl, fit)
      go false fit f ih = ih f

  step_fits : (n : ℕ) (key : Key) (nodes : Nodes) (b c : HeldBucket) → Fits nodes b → bucket_in n key b ≡ Some c → Fits (nodes_in (facet_at n nodes)) c
  step_fits n key nodes b c fit e = subst (λ ns. Fits (nodes_in (facet_at n ns)) c) fit.0 (go (facet_at n b.nodes) (row_fits_at n b.nodes b.rows fit.1) e)
    where
      go : (o : Option (Facet × Nodes)) → RowFits o (row_at n b.nodes b.rows) → find_key (nodes_in o) key (row_at n b.nodes b.rows) ≡ Some c → Fits (nodes_in o) c
      go None none f = absurd (none_not_some c (ap (find_key no_nodes key) (sym none) ∙ f))
      go (Some g) fits f = find_fits g.1 key (row_at n b.nodes b.rows) c fits.1 f

  -- so does what any way down leads to
  descend_fits : (way : Way) (t : Target) (b c : HeldBucket) → Fits (target_nodes t) b → descend way b ≡ Some c → Fits (target_nodes (target_from t way)) c
  descend_fits [] t b c fit e = subst (Fits (target_nodes t)) (some_exact b c e) fit
  descend_fits (step ∷ way) t b c fit e = go (bucket_in step.node step.key b) refl e (λ d. descend_fits way (target_in step.key t (facet_at step.node (target_nodes t))) d c)
    where
      next : Target
      next = target_in step.key t (facet_at step.node (target_nodes t))

      go : (o : Option HeldBucket) → bucket_in step.node step.key b ≡ o → option_and_then (descend way) o ≡ Some c → ((d : HeldBucket) → Fits (target_nodes next) d → descend way d ≡ Some c → Fits (target_nodes (target_from next way)) c) → Fits (target_nodes (target_from next way)) c
      go None at f ih = absurd (none_not_some c f)
      go (Some d) at f ih = ih d (subst (λ ns. Fits ns d) (sym (stepped_nodes_are step.key step.node t)) (step_fits step.node step.key (target_nodes t) b d fit at)) f

  held_in_fits : (r : Request) (t : Told) (way : Way) (b : HeldBucket) → IsFitting most r t → held_in t way ≡ Some b → Fits (target_nodes (target_of r.nodes way)) b
  held_in_fits r t way b fit h = go (behind t.way way) refl h
    where
      go : (o : Option Way) → behind t.way way ≡ o → option_and_then (λ rest. descend rest t.bucket) o ≡ Some b → Fits (target_nodes (target_of r.nodes way)) b
      go None e f = absurd (none_not_some b f)
      go (Some rest) e f =
          subst (λ w. Fits (target_nodes (target_of r.nodes w)) b) (sym (behind_is t.way way rest e))
          (subst (λ x. Fits (target_nodes x) b) (sym (target_from-append t.way rest (leads_to at_root r.nodes))) (descend_fits rest (target_of r.nodes t.way) t.bucket b (fit.nodes, fit.rows) f))

  -- what is held of fitting buckets fits
  pub held_fits : (r : Request) (A : List Told) (i : ℕ) (way : Way) (b : HeldBucket) → AllByRecursion (IsFitting most r) A → held A i way ≡ Some b → Fits (target_nodes (target_of r.nodes way)) b
  held_fits r [] i way b all h = absurd (none_not_some b h)
  held_fits r (t ∷ ts) i way b all h = go (t.shard == i) h (held_fits r ts i way b all.1)
    where
      here : (o : Option HeldBucket) → held_in t way ≡ o → or_else o (held ts i way) ≡ Some b → (held ts i way ≡ Some b → Fits (target_nodes (target_of r.nodes way)) b) → Fits (target_nodes (target_of r.nodes way)) b
      here None e k ih = ih k
      here (Some c) e k ih = held_in_fits r t way b all.0 (e ∙ k)

      go : (c : Bool) → or_else (cond c (held_in t way) None) (held ts i way) ≡ Some b → (held ts i way ≡ Some b → Fits (target_nodes (target_of r.nodes way)) b) → Fits (target_nodes (target_of r.nodes way)) b
      go true k ih = here (held_in t way) refl k ih
      go false k ih = ih k

  -- the values held of a terms facet begin with its prefix
  pub held_prefixed : (r : Request) (A : List Told) (way : Way) (n i : ℕ) (f : Facet) (t : Terms) (inner : Nodes) → AllByRecursion (IsFitting most r) A → facet_at n (target_nodes (target_of r.nodes way)) ≡ Some (f, inner) → f.kind ≡ terms t
      → Every (has_prefix t.prefix) (values_held n (held A i way))
  held_prefixed r A way n i f t inner all at kind = go (held A i way) refl
    where
      go : (o : Option HeldBucket) → held A i way ≡ o → Every (has_prefix t.prefix) (values_held n o)
      go None e = tt
      go (Some b) e =
          let fit = held_fits r A i way b all e in
          let row = subst (λ o. RowFits o (row_at n b.nodes b.rows)) (ap (facet_at n) fit.0 ∙ at) (row_fits_at n b.nodes b.rows fit.1) in
          listed_prefixed t inner (row_at n b.nodes b.rows) None (subst (λ k. buckets_fit k inner (row_at n b.nodes b.rows) None ≡ true) kind row.0)

  top_rows : (key : Key) (nodes : Nodes) (k : Key) (stats : Stats) (rows : Rows) → top_fits most key nodes k stats rows ≡ true → rows_fit most rows nodes ≡ true
  top_rows key nodes k stats rows h =
      (and_parts (same_key key k && values_fit (stats_of nodes) stats.values) (rows_fit most rows nodes) h).1

  wants_are_fitting : (r : Request) (i : ℕ) (ws : List Want) (m : Partials) → wants_fit most r.nodes ws m ≡ true → AllByRecursion (IsFitting most r) (told_wants r.nodes i ws m)
  wants_are_fitting r i [] m h = tt
  wants_are_fitting r i (w ∷ ws) no_partials h = tt
  wants_are_fitting r i (w ∷ ws) (partial k stats rows rest) h =
      let nodes = target_nodes (target_of r.nodes (way_of w)) in
      let both = and_parts (top_fits most w.key nodes k stats rows) (wants_fit most r.nodes ws rest) h in
      (record { nodes = refl; rows = top_rows w.key nodes k stats rows both.0 }, wants_are_fitting r i ws rest both.1)

pub shaped_are_fitting : ShapedAreFitting
shaped_are_fitting most r i first no_partials h = tt
shaped_are_fitting most r i first (partial k stats rows no_partials) h = (record { nodes = refl; rows = top_rows most whole r.nodes k stats rows h }, tt)
shaped_are_fitting most r i first (partial k stats rows (partial l more_stats more_rows rest)) h = absurd (false≢true h)
shaped_are_fitting most r i (more ws) m h = wants_are_fitting most r i ws m h
