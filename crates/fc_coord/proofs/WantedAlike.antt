-- What is wanted down to a depth is the same where more is told of deeper buckets.
use Rattle.std.proofs.Common.{◌≡◌, ℕ, zero, suc, ◌+◌, ◌≤◌, List, [], ◌∷◌, ◌++◌, map, Bool, true, false, cond, ◌||◌, ◌==◌, Option, None, Some, is_some, refl, sym, ◌∙◌, ap, inl, inr, arith}
use Rattle.std.specs.List.{filter, flat_map, enumerate_from}
use Rattle.std.proofs.lemmas.Bool.{false≢true}
use Rattle.fc_spec.specs.documents.Val.{Val, has_val, same_val, distinct}
use Rattle.fc_spec.specs.requests.Request.{Stat, Terms, Kind, terms, range, date_range, query, Facet, Nodes, no_nodes, statistic, facet, Request, stats_of}
use Rattle.fc_spec.specs.requests.Buckets.{Key, value}
use Rattle.fc_spec.specs.requests.Paths.{at_root}
use Rattle.fc_spec.specs.requests.Ranks.{Entry, below_rank}
use Rattle.fc_spec.specs.requests.Statistics.{Stats, combined_value}
use Rattle.fc_spec.specs.requests.Shape.{asks_again, counts_all}
use Rattle.fc_spec.specs.replies.Reading.{stats_on}
use Rattle.fc_spec.specs.replies.Chosen.{candidates, offering, entry_on, chosen, chosen_bound, known}
use Rattle.fc_spec.specs.replies.Printed.{terms_keys}
use Rattle.fc_spec.specs.replies.Distributed.{printed_keys, carried}
use Rattle.fc_spec.specs.messages.KeyOrder.{same_key}
use Rattle.fc_spec.specs.messages.Message.{Partials, no_partials, partial, Way}
use Rattle.fc_spec.specs.messages.Target.{leads_to, facet_at, nodes_in}
use Rattle.fc_spec.specs.messages.Held.{HeldBucket, Told, held, find_key, row_at, listed_value, listed_values}
use Rattle.fc_spec.specs.messages.Merged.{held_count, held_value, count_held, value_held, values_held, over_held}
use Rattle.fc_spec.specs.messages.Lacks.{want_of, each_of, facet_wanted, wanted, own_depth}
use Rattle.fc_spec.specs.laws.LacksLaws.{step_depth, way_depth}
use Rattle.fc_spec.proofs.documents.ValOrder.{same_val_exact}
use Rattle.fc_spec.proofs.words.Members.{Member, filter_member}
use Rattle.fc_spec.proofs.messages.Keys.{same_key_itself}
use Rattle.fc_spec.proofs.messages.HeldFurther.{step_to, held_below}
use Rattle.fc_spec.proofs.messages.KnownBuckets.{nodes_of}
use Rattle.fc_spec.proofs.messages.NextBuckets.{next_nodes}
use Rattle.fc_spec.proofs.messages.PrintedAgree.{node_at}
use Rattle.fc_spec.proofs.messages.LacksDeep.{depth-append}
use Rattle.fc_spec.proofs.messages.Merges.{under_held, wanted_held, AreFrom, from_start, facet_first, after_facet, after_statistic}

-- ---- a listed value has a bucket

listed_found : (nodes : Nodes) (v : Val) (ps : Partials) → has_val v (listed_values ps) ≡ true → is_some (find_key nodes (value v) ps) ≡ true
listed_found nodes v no_partials h = absurd (false≢true h)
listed_found nodes v (partial k stats rows rest) h = go (same_key (value v) k) refl (listed_found nodes v rest)
  where
    later : (l : Key) → same_key (value v) l ≡ false → has_val v (listed_value l (listed_values rest)) ≡ true → has_val v (listed_values rest) ≡ true
    later (value w) e there = own (same_val v w) refl there
      where
        own : (b : Bool) → same_val v w ≡ b → has_val v (w ∷ listed_values rest) ≡ true → has_val v (listed_values rest) ≡ true
        own true s t = absurd (false≢true (sym e ∙ ap (λ x. same_key (value v) (value x)) (sym (same_val_exact v w s)) ∙ same_key_itself (value v)))
        own false s t = ap (λ b. b || has_val v (listed_values rest)) (sym s) ∙ t
    later _ e there = there

    go : (b : Bool) → same_key (value v) k ≡ b → (has_val v (listed_values rest) ≡ true → is_some (find_key nodes (value v) rest) ≡ true)
        → is_some (cond b (Some (record { stats = stats; nodes = nodes; rows = rows })) (find_key nodes (value v) rest)) ≡ true
    go true e ih = refl
    go false e ih = ih (later k e h)

offered_held : (A : List Told) (i n : ℕ) (way : Way) (v : Val) → has_val v (values_held n (held A i way)) ≡ true → is_some (held A i (way ++ step_to n (value v))) ≡ true
offered_held A i n way v h = go (held A i way) refl h
  where
    go : (o : Option HeldBucket) → held A i way ≡ o → has_val v (values_held n o) ≡ true → is_some (held A i (way ++ step_to n (value v))) ≡ true
    go None e k = absurd (false≢true k)
    go (Some b) e k = held_below A i way n (value v) b e (listed_found (nodes_in (facet_at n b.nodes)) v (row_at n b.nodes b.rows) k)

-- ---- of shards of which the same is held

module _ (A C : List Told) where
  SameOn : List ℕ → Way → Type 0
  SameOn H way = (i : ℕ) → Member i H → held A i way ≡ held C i way

  counts_alike : (H : List ℕ) (way : Way) → ((i : ℕ) → Member i H → held A i way ≡ held C i way) → count_held A H way ≡ count_held C H way
  counts_alike [] way same = refl
  counts_alike (i ∷ H) way same = λ j. held_count (same i (inl refl) j) + counts_alike H way (λ k m. same k (inr m)) j

  values_alike : (m : ℕ) (s : Stat) (H : List ℕ) (way : Way) → ((i : ℕ) → Member i H → held A i way ≡ held C i way) → value_held A m s H way ≡ value_held C m s H way
  values_alike m s [] way same = refl
  values_alike m s (i ∷ H) way same = λ j. combined_value s.of (held_value m s (same i (inl refl) j)) (values_alike m s H way (λ k n. same k (inr n)) j)

  stats_alike : (ss : List Stat) (H : List ℕ) (way : Way) → ((i : ℕ) → Member i H → held A i way ≡ held C i way) → stats_on (over_held A) ss H way ≡ stats_on (over_held C) ss H way
  stats_alike ss H way same = λ j. record { count = counts_alike H way same j; values = map (λ s. values_alike s.0 s.1 H way same j) (enumerate_from 0 ss) }

-- ---- down to a depth the same is held, and deeper whatever the first holds

module _ (A C : List Told) (r : Request) (e : ℕ) (shallow : (i : ℕ) (way : Way) → way_depth r.nodes way ≤ e → held A i way ≡ held C i way) (still : (i : ℕ) (way : Way) → is_some (held A i way) ≡ true → held A i way ≡ held C i way) where
  offering_alike : (t : Terms) (inner : Nodes) (H : List ℕ) (way : Way) (n : ℕ) (v : Val) → way_depth r.nodes way ≤ e → offering (over_held A) t inner H (node_at way n) v ≡ offering (over_held C) t inner H (node_at way n) v
  offering_alike t inner H way n v le = λ j. filter (λ i. has_val v (values_held n (shallow i way le j))) H

  candidates_alike : (t : Terms) (inner : Nodes) (H : List ℕ) (way : Way) (n : ℕ) → way_depth r.nodes way ≤ e → candidates (over_held A) t inner H (node_at way n) ≡ candidates (over_held C) t inner H (node_at way n)
  candidates_alike t inner H way n le = λ j. distinct (flat_map (λ i. values_held n (shallow i way le j)) H)

  -- over the shards that offer a value
  entry_alike : (t : Terms) (inner : Nodes) (H : List ℕ) (way : Way) (n : ℕ) (v : Val) → way_depth r.nodes way ≤ e
      → entry_on (over_held A) t inner H (node_at way n) (offering (over_held A) t inner H (node_at way n) v) v ≡ entry_on (over_held C) t inner H (node_at way n) (offering (over_held C) t inner H (node_at way n) v) v
  entry_alike t inner H way n v le =
      let own = λ (i : ℕ) (m : Member i (offering (over_held A) t inner H (node_at way n) v)). still i (way ++ step_to n (value v)) (offered_held A i n way v (filter_member (λ k. has_val v (values_held n (held A k way))) H i m).1) in
      ap (λ (s : Stats). record { val = v; stats = s }) (stats_alike A C (stats_of inner) (offering (over_held A) t inner H (node_at way n) v) (way ++ step_to n (value v)) own)
      ∙ ap (λ K. entry_on (over_held C) t inner H (node_at way n) K v) (offering_alike t inner H way n v le)

  chosen_alike : (t : Terms) (inner : Nodes) (H : List ℕ) (way : Way) (n : ℕ) → way_depth r.nodes way ≤ e → chosen (over_held A) t inner H (node_at way n) ≡ chosen (over_held C) t inner H (node_at way n)
  chosen_alike t inner H way n le = λ j. map (λ (w : Entry). w.val) (below_rank t.sort (chosen_bound t) (map (λ v. entry_alike t inner H way n v le j) (candidates_alike t inner H way n le j)))

  known_alike : (t : Terms) (inner : Nodes) (H : List ℕ) (way : Way) (n : ℕ) (v : Val) → way_depth r.nodes way ≤ e → known (over_held A) t inner H (node_at way n) v ≡ known (over_held C) t inner H (node_at way n) v
  known_alike t inner H way n v le = λ j. cond (counts_all t inner) H (offering_alike t inner H way n v le j)

  -- the buckets of the facet too
  known_entry_alike : (t : Terms) (inner : Nodes) (H : List ℕ) (way : Way) (n : ℕ) (v : Val) → way_depth r.nodes way ≤ e → way_depth r.nodes (way ++ step_to n (value v)) ≤ e
      → entry_on (over_held A) t inner H (node_at way n) (known (over_held A) t inner H (node_at way n) v) v ≡ entry_on (over_held C) t inner H (node_at way n) (known (over_held C) t inner H (node_at way n) v) v
  known_entry_alike t inner H way n v le deeper =
      ap (λ (s : Stats). record { val = v; stats = s }) (stats_alike A C (stats_of inner) (known (over_held A) t inner H (node_at way n) v) (way ++ step_to n (value v)) (λ i m. shallow i (way ++ step_to n (value v)) deeper))
      ∙ ap (λ K. entry_on (over_held C) t inner H (node_at way n) K v) (known_alike t inner H way n v le)

  keys_alike : (kind : Kind) (inner : Nodes) (H : List ℕ) (way : Way) (n : ℕ) → way_depth r.nodes way ≤ e → ((key : Key) → way_depth r.nodes (way ++ step_to n key) ≤ e) → printed_keys (over_held A) kind inner H (node_at way n) ≡ printed_keys (over_held C) kind inner H (node_at way n)
  keys_alike (terms t) inner H way n le deeper = λ j. terms_keys t (map (λ v. known_entry_alike t inner H way n v le (deeper (value v)) j) (chosen_alike t inner H way n le j))
  keys_alike (range g) inner H way n le deeper = refl
  keys_alike (date_range g) inner H way n le deeper = refl
  keys_alike (query q) inner H way n le deeper = refl

  carried_alike : (kind : Kind) (inner : Nodes) (H : List ℕ) (way : Way) (n : ℕ) (key : Key) → way_depth r.nodes way ≤ e → carried (over_held A) kind inner H (node_at way n) key ≡ carried (over_held C) kind inner H (node_at way n) key
  carried_alike (terms t) inner H way n (value v) le = known_alike t inner H way n v le
  carried_alike _ inner H way n key le = refl

  depth_more : (way : Way) (n : ℕ) (f : Facet) (inner : Nodes) (key : Key) → facet_at n (nodes_of r way) ≡ Some (f, inner) → way_depth r.nodes (way ++ step_to n key) ≡ way_depth r.nodes way + own_depth f.kind
  depth_more way n f inner key at =
      let sum = depth-append way (step_to n key) (leads_to at_root r.nodes) in
      let own : step_depth (facet_at n (nodes_of r way)) ≡ own_depth f.kind = ap step_depth at in
      let one : way_depth (nodes_of r way) (step_to n key) ≡ step_depth (facet_at n (nodes_of r way)) = omega arith in
      sum ∙ ap (λ d. way_depth r.nodes way + d) (one ∙ own)

  -- under the buckets of a facet, where it is so in each
  abbrev Inside : Nodes → Type 0
  Inside inner = (d : ℕ) (H : List ℕ) (way : Way) → AreFrom r [] way 0 0 inner → way_depth r.nodes way + d ≤ e → wanted (over_held A) d inner 0 H way way ≡ wanted (over_held C) d inner 0 H way way

  under_alike : (way : Way) (n : ℕ) (f : Facet) (inner : Nodes) (H : List ℕ) (d : ℕ) → facet_at n (nodes_of r way) ≡ Some (f, inner) → Inside inner → way_depth r.nodes way + own_depth f.kind + d ≤ e
      → under_held A f.kind inner n H way d ≡ under_held C f.kind inner n H way d
  under_alike way n f inner H d at inside bound =
      let le : way_depth r.nodes way ≤ e = omega arith in
      let each = λ (k : Key). inside d (carried (over_held A) f.kind inner H (node_at way n) k) (way ++ step_to n k) (from_start r [] (way ++ step_to n k) inner (next_nodes r way n f inner k at)) (let more = depth_more way n f inner k at in omega arith)
      ∙ ap (λ K. wanted (over_held C) d inner 0 K (way ++ step_to n k) (way ++ step_to n k)) (carried_alike f.kind inner H way n k le) in
      let keys = keys_alike f.kind inner H way n le (λ k. let more = depth_more way n f inner k at in omega arith) in
      λ j. flat_map (λ k. each k j) (keys j)

  at_alike : (way : Way) (n : ℕ) (f : Facet) (kind : Kind) (inner : Nodes) (H : List ℕ) (d : ℕ) → f.kind ≡ kind → facet_at n (nodes_of r way) ≡ Some (f, inner) → Inside inner → way_depth r.nodes way + d ≤ e → wanted_held A kind inner n H way d ≡ wanted_held C kind inner n H way d
  at_alike way n f (terms t) inner H zero is at inside bound =
      let le : way_depth r.nodes way ≤ e = omega arith in
      λ j. cond (asks_again t inner) (flat_map (λ v. each_of H (want_of way n (value v))) (chosen_alike t inner H way n le j)) []
  at_alike way n f (terms t) inner H (suc d) is at inside bound =
      let own = ap own_depth is in
      ap (λ k. under_held A k inner n H way d) (sym is) ∙ under_alike way n f inner H d at inside (omega arith) ∙ ap (λ k. under_held C k inner n H way d) is
  at_alike way n f (range g) inner H d is at inside bound =
      let own = ap own_depth is in
      ap (λ k. under_held A k inner n H way d) (sym is) ∙ under_alike way n f inner H d at inside (omega arith) ∙ ap (λ k. under_held C k inner n H way d) is
  at_alike way n f (date_range g) inner H d is at inside bound =
      let own = ap own_depth is in
      ap (λ k. under_held A k inner n H way d) (sym is) ∙ under_alike way n f inner H d at inside (omega arith) ∙ ap (λ k. under_held C k inner n H way d) is
  at_alike way n f (query q) inner H d is at inside bound =
      let own = ap own_depth is in
      ap (λ k. under_held A k inner n H way d) (sym is) ∙ under_alike way n f inner H d at inside (omega arith) ∙ ap (λ k. under_held C k inner n H way d) is

  -- for the nodes of a bucket, from some node on
  pub wanted_alike : (nodes : Nodes) (d n m : ℕ) (H : List ℕ) (way : Way) → AreFrom r [] way n m nodes → way_depth r.nodes way + d ≤ e → wanted (over_held A) d nodes n H way way ≡ wanted (over_held C) d nodes n H way way
  wanted_alike no_nodes d n m H way from bound = refl
  wanted_alike (statistic name s rest) d n m H way from bound = wanted_alike rest d (suc n) (suc m) H way (after_statistic r [] way n m name s rest from) bound
  wanted_alike (facet f inner rest) d n m H way from bound =
      let le : way_depth r.nodes way ≤ e = omega arith in
      let count = counts_alike A C H way (λ i x. shallow i way le) in
      let here = at_alike way n f f.kind inner H d refl (facet_first r [] way n m f inner rest from) (λ c K w fr b. wanted_alike inner c 0 0 K w fr b) bound in
      let later = wanted_alike rest d (suc n) m H way (after_facet r [] way n m f inner rest from) bound in
      λ j. facet_wanted (count j == 0) f (here j) ++ later j
