-- What each message tells of one exact facet: for some values, the count on its shard.
use Rattle.std.proofs.Common.{◌≡◌, ℕ, zero, suc, ◌+◌, ◌<◌, List, [], ◌∷◌, ◌++◌, map, length, Bool, true, false, cond, ◌&&◌, ◌||◌, ◌==◌, Option, None, Some, is_none, is_some, refl, sym, ◌∙◌, ap, subst, append-nil, arith}
use Rattle.std.specs.Prelude.{if◌then◌else◌, nat_le}
use Rattle.std.specs.List.{filter, flat_map, list_any, AllByRecursion}
use Rattle.std.proofs.lemmas.Bool.{false≢true, eqb-true, eq-eqb, ne_eqb}
use Rattle.std.proofs.lemmas.List.{map-append}
use Rattle.std.proofs.lemmas.List.Elements.{filter-append}
use Rattle.fc_spec.specs.documents.Val.{Val, same_val, has_val, distinct}
use Rattle.fc_spec.specs.documents.World.{World, Place}
use Rattle.fc_spec.specs.requests.Request.{Terms, terms, Facet, Nodes, no_nodes, statistic, facet, Request, stats_of}
use Rattle.fc_spec.specs.requests.Base.{root_domain}
use Rattle.fc_spec.specs.requests.Paths.{at_root, into, domain}
use Rattle.fc_spec.specs.requests.Buckets.{Key, value, missing, in_bucket, bucket_places}
use Rattle.fc_spec.specs.requests.Paths.{at_root}
use Rattle.fc_spec.specs.requests.Statistics.{Stats, stats_over}
use Rattle.fc_spec.specs.requests.Ranks.{Entry}
use Rattle.fc_spec.specs.replies.Printed.{asked}
use Rattle.fc_spec.specs.replies.Values.{value_places, entries_in}
use Rattle.fc_spec.specs.replies.Reading.{offered}
use Rattle.fc_spec.specs.replies.Tops.{values_from}
use Rattle.fc_spec.specs.messages.Message.{Partials, no_partials, Rows, no_rows, row, Want}
use Rattle.fc_spec.specs.messages.Target.{facet_at, target_of, target_in, target_places, leads_to}
use Rattle.fc_spec.specs.messages.Held.{listed_value, or_else}
use Rattle.fc_spec.specs.messages.Answer.{not_empty, partials_of, answer_domain, answer_keys, answer_rows, answer_wants}
use Rattle.fc_spec.specs.messages.TopRounds.{ToldCount, first_number, later_numbers, ExactAsk, exact_first, exact_least, exact_more, exact_answer, exact_told, least_keys, least_rows, entry_at, listed_entries, tell, told_rows, told_wanted, ExactSent, exact_told_in, values_told, count_told, least_asked, leasts_from, wants_at, wants_from}
use Rattle.fc_spec.specs.laws.TopRoundsLaw.{AreTopNodes}
use Rattle.fc_spec.proofs.documents.ValOrder.{same_val_exact}
use Rattle.fc_spec.proofs.requests.Locality.{domain_local, filter-filter, filter_twice}
use Rattle.fc_spec.proofs.documents.Shards.{is_on}
use Rattle.fc_spec.proofs.messages.Ways.{none_not_some, some_exact}
use Rattle.fc_spec.proofs.messages.HeldFurther.{all_append}
use Rattle.fc_spec.proofs.messages.HeldAnswers.{part, listed_for}
use Rattle.fc_spec.proofs.messages.OfferedHeld.{key_values, key_values-values, no_value_missing, key_values-answer_keys, offered_local}

-- what is told of the n-th facet
abbrev pub of_node : ℕ → List ToldCount → List ToldCount
of_node n A = filter (λ a. a.node == n) A

-- ---- rows

abbrev nth_row : ℕ → Rows → Partials
nth_row n no_rows = no_partials
nth_row zero (row ps rest) = ps
nth_row (suc n) (row ps rest) = nth_row n rest

tells_own : (n k i : ℕ) (es : List Entry) → (k == n) ≡ true → of_node n (map (tell k i) es) ≡ map (tell k i) es
tells_own n k i [] e = refl
tells_own n k i (x ∷ es) e = ap (λ b. cond b (tell k i x ∷ of_node n (map (tell k i) es)) (of_node n (map (tell k i) es))) e ∙ ap (λ ts. tell k i x ∷ ts) (tells_own n k i es e)

tells_none : (n k i : ℕ) (es : List Entry) → (k == n) ≡ false → of_node n (map (tell k i) es) ≡ []
tells_none n k i [] e = refl
tells_none n k i (x ∷ es) e = ap (λ b. cond b (tell k i x ∷ of_node n (map (tell k i) es)) (of_node n (map (tell k i) es))) e ∙ tells_none n k i es e

-- rows from a later one on tell nothing of an earlier
rows_after : (n k i : ℕ) (rows : Rows) → n < k → of_node n (told_rows k i rows) ≡ []
rows_after n k i no_rows h = refl
rows_after n k i (row ps rest) h =
    filter-append (λ a. a.node == n) (map (tell k i) (listed_entries ps)) (told_rows (suc k) i rest)
    ∙ ap (λ ts. ts ++ of_node n (told_rows (suc k) i rest)) (tells_none n k i (listed_entries ps) (ne_eqb k n (λ e. omega arith))) ∙ rows_after n (suc k) i rest (omega arith)

pub rows_of_node : (k n i : ℕ) (rows : Rows) → of_node (k + n) (told_rows k i rows) ≡ map (tell (k + n) i) (listed_entries (nth_row n rows))
rows_of_node k n i no_rows = refl
rows_of_node k zero i (row ps rest) =
    let same : k + 0 ≡ k = omega arith in
    subst (λ j. of_node j (told_rows k i (row ps rest)) ≡ map (tell j i) (listed_entries ps)) (sym same)
    (filter-append (λ a. a.node == k) (map (tell k i) (listed_entries ps)) (told_rows (suc k) i rest)
    ∙ ap (λ ts. ts ++ of_node k (told_rows (suc k) i rest)) (tells_own k k i (listed_entries ps) (eq-eqb k k refl))
    ∙ ap (λ ts. map (tell k i) (listed_entries ps) ++ ts) (rows_after k (suc k) i rest (omega arith)) ∙ append-nil (map (tell k i) (listed_entries ps)))
rows_of_node k (suc n) i (row ps rest) =
    let same : k + suc n ≡ suc k + n = omega arith in
    filter-append (λ a. a.node == k + suc n) (map (tell k i) (listed_entries ps)) (told_rows (suc k) i rest)
    ∙ ap (λ ts. ts ++ of_node (k + suc n) (told_rows (suc k) i rest)) (tells_none (k + suc n) k i (listed_entries ps) (ne_eqb k (k + suc n) (λ e. omega arith)))
    ∙ subst (λ j. of_node j (told_rows (suc k) i rest) ≡ map (tell j i) (listed_entries (nth_row n rest))) (sym same) (rows_of_node (suc k) n i rest)

-- ---- lists of buckets

entry_listed : (stats : Key → Stats) (key : Key) (later : List Entry) (vs : List Val) → later ≡ map (λ v. record { val = v; stats = stats (value v) }) vs → entry_at key (stats key) later ≡ map (λ v. record { val = v; stats = stats (value v) }) (listed_value key vs)
entry_listed stats (value v) later vs e = ap (λ es. record { val = v; stats = stats (value v) } ∷ es) e
entry_listed stats _ later vs e = e

-- one bucket for each key gives one entry for each value
entries-partials_of : (stats : Key → Stats) (rows : Key → Rows) (keys : List Key) → listed_entries (partials_of stats rows keys) ≡ map (λ v. record { val = v; stats = stats (value v) }) (key_values keys)
entries-partials_of stats rows [] = refl
entries-partials_of stats rows (k ∷ ks) = entry_listed stats k (listed_entries (partials_of stats rows ks)) (key_values ks) (entries-partials_of stats rows ks)

-- ---- answers

-- of facets alone the n-th row is that of the n-th facet
answer_row : (r : Request) (W : World) (i n : ℕ) (nodes : Nodes) (X : List Place) → AreTopNodes nodes → nth_row n (answer_rows r W i at_root nodes X) ≡ listed_for r W i at_root X (facet_at n nodes)
answer_row r W i n no_nodes X h = refl
answer_row r W i n (statistic name s rest) X h = absurd h
answer_row r W i zero (facet f inner rest) X h = refl
answer_row r W i (suc n) (facet f inner rest) X h = answer_row r W i n rest X h.2

-- a list of counts from some place on
abbrev pub number_at : ℕ → List ℕ → ℕ
number_at zero ns = first_number ns
number_at (suc n) ns = number_at n (later_numbers ns)

abbrev least_for : Request → World → ℕ → List Place → ℕ → Option (Facet × Nodes) → Partials
least_for r W i X count None = no_partials
least_for r W i X count (Some f) =
    partials_of (λ k. stats_over (stats_of f.1) (bucket_places (f.0).kind k (answer_domain r W i at_root f.0 X))) (λ k. answer_rows r W i (into at_root f.0 k) f.1 (bucket_places (f.0).kind k (answer_domain r W i at_root f.0 X)))
    (least_keys (f.0).kind f.1 count (answer_domain r W i at_root f.0 X) i)

least_row : (r : Request) (W : World) (i n : ℕ) (nodes : Nodes) (ns : List ℕ) (X : List Place) → AreTopNodes nodes → nth_row n (least_rows r W i nodes ns X) ≡ least_for r W i X (number_at n ns) (facet_at n nodes)
least_row r W i n no_nodes ns X h = refl
least_row r W i n (statistic name s rest) ns X h = absurd h
least_row r W i zero (facet f inner rest) ns X h = refl
least_row r W i (suc n) (facet f inner rest) ns X h = least_row r W i n rest (later_numbers ns) X h.2

-- the counts that shards are asked for
pub number-leasts_from : (A : List ToldCount) (H : List ℕ) (nodes : Nodes) (k n : ℕ) (f : Facet) (inner : Nodes) → AreTopNodes nodes → facet_at n nodes ≡ Some (f, inner) → number_at n (leasts_from A H nodes k) ≡ least_asked A H (k + n) f.kind
number-leasts_from A H no_nodes k n f inner h at = absurd (none_not_some (f, inner) at)
number-leasts_from A H (statistic name s rest) k n f inner h at = absurd h
number-leasts_from A H (facet g more rest) k zero f inner h at =
    let same : g ≡ f = ap (λ (p : Facet × Nodes). p.0) (some_exact (g, more) (f, inner) at) in
    let j : k ≡ k + 0 = omega arith in
    λ x. least_asked A H (j x) (same x).kind
number-leasts_from A H (facet g more rest) k (suc n) f inner h at =
    number-leasts_from A H rest (suc k) n f inner h.2 at ∙ ap (λ j. least_asked A H j f.kind) (omega arith)

-- ---- wants

-- the values that are wanted of the n-th facet
abbrev pub wanted_of : ℕ → List Want → List Val
wanted_of n [] = []
wanted_of n (w ∷ ws) = if w.node == n then listed_value w.key (wanted_of n ws) else wanted_of n ws

-- a value of a facet of the root
abbrev pub IsPlain : Want → Type 0
IsPlain w = (v : Val) × (w ≡ record { path = []; node = w.node; key = value v })

plain_at : (A : List ToldCount) (i n : ℕ) (vs : List Val) → AllByRecursion IsPlain (map (λ v. record { path = []; node = n; key = value v }) vs)
plain_at A i n [] = tt
plain_at A i n (v ∷ vs) = ((v, refl), plain_at A i n vs)

pub plain_from : (A : List ToldCount) (i : ℕ) (nodes : Nodes) (n : ℕ) → AllByRecursion IsPlain (wants_from A i nodes n)
plain_from A i no_nodes n = tt
plain_from A i (statistic name s rest) n = plain_from A i rest n
plain_from A i (facet f inner rest) n = all_append IsPlain (wants_at A i n) (wants_from A i rest (suc n)) (plain_at A i n (filter (λ v. is_none (count_told A n v i)) (values_told A n))) (plain_from A i rest (suc n))

wanted_of-append : (n : ℕ) (xs ys : List Want) → AllByRecursion IsPlain xs → wanted_of n (xs ++ ys) ≡ wanted_of n xs ++ wanted_of n ys
wanted_of-append n [] ys h = refl
wanted_of-append n (w ∷ ws) ys h = go (w.node == n) (wanted_of-append n ws ys h.1)
  where
    go : (b : Bool) → wanted_of n (ws ++ ys) ≡ wanted_of n ws ++ wanted_of n ys
        → cond b (listed_value w.key (wanted_of n (ws ++ ys))) (wanted_of n (ws ++ ys)) ≡ cond b (listed_value w.key (wanted_of n ws)) (wanted_of n ws) ++ wanted_of n ys
    go true e = subst (λ k. listed_value k (wanted_of n (ws ++ ys)) ≡ listed_value k (wanted_of n ws) ++ wanted_of n ys) (sym (ap (λ (u : Want). u.key) h.0.1)) (ap (λ vs. h.0.0 ∷ vs) e)
    go false e = e

wanted_own : (n k : ℕ) (vs : List Val) → (k == n) ≡ true → wanted_of n (map (λ v. record { path = []; node = k; key = value v }) vs) ≡ vs
wanted_own n k [] e = refl
wanted_own n k (v ∷ vs) e =
    let later = wanted_of n (map (λ v. record { path = []; node = k; key = value v }) vs) in
    ap (λ b. cond b (v ∷ later) later) e ∙ ap (λ ws. v ∷ ws) (wanted_own n k vs e)

wanted_none : (n k : ℕ) (vs : List Val) → (k == n) ≡ false → wanted_of n (map (λ v. record { path = []; node = k; key = value v }) vs) ≡ []
wanted_none n k [] e = refl
wanted_none n k (v ∷ vs) e =
    let later = wanted_of n (map (λ v. record { path = []; node = k; key = value v }) vs) in
    ap (λ b. cond b (v ∷ later) later) e ∙ wanted_none n k vs e

wanted_after : (A : List ToldCount) (i : ℕ) (nodes : Nodes) (k n : ℕ) → n < k → wanted_of n (wants_from A i nodes k) ≡ []
wanted_after A i no_nodes k n h = refl
wanted_after A i (statistic name s rest) k n h = wanted_after A i rest k n h
wanted_after A i (facet f inner rest) k n h =
    wanted_of-append n (wants_at A i k) (wants_from A i rest (suc k)) (plain_at A i k (filter (λ v. is_none (count_told A k v i)) (values_told A k)))
    ∙ ap (λ vs. vs ++ wanted_of n (wants_from A i rest (suc k))) (wanted_none n k (filter (λ v. is_none (count_told A k v i)) (values_told A k)) (ne_eqb k n (λ e. omega arith))) ∙ wanted_after A i rest (suc k) n (omega arith)

-- the values that a shard lacks of it
abbrev pub lacking : List ToldCount → ℕ → ℕ → List Val
lacking A i n = filter (λ v. is_none (count_told A n v i)) (values_told A n)

pub wanted-wants_from : (A : List ToldCount) (i : ℕ) (nodes : Nodes) (k n : ℕ) → AreTopNodes nodes → is_some (facet_at n nodes) ≡ true → wanted_of (k + n) (wants_from A i nodes k) ≡ lacking A i (k + n)
wanted-wants_from A i no_nodes k n h at = absurd (false≢true at)
wanted-wants_from A i (statistic name s rest) k n h at = absurd h
wanted-wants_from A i (facet f inner rest) k zero h at =
    subst (λ j. wanted_of j (wants_from A i (facet f inner rest) k) ≡ lacking A i j) (let j : k ≡ k + 0 = omega arith in j)
    (wanted_of-append k (wants_at A i k) (wants_from A i rest (suc k)) (plain_at A i k (lacking A i k))
    ∙ ap (λ vs. vs ++ wanted_of k (wants_from A i rest (suc k))) (wanted_own k k (lacking A i k) (eq-eqb k k refl)) ∙ ap (λ vs. lacking A i k ++ vs) (wanted_after A i rest (suc k) k (omega arith)) ∙ append-nil (lacking A i k))
wanted-wants_from A i (facet f inner rest) k (suc n) h at =
    wanted_of-append (k + suc n) (wants_at A i k) (wants_from A i rest (suc k)) (plain_at A i k (lacking A i k))
    ∙ ap (λ vs. vs ++ wanted_of (k + suc n) (wants_from A i rest (suc k))) (wanted_none (k + suc n) k (lacking A i k) (ne_eqb k (k + suc n) (λ e. omega arith)))
    ∙ subst (λ j. wanted_of j (wants_from A i rest (suc k)) ≡ lacking A i j) (let j : suc k + n ≡ k + suc n = omega arith in j) (wanted-wants_from A i rest (suc k) n h.2 at)

-- ---- one facet

module _ (r : Request) (W : World) (n : ℕ) (f : Facet) (t : Terms) (top : AreTopNodes r.nodes) (at : facet_at n r.nodes ≡ Some (record { name = f.name; change = f.change; kind = terms t }, no_nodes)) where
  abbrev g : Facet
  g = record { name = f.name; change = f.change; kind = terms t }

  abbrev pub Y : List Place
  Y = domain r W at_root f.change (root_domain r W)

  -- the count of a value on a shard, as it is told
  abbrev pub count_there : ℕ → Val → ℕ
  count_there i v = length (value_places t v (part i Y))

  abbrev pub as_told : ℕ → Val → ToldCount
  as_told i v = record { node = n; shard = i; val = v; count = count_there i v }

  abbrev own_domain : ℕ → List Place
  own_domain i = answer_domain r W i at_root g (part i (root_domain r W))

  own_domain_is : (i : ℕ) → own_domain i ≡ part i Y
  own_domain_is i = domain_local r W at_root f.change (i ∷ []) (root_domain r W)

  own_part : (i : ℕ) → part i (own_domain i) ≡ part i Y
  own_part i = ap (part i) (own_domain_is i) ∙ filter_twice (is_on (i ∷ [])) Y

  -- entries of the shard's part, as told
  entries_as_told : (i : ℕ) (vs : List Val) → map (tell n i) (map (λ v. record { val = v; stats = stats_over [] (bucket_places (terms t) (value v) (own_domain i)) }) vs) ≡ map (as_told i) vs
  entries_as_told i [] = refl
  entries_as_told i (v ∷ vs) = λ x. record { node = n; shard = i; val = v; count = length (bucket_places (terms t) (value v) (own_domain_is i x)) } ∷ entries_as_told i vs x

  abbrev stats_there : ℕ → Key → Stats
  stats_there i k = stats_over [] (bucket_places (terms t) k (own_domain i))

  abbrev rows_there : ℕ → Key → Rows
  rows_there i k = answer_rows r W i (into at_root g k) no_nodes (bucket_places (terms t) k (own_domain i))

  -- a message with the root's bucket, of which the n-th row has a bucket for each of some keys
  tells_keys : (i : ℕ) (rows : Rows) (keys : List Key) (vs : List Val) → nth_row n rows ≡ partials_of (stats_there i) (rows_there i) keys → key_values keys ≡ vs → of_node n (told_rows 0 i rows) ≡ map (as_told i) vs
  tells_keys i rows keys vs e same =
      subst (λ j. of_node j (told_rows 0 i rows) ≡ map (tell j i) (listed_entries (nth_row n rows))) (let j : 0 + n ≡ n = omega arith in j) (rows_of_node 0 n i rows)
      ∙ ap (λ ps. map (tell n i) (listed_entries ps)) e ∙ ap (map (tell n i)) (entries-partials_of (stats_there i) (rows_there i) keys) ∙ entries_as_told i (key_values keys) ∙ ap (map (as_told i)) same

  pub first_tells : (i : ℕ) → of_node n (exact_told i exact_first (exact_answer r W i exact_first)) ≡ map (as_told i) (offered t no_nodes Y i)
  first_tells i =
      tells_keys i (answer_rows r W i at_root r.nodes (part i (root_domain r W))) (answer_keys (terms t) no_nodes (own_domain i) i) (offered t no_nodes Y i)
      (answer_row r W i n r.nodes (part i (root_domain r W)) top ∙ ap (listed_for r W i at_root (part i (root_domain r W))) at)
      (key_values-answer_keys t no_nodes (own_domain i) i ∙ offered_local t no_nodes (own_domain i) Y i (own_part i))

  from_local : (c : ℕ) (i : ℕ) → values_from t c (own_domain i) i ≡ values_from t c Y i
  from_local c i = ap (λ P. map (λ (e : Entry). e.val) (filter (λ e. nat_le c e.stats.count) (entries_in t [] P))) (own_part i)

  pub least_tells : (i : ℕ) (ns : List ℕ) → of_node n (exact_told i (exact_least ns) (exact_answer r W i (exact_least ns))) ≡ map (as_told i) (values_from t (number_at n ns) Y i)
  least_tells i ns =
      let c = number_at n ns in
      tells_keys i (least_rows r W i r.nodes ns (part i (root_domain r W))) (least_keys (terms t) no_nodes c (own_domain i) i) (values_from t c Y i)
      (least_row r W i n r.nodes ns (part i (root_domain r W)) top ∙ ap (least_for r W i (part i (root_domain r W)) c) at)
      (key_values-values (values_from t c (own_domain i) i) (not_empty (terms t) (own_domain i) (asked t.missing missing)) ∙ ap (λ vs. values_from t c (own_domain i) i ++ vs) (no_value_missing t no_nodes (own_domain i) t.missing)
      ∙ append-nil (values_from t c (own_domain i) i) ∙ from_local c i)

  -- the count of the bucket of a want
  want_count : (i : ℕ) (v : Val) → length (part i (target_places r W (target_of r.nodes (record { node = n; key = value v } ∷ [])))) ≡ count_there i v
  want_count i v =
      ap (λ o. length (part i (target_places r W (target_in (value v) (leads_to at_root r.nodes) o)))) at
      ∙ ap length (filter-filter (is_on (i ∷ [])) (λ p. in_bucket (terms t) (value v) p.document) Y)

  pub wants_tell : (i : ℕ) (ws : List Want) → AllByRecursion IsPlain ws → of_node n (told_wanted i ws (answer_wants r W i ws)) ≡ map (as_told i) (wanted_of n ws)
  wants_tell i [] h = refl
  wants_tell i (w ∷ ws) h =
      subst (λ u. of_node n (told_wanted i (u ∷ ws) (answer_wants r W i (u ∷ ws))) ≡ map (as_told i) (wanted_of n (u ∷ ws))) (sym h.0.1) (go (w.node == n) refl (wants_tell i ws h.1))
    where
      v : Val
      v = h.0.0

      told : ToldCount
      told = record { node = w.node; shard = i; val = v; count = length (part i (target_places r W (target_of r.nodes (record { node = w.node; key = value v } ∷ [])))) }

      go : (b : Bool) → (w.node == n) ≡ b → of_node n (told_wanted i ws (answer_wants r W i ws)) ≡ map (as_told i) (wanted_of n ws)
          → cond (w.node == n) (told ∷ of_node n (told_wanted i ws (answer_wants r W i ws))) (of_node n (told_wanted i ws (answer_wants r W i ws)))
          ≡ map (as_told i) (cond (w.node == n) (v ∷ wanted_of n ws) (wanted_of n ws))
      go true e ih =
          let q = eqb-true w.node n e in
          let later = of_node n (told_wanted i ws (answer_wants r W i ws)) in
          let as_node = λ (j : ℕ). let a : ToldCount = record { node = j; shard = i; val = v; count = length (part i (target_places r W (target_of r.nodes (record { node = j; key = value v } ∷ [])))) } in a in
          ap (λ b. cond b (told ∷ later) later) e ∙ ap (λ j. as_node j ∷ later) q
          ∙ (λ x. record { node = n; shard = i; val = v; count = want_count i v x } ∷ ih x) ∙ sym (ap (λ b. map (as_told i) (cond b (v ∷ wanted_of n ws) (wanted_of n ws))) e)
      go false e ih =
          let later = of_node n (told_wanted i ws (answer_wants r W i ws)) in
          ap (λ b. cond b (told ∷ later) later) e ∙ ih ∙ sym (ap (λ b. map (as_told i) (cond b (v ∷ wanted_of n ws) (wanted_of n ws))) e)

  -- ---- messages

  -- the values of which a shard tells, asked so
  abbrev pub values_of : ExactAsk → ℕ → List Val
  values_of exact_first i = offered t no_nodes Y i
  values_of (exact_least ns) i = values_from t (number_at n ns) Y i
  values_of (exact_more ws) i = wanted_of n ws

  abbrev pub IsPlainAsk : ExactAsk → Type 0
  IsPlainAsk (exact_more ws) = AllByRecursion IsPlain ws
  IsPlainAsk _ = Unit {0}

  ask_tells : (i : ℕ) (ask : ExactAsk) → IsPlainAsk ask → of_node n (exact_told i ask (exact_answer r W i ask)) ≡ map (as_told i) (values_of ask i)
  ask_tells i exact_first h = first_tells i
  ask_tells i (exact_least ns) h = least_tells i ns
  ask_tells i (exact_more ws) h = wants_tell i ws h

  -- the message answers its ask
  abbrev pub IsHeard : ExactSent → Type 0
  IsHeard s = (s.message ≡ exact_answer r W s.shard s.ask) × IsPlainAsk s.ask

  -- what is told in messages
  abbrev pub told_of : List ExactSent → List ToldCount
  told_of sent = flat_map (λ s. map (as_told s.shard) (values_of s.ask s.shard)) sent

  pub messages_tell : (sent : List ExactSent) → AllByRecursion IsHeard sent → of_node n (exact_told_in sent) ≡ told_of sent
  messages_tell [] h = refl
  messages_tell (s ∷ ss) h =
      filter-append (λ a. a.node == n) (exact_told s.shard s.ask s.message) (exact_told_in ss)
      ∙ ap (λ ts. ts ++ of_node n (exact_told_in ss)) (ap (λ m. of_node n (exact_told s.shard s.ask m)) h.0.0 ∙ ask_tells s.shard s.ask h.0.1)
      ∙ ap (λ ts. map (as_told s.shard) (values_of s.ask s.shard) ++ ts) (messages_tell ss h.1)

  -- ---- the values and the counts in them

  vals_as_told : (i : ℕ) (vs : List Val) → map (λ a. a.val) (map (as_told i) vs) ≡ vs
  vals_as_told i [] = refl
  vals_as_told i (v ∷ vs) = ap (λ ws. v ∷ ws) (vals_as_told i vs)

  vals_told_of : (sent : List ExactSent) → map (λ a. a.val) (told_of sent) ≡ flat_map (λ s. values_of s.ask s.shard) sent
  vals_told_of [] = refl
  vals_told_of (s ∷ ss) = map-append (λ a. a.val) (map (as_told s.shard) (values_of s.ask s.shard)) (told_of ss) ∙ ap (λ ws. ws ++ map (λ a. a.val) (told_of ss)) (vals_as_told s.shard (values_of s.ask s.shard)) ∙ ap (λ ws. values_of s.ask s.shard ++ ws) (vals_told_of ss)

  -- a message tells of a value
  abbrev pub tells_of : Val → ExactSent → Bool
  tells_of v s = has_val v (values_of s.ask s.shard)

  pub values_are : (sent : List ExactSent) → AllByRecursion IsHeard sent → values_told (exact_told_in sent) n ≡ distinct (flat_map (λ s. values_of s.ask s.shard) sent)
  values_are sent h = ap (λ ts. distinct (map (λ a. a.val) ts)) (messages_tell sent h) ∙ ap distinct (vals_told_of sent)

  -- what is told of other facets plays no part
  count_of_node : (A : List ToldCount) (v : Val) (i : ℕ) → count_told A n v i ≡ count_told (of_node n A) n v i
  count_of_node [] v i = refl
  count_of_node (a ∷ rest) v i = go (a.node == n) refl (count_of_node rest v i)
    where
      go : (b : Bool) → (a.node == n) ≡ b → count_told rest n v i ≡ count_told (of_node n rest) n v i
          → cond ((a.node == n) && (a.shard == i) && same_val v a.val) (Some a.count) (count_told rest n v i) ≡ count_told (cond b (a ∷ of_node n rest) (of_node n rest)) n v i
      go true e ih = ap (λ o. cond ((a.node == n) && (a.shard == i) && same_val v a.val) (Some a.count) o) ih
      go false e ih = ap (λ b. cond (b && (a.shard == i) && same_val v a.val) (Some a.count) (count_told rest n v i)) e ∙ ih

  count_append : (A B : List ToldCount) (v : Val) (i : ℕ) → count_told (A ++ B) n v i ≡ or_else (count_told A n v i) (count_told B n v i)
  count_append [] B v i = refl
  count_append (a ∷ rest) B v i = go ((a.node == n) && (a.shard == i) && same_val v a.val) (count_append rest B v i)
    where
      go : (b : Bool) → count_told (rest ++ B) n v i ≡ or_else (count_told rest n v i) (count_told B n v i)
          → cond b (Some a.count) (count_told (rest ++ B) n v i) ≡ or_else (cond b (Some a.count) (count_told rest n v i)) (count_told B n v i)
      go true ih = refl
      go false ih = ih

  -- a message tells of a value the count on its shard
  abbrev pub found_in : Bool → ℕ → Val → Option ℕ
  found_in b i v = cond b (Some (count_there i v)) None

  count_as_told : (j : ℕ) (vs : List Val) (v : Val) (i : ℕ) → count_told (map (as_told j) vs) n v i ≡ found_in ((j == i) && has_val v vs) i v
  count_as_told j [] v i = ap (λ b. found_in b i v) (none (j == i))
    where
      none : (b : Bool) → false ≡ (b && false)
      none true = refl
      none false = refl
  count_as_told j (w ∷ vs) v i =
      ap (λ b. cond (b && (j == i) && same_val v w) (Some (count_there j w)) (count_told (map (as_told j) vs) n v i)) (eq-eqb n n refl) ∙ go (j == i) refl (same_val v w) refl (count_as_told j vs v i)
    where
      go : (b : Bool) → (j == i) ≡ b → (c : Bool) → same_val v w ≡ c → count_told (map (as_told j) vs) n v i ≡ found_in ((j == i) && has_val v vs) i v
          → cond (b && c) (Some (count_there j w)) (count_told (map (as_told j) vs) n v i) ≡ found_in (b && (c || has_val v vs)) i v
      go true e true h ih = let q = eqb-true j i e in let p = sym (same_val_exact v w h) in λ x. Some (count_there (q x) (p x))
      go true e false h ih = ih ∙ ap (λ b. found_in (b && has_val v vs) i v) e
      go false e c h ih = ih ∙ ap (λ b. found_in (b && has_val v vs) i v) e

  pub count_is : (sent : List ExactSent) → AllByRecursion IsHeard sent → (v : Val) (i : ℕ) → count_told (exact_told_in sent) n v i ≡ found_in (list_any (λ s. (s.shard == i) && tells_of v s) sent) i v
  count_is sent h v i = count_of_node (exact_told_in sent) v i ∙ ap (λ ts. count_told ts n v i) (messages_tell sent h) ∙ go sent
    where
      go : (ss : List ExactSent) → count_told (told_of ss) n v i ≡ found_in (list_any (λ s. (s.shard == i) && tells_of v s) ss) i v
      go [] = refl
      go (s ∷ ss) =
          count_append (map (as_told s.shard) (values_of s.ask s.shard)) (told_of ss) v i
          ∙ (λ x. or_else (count_as_told s.shard (values_of s.ask s.shard) v i x) (go ss x))
          ∙ joins ((s.shard == i) && tells_of v s) (list_any (λ s. (s.shard == i) && tells_of v s) ss)
        where
          joins : (b c : Bool) → or_else (found_in b i v) (found_in c i v) ≡ found_in (b || c) i v
          joins true c = refl
          joins false c = refl
