-- Readings of which one is carried into another by maps of its buckets and domains: they have one reply, and the same lacks.
use Rattle.std.proofs.Common.{◌≡◌, ℕ, zero, suc, List, [], ◌∷◌, ◌++◌, Bool, cond, None, map, refl, ◌∙◌, ap}
use Rattle.std.specs.Prelude.{not, ◌==◌}
use Rattle.std.specs.List.{filter, flat_map, enumerate_from}
use Rattle.fc_spec.specs.documents.Val.{Val, has_val, distinct}
use Rattle.fc_spec.specs.requests.Request.{Stat, Terms, Kind, terms, range, date_range, query, Facet, Nodes, no_nodes, statistic, facet, stats_of}
use Rattle.fc_spec.specs.requests.Buckets.{Key, value, missing, gap, before, between, after, whole}
use Rattle.fc_spec.specs.requests.Ranks.{Entry, below_rank}
use Rattle.fc_spec.specs.requests.Shape.{asks_again, counts_all}
use Rattle.fc_spec.specs.requests.Statistics.{Stats, shown}
use Rattle.fc_spec.specs.replies.Reading.{Reading, stats_on}
use Rattle.fc_spec.specs.replies.Reply.{bucket, Facets, with_buckets}
use Rattle.fc_spec.specs.replies.Printed.{terms_keys, statistic_part, facet_part}
use Rattle.fc_spec.specs.replies.Chosen.{chosen_bound, offering, entry_on, candidate_entries, chosen, known, chosen_entries}
use Rattle.fc_spec.specs.replies.Distributed.{printed_keys, carried, dist_buckets, dist_facets, reply_over}
use Rattle.fc_spec.specs.messages.Message.{Way}
use Rattle.fc_spec.specs.messages.Lacks.{Lack, want_of, each_of, facet_wanted}
use Rattle.fc_lacks.specs.Lacking.{lacking_values, lacking_at, lacking}

-- f carries buckets and g domains of the first reading into the second: each question is answered the same
pub record IsCarried {B C D E : Type 0} (R : Reading B D) (S : Reading C E) (f : B → C) (g : D → E) : Type 0 where
  pub count : (H : List ℕ) (X : B) → R.count_on H X ≡ S.count_on H (f X)
  pub statistic : (m : ℕ) (s : Stat) (H : List ℕ) (X : B) → R.statistic_on m s H X ≡ S.statistic_on m s H (f X)
  pub offered : (t : Terms) (inner : Nodes) (Y : D) (i : ℕ) → R.offered_by t inner Y i ≡ S.offered_by t inner (g Y) i
  pub at_key : (kind : Kind) (Y : D) (key : Key) → f (R.bucket_at kind Y key) ≡ S.bucket_at kind (g Y) key
  pub domain : (n : ℕ) (p : Facet) (H : List ℕ) (X : B) → g (R.domain_on n p H X) ≡ S.domain_on n p H (f X)

module _ {B C D E : Type 0} (R : Reading B D) (S : Reading C E) (f : B → C) (g : D → E) (c : IsCarried R S f g) where
  stats_same : (ss : List Stat) (H : List ℕ) (X : B) → stats_on R ss H X ≡ stats_on S ss H (f X)
  stats_same ss H X = λ j. record { count = c.count H X j; values = map (λ s. c.statistic s.0 s.1 H X j) (enumerate_from 0 ss) }

  -- ---- terms facets
  module _ (t : Terms) (inner : Nodes) (H : List ℕ) (Y : D) where
    offering_same : (v : Val) → offering R t inner H Y v ≡ offering S t inner H (g Y) v
    offering_same v = λ j. filter (λ i. has_val v (c.offered t inner Y i j)) H

    entry_same : (shards : List ℕ) (v : Val) → entry_on R t inner H Y shards v ≡ entry_on S t inner H (g Y) shards v
    entry_same shards v =
        let stats = stats_same (stats_of inner) shards (R.bucket_at (terms t) Y (value v)) ∙ ap (stats_on S (stats_of inner) shards) (c.at_key (terms t) Y (value v)) in
        ap (λ (s : Stats). let e : Entry = record { val = v; stats = s } in e) stats

    candidate_entries_same : candidate_entries R t inner H Y ≡ candidate_entries S t inner H (g Y)
    candidate_entries_same = λ j. map (λ v. entry_same (offering_same v j) v j) (distinct (flat_map (λ i. c.offered t inner Y i j) H))

    pub chosen_same : chosen R t inner H Y ≡ chosen S t inner H (g Y)
    chosen_same = ap (λ es. map (λ e. e.val) (below_rank t.sort (chosen_bound t) es)) candidate_entries_same

    pub known_same : (v : Val) → known R t inner H Y v ≡ known S t inner H (g Y) v
    known_same v = ap (cond (counts_all t inner) H) (offering_same v)

    pub chosen_entries_same : chosen_entries R t inner H Y ≡ chosen_entries S t inner H (g Y)
    chosen_entries_same = λ j. map (λ v. entry_same (known_same v j) v j) (chosen_same j)

  -- ---- printed buckets
  keys_same : (kind : Kind) (inner : Nodes) (H : List ℕ) (Y : D) → printed_keys R kind inner H Y ≡ printed_keys S kind inner H (g Y)
  keys_same (terms t) inner H Y = ap (terms_keys t) (chosen_entries_same t inner H Y)
  keys_same (range p) inner H Y = refl
  keys_same (date_range p) inner H Y = refl
  keys_same (query q) inner H Y = refl

  carried_same : (kind : Kind) (inner : Nodes) (H : List ℕ) (Y : D) (key : Key) → carried R kind inner H Y key ≡ carried S kind inner H (g Y) key
  carried_same (terms t) inner H Y (value v) = known_same t inner H Y v
  carried_same (terms t) inner H Y missing = refl
  carried_same (terms t) inner H Y (gap i) = refl
  carried_same (terms t) inner H Y before = refl
  carried_same (terms t) inner H Y between = refl
  carried_same (terms t) inner H Y after = refl
  carried_same (terms t) inner H Y whole = refl
  carried_same (range p) inner H Y key = refl
  carried_same (date_range p) inner H Y key = refl
  carried_same (query q) inner H Y key = refl

  -- what is made of a bucket's shards and the bucket, where it is made alike of those of both
  at_key_same : {T : Type 0} (u : List ℕ → B → T) (v : List ℕ → C → T) → ((K : List ℕ) (X : B) → u K X ≡ v K (f X)) → (kind : Kind) (inner : Nodes) (H : List ℕ) (Y : D) (key : Key)
      → u (carried R kind inner H Y key) (R.bucket_at kind Y key) ≡ v (carried S kind inner H (g Y) key) (S.bucket_at kind (g Y) key)
  at_key_same u v same kind inner H Y key =
      same (carried R kind inner H Y key) (R.bucket_at kind Y key) ∙ (λ j. v (carried_same kind inner H Y key j) (c.at_key kind Y key j))

  buckets_same : (p : Facet) (inner : Nodes) (u : List ℕ → B → Facets) (v : List ℕ → C → Facets) → ((K : List ℕ) (X : B) → u K X ≡ v K (f X)) → (H : List ℕ) (Y : D) (m n : Facets) → m ≡ n
      → dist_buckets R p inner u H Y m ≡ dist_buckets S p inner v H (g Y) n
  buckets_same p inner u v same H Y m n more =
      λ j. with_buckets p.name p.kind (λ k. at_key_same R.count_on S.count_on c.count p.kind inner H Y k j) (λ k. at_key_same u v same p.kind inner H Y k j) (keys_same p.kind inner H Y j) (more j)

  pub facets_same : (nodes : Nodes) (n m : ℕ) (H : List ℕ) (X : B) → dist_facets R nodes n m H X ≡ dist_facets S nodes n m H (f X)
  facets_same no_nodes n m H X = refl
  facets_same (statistic name s rest) n m H X = λ j. statistic_part (c.count H X j == 0) name (shown (c.statistic m s H X j)) (facets_same rest (suc n) (suc m) H X j)
  facets_same (facet p inner rest) n m H X =
      let more = facets_same rest (suc n) m H X in
      let printed = buckets_same p inner (λ K P. dist_facets R inner 0 0 K P) (λ K P. dist_facets S inner 0 0 K P) (facets_same inner 0 0) H (R.domain_on n p H X) (dist_facets R rest (suc n) m H X) (dist_facets S rest (suc n) m H (f X)) more
      ∙ ap (λ Y. dist_buckets S p inner (λ K P. dist_facets S inner 0 0 K P) H Y (dist_facets S rest (suc n) m H (f X))) (c.domain n p H X)
      in
      λ j. facet_part (c.count H X j == 0) p (printed j) (more j)

  pub reply_same : (nodes : Nodes) (H : List ℕ) (X : B) → reply_over R nodes H X ≡ reply_over S nodes H (f X)
  reply_same nodes H X = λ j. bucket None (c.count H X j) (facets_same nodes 0 0 H X j)

  -- ---- what lacks
  module _ (has : B → ℕ → Bool) (had : C → ℕ → Bool) (alike : (X : B) (i : ℕ) → has X i ≡ had (f X) i) where
    values_same : (t : Terms) (inner : Nodes) (n : ℕ) (H : List ℕ) (Y : D) (way : Way) → lacking_values R has t inner n H Y way ≡ lacking_values S had t inner n H (g Y) way
    values_same t inner n H Y way =
        let here = λ (v : Val) (i : ℕ). alike (R.bucket_at (terms t) Y (value v)) i ∙ ap (λ P. had P i) (c.at_key (terms t) Y (value v)) in
        λ j. flat_map (λ v. each_of (filter (λ i. not (here v i j)) H) (want_of way n (value v))) (chosen_same t inner H Y j)

    facet_lacks_same : (kind : Kind) (inner : Nodes) (e n : ℕ) (H : List ℕ) (Y : D) (way : Way) (u v : ℕ → List Lack) → ((d : ℕ) → u d ≡ v d)
        → lacking_at R has kind inner e n H Y way u ≡ lacking_at S had kind inner e n H (g Y) way v
    facet_lacks_same (terms t) inner zero n H Y way u v same = ap (λ all. cond (asks_again t inner) all []) (values_same t inner n H Y way)
    facet_lacks_same (terms t) inner (suc e) n H Y way u v same = same e
    facet_lacks_same (range p) inner e n H Y way u v same = same e
    facet_lacks_same (date_range p) inner e n H Y way u v same = same e
    facet_lacks_same (query q) inner e n H Y way u v same = same e

    -- in printed buckets
    inside_lacks : (p : Facet) (inner : Nodes) (n : ℕ) (u : List ℕ → B → Way → List Lack) (v : List ℕ → C → Way → List Lack) → ((K : List ℕ) (X : B) (way : Way) → u K X way ≡ v K (f X) way)
        → (H : List ℕ) (Y : D) (way : Way)
        → flat_map (λ k. u (carried R p.kind inner H Y k) (R.bucket_at p.kind Y k) (way ++ record { node = n; key = k } ∷ [])) (printed_keys R p.kind inner H Y)
        ≡ flat_map (λ k. v (carried S p.kind inner H (g Y) k) (S.bucket_at p.kind (g Y) k) (way ++ record { node = n; key = k } ∷ [])) (printed_keys S p.kind inner H (g Y))
    inside_lacks p inner n u v same H Y way =
        λ j. flat_map
        (λ k. at_key_same (λ K X. u K X (way ++ record { node = n; key = k } ∷ [])) (λ K X. v K X (way ++ record { node = n; key = k } ∷ [])) (λ K X. same K X (way ++ record { node = n; key = k } ∷ [])) p.kind inner H Y k j)
        (keys_same p.kind inner H Y j)

    abbrev lacks_in : {G F : Type 0} (Q : Reading G F) (there : G → ℕ → Bool) → Facet → Nodes → (e n : ℕ) → List ℕ → Way → F → List Lack
    lacks_in Q there p inner e n H way Y =
        lacking_at Q there p.kind inner e n H Y way (λ d. flat_map (λ k. lacking Q there d inner 0 (carried Q p.kind inner H Y k) (Q.bucket_at p.kind Y k) (way ++ record { node = n; key = k } ∷ [])) (printed_keys Q p.kind inner H Y))

    pub lacking_same : (nodes : Nodes) (e n : ℕ) (H : List ℕ) (X : B) (way : Way) → lacking R has e nodes n H X way ≡ lacking S had e nodes n H (f X) way
    lacking_same no_nodes e n H X way = refl
    lacking_same (statistic name s rest) e n H X way = lacking_same rest e (suc n) H X way
    lacking_same (facet p inner rest) e n H X way =
        let Y = R.domain_on n p H X in
        let here : lacks_in R has p inner e n H way Y ≡ lacks_in S had p inner e n H way (g Y) =
        facet_lacks_same p.kind inner e n H Y way _ _ (λ d. inside_lacks p inner n (λ K P w. lacking R has d inner 0 K P w) (λ K P w. lacking S had d inner 0 K P w) (λ K P w. lacking_same inner d 0 K P w) H Y way)
        in
        let there = here ∙ ap (lacks_in S had p inner e n H way) (c.domain n p H X) in
        λ j. facet_wanted (c.count H X j == 0) p (there j) ++ lacking_same rest e (suc n) H X way j
