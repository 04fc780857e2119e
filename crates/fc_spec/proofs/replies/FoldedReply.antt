-- The folded reply has the numbers that are counted over places: by recursion over the request's nodes.
use Rattle.std.proofs.Common.{◌≡◌, ℕ, ℤ, suc, pos, List, [], ◌∷◌, length, Bool, true, false, cond, ◌&&◌, ◌==◌, Option, None, Some, unwrap_or, refl, sym, ◌∙◌, ap, subst}
use Rattle.fc_spec.specs.documents.Val.{Text}
use Rattle.fc_spec.specs.words.Lists.{is_empty, numbers_below}
use Rattle.fc_spec.specs.documents.World.{World, Place, on_shards}
use Rattle.fc_spec.specs.requests.Request.{Show, its_buckets, its_number, number_beside, Terms, Kind, terms, range, date_range, query, Facet, Nodes, no_nodes, statistic, facet, Request, stats_of}
use Rattle.fc_spec.specs.requests.Spread.{show_of, show_first, number_facet, beside_facet, IsShown, AreShownAfter}
use Rattle.fc_spec.specs.requests.Base.{root_domain}
use Rattle.fc_spec.specs.requests.Paths.{at_root, into, domain}
use Rattle.fc_spec.specs.requests.Shape.{is_exact}
use Rattle.fc_spec.specs.requests.Buckets.{Key, whole, bucket_places}
use Rattle.fc_spec.specs.replies.Reply.{Bucket, Facets, no_facets, number, one, many, counted, Row, part, bucket, row_of, with_buckets, spot_of, val_of}
use Rattle.fc_spec.specs.replies.Printed.{statistic_part}
use Rattle.fc_spec.specs.replies.Reading.{PathBucket, PathDomain, over_places}
use Rattle.fc_spec.specs.replies.Exact.{exact_keys}
use Rattle.fc_spec.specs.replies.Distributed.{carried, printed_keys, dist_facets, root_bucket}
use Rattle.fc_spec.specs.replies.WithTops.{root_buckets, root_facets}
use Rattle.fc_spec.specs.replies.Folded.{from_printed, inner_of, rest_of, listed_in, number_for, with_count, row_shown, folded_bucket, folded_facets, folded_row}
use Rattle.fc_spec.specs.replies.Numbers.{buckets_in, unique_in, number_of, numbered_facet, numbered_facets, numbered_root}
use Rattle.fc_spec.specs.laws.FoldedNumbers.{FoldsIntoNumbers}
use Rattle.fc_spec.proofs.words.Counting.{filter-all}
use Rattle.fc_spec.proofs.documents.Shards.{on_shards_every, every_on_shards}
use Rattle.fc_spec.proofs.replies.PathBuckets.{at_path, in_path}
use Rattle.fc_spec.proofs.replies.ByOffers.{root_inside, exact_root, offered_root}
use Rattle.fc_spec.proofs.replies.ExactPaths.{on_all}
use Rattle.fc_spec.proofs.replies.CountedValues.{listed_are_buckets, unique_are_buckets}

-- nodes that print the same facets first fold alike
past : (e : Bool) (a b : Nodes) → from_printed e a ≡ from_printed e b → (t : Facets) → folded_facets e a t ≡ folded_facets e b t
past e a b h no_facets = refl
past e a b h (number name n more) = ap (λ t. number name n t) (past e a b h more)
past e a b h (one name x more) = ap (λ here. one name (folded_bucket (inner_of here) x) (folded_facets e (rest_of here) more)) h
past e a b h (many name row more) =
    ap (λ here. row_shown (show_first here) (number_for (show_first (rest_of here)) more) name row (folded_row (inner_of here) row) (folded_facets e (rest_of here) more)) h
past e a b h (counted name n row more) = ap (λ ns. counted name n (folded_row (inner_of ns) row) (folded_facets e (rest_of ns) more)) h

-- a statistic stays
statistic_stays : (e b : Bool) (nodes : Nodes) (name : Text) (v : Option ℤ) (more more' : Facets) → folded_facets e nodes more ≡ more' → folded_facets e nodes (statistic_part b name v more) ≡ statistic_part b name v more'
statistic_stays e true nodes name v more more' h = h
statistic_stays e false nodes name None more more' h = h
statistic_stays e false nodes name (Some n) more more' h = ap (λ t. number name n t) h

-- a row folds bucket by bucket
row_folds : (kind : Kind) (inner : Nodes) (count : Key → ℕ) (inside inside' : Key → Facets) → ((k : Key) → folded_facets (count k == 0) inner (inside k) ≡ inside' k) → (keys : List Key)
    → folded_row inner (row_of kind count inside keys) ≡ row_of kind count inside' keys
row_folds kind inner count inside inside' h [] = refl
row_folds kind inner count inside inside' h (k ∷ ks) = let more = row_folds kind inner count inside inside' h ks in λ i. part (spot_of k) (bucket (val_of kind k) (count k) (h k i)) (more i)

with_count_one : (o : Option ℕ) (name : Text) (b : Bucket) (more : Facets) → with_count o (one name b more) ≡ one name b more
with_count_one None name b more = refl
with_count_one (Some n) name b more = refl

-- a facet that shows its buckets keeps them, with the number behind it
buckets_fold : (e : Bool) (nodes : Nodes) (f : Facet) (inner rest : Nodes) → from_printed e nodes ≡ facet f inner rest → show_of f.kind ≡ its_buckets
    → (kind : Kind) (name : Text) (count : Key → ℕ) (inside inside' : Key → Facets) → ((k : Key) → folded_facets (count k == 0) inner (inside k) ≡ inside' k) → (keys : List Key)
    → (more more' : Facets) → folded_facets e rest more ≡ more' → (o : Option ℕ) → number_for (show_first rest) more ≡ o
    → folded_facets e nodes (with_buckets name kind count inside keys more) ≡ with_count o (with_buckets name kind count inside' keys more')
buckets_fold e nodes f inner rest here shown (terms t) name count inside inside' h keys more more' m o n =
    let row = row_of (terms t) count inside keys in
    ap (λ ns. row_shown (show_first ns) (number_for (show_first (rest_of ns)) more) name row (folded_row (inner_of ns) row) (folded_facets e (rest_of ns) more)) here
    ∙ ap (λ s. row_shown s (number_for (show_first rest) more) name row (folded_row inner row) (folded_facets e rest more)) shown
    ∙ (λ i. with_count (n i) (many name (row_folds (terms t) inner count inside inside' h keys i) (m i)))
buckets_fold e nodes f inner rest here shown (range g) name count inside inside' h keys more more' m o n =
    let row = row_of (range g) count inside keys in
    ap (λ ns. row_shown (show_first ns) (number_for (show_first (rest_of ns)) more) name row (folded_row (inner_of ns) row) (folded_facets e (rest_of ns) more)) here
    ∙ ap (λ s. row_shown s (number_for (show_first rest) more) name row (folded_row inner row) (folded_facets e rest more)) shown
    ∙ (λ i. with_count (n i) (many name (row_folds (range g) inner count inside inside' h keys i) (m i)))
buckets_fold e nodes f inner rest here shown (date_range g) name count inside inside' h keys more more' m o n =
    let row = row_of (date_range g) count inside keys in
    ap (λ ns. row_shown (show_first ns) (number_for (show_first (rest_of ns)) more) name row (folded_row (inner_of ns) row) (folded_facets e (rest_of ns) more)) here
    ∙ ap (λ s. row_shown s (number_for (show_first rest) more) name row (folded_row inner row) (folded_facets e rest more)) shown
    ∙ (λ i. with_count (n i) (many name (row_folds (date_range g) inner count inside inside' h keys i) (m i)))
buckets_fold e nodes f inner rest here shown (query q) name count inside inside' h keys more more' m o n =
    let b = bucket None (count whole) (inside whole) in
    ap (λ ns. one name (folded_bucket (inner_of ns) b) (folded_facets e (rest_of ns) more)) here
    ∙ (λ i. one name (bucket None (count whole) (h whole i)) (m i))
    ∙ sym (with_count_one o name _ more')

-- in a request over a world
module _ (r : Request) (W : World) where
  -- the domain of a facet
  abbrev around : Facet → List ℕ → PathBucket → List Place
  around f H X = on_shards H (domain r W X.path f.change (on_shards H X.places))

  abbrev domain_of : Facet → List ℕ → PathBucket → PathDomain
  domain_of f H X = in_path X.path f (around f H X)

  -- its buckets
  abbrev shards : Facet → Nodes → List ℕ → PathBucket → Key → List ℕ
  shards f inner H X k = carried (over_places r W) f.kind inner H (domain_of f H X) k

  abbrev bucket_in : Facet → List ℕ → PathBucket → Key → PathBucket
  bucket_in f H X k = at_path (into X.path f k) (bucket_places f.kind k (around f H X))

  abbrev counts : Facet → Nodes → List ℕ → PathBucket → Key → ℕ
  counts f inner H X k = length (on_shards (shards f inner H X k) (bucket_places f.kind k (around f H X)))

  abbrev insides : Facet → Nodes → List ℕ → PathBucket → Key → Facets
  insides f inner H X k = dist_facets (over_places r W) inner 0 0 (shards f inner H X k) (bucket_in f H X k)

  abbrev keys : Facet → Nodes → List ℕ → PathBucket → List Key
  keys f inner H X = printed_keys (over_places r W) f.kind inner H (domain_of f H X)

  abbrev row : Facet → Nodes → List ℕ → PathBucket → Row
  row f inner H X = row_of f.kind (counts f inner H X) (insides f inner H X) (keys f inner H X)

  -- the bucket is empty
  abbrev nothing_in : List ℕ → PathBucket → Bool
  nothing_in H X = length (on_shards H X.places) == 0

  -- and a facet of it is not printed
  abbrev is_hidden : Facet → List ℕ → PathBucket → Bool
  is_hidden f H X = nothing_in H X && is_empty f.change.exclude

  -- the domain of a facet which shows its number is the bucket's part
  around_number : (name : Text) (field : ℕ) (H : List ℕ) (X : PathBucket) → around (number_facet name field) H X ≡ on_shards H X.places
  around_number name field H X = ap (on_shards H) (filter-all (on_shards H X.places)) ∙ on_shards_every H (on_shards H X.places) (every_on_shards H X.places)

  -- so it lists as many buckets as the part has values
  unique_listed : (name : Text) (field : ℕ) (H : List ℕ) (X : PathBucket) → listed_in (row (number_facet name field) no_nodes H X) ≡ unique_in field (on_shards H X.places)
  unique_listed name field H X =
      let f = number_facet name field in
      listed_are_buckets r W field 1 None its_number (counts f no_nodes H X) (insides f no_nodes H X) H (domain_of f H X) (every_on_shards H (domain r W X.path f.change (on_shards H X.places)))
      ∙ unique_are_buckets field (around f H X) ∙ ap (unique_in field) (around_number name field H X)

  -- and one that stands behind another as many as that one has
  beside_listed : (f : Facet) (t : Terms) (H : List ℕ) (X : PathBucket) → listed_in (row (beside_facet f t) no_nodes H X) ≡ buckets_in t (around f H X)
  beside_listed f t H X =
      let g = beside_facet f t in
      listed_are_buckets r W t.field t.mincount t.prefix number_beside (counts g no_nodes H X) (insides g no_nodes H X) H (domain_of g H X) (every_on_shards H (domain r W X.path f.change (on_shards H X.places)))

  -- ---- a facet, and what is printed behind it

  -- one that shows its number
  number_folds : (name : Text) (field : ℕ) (rest : Nodes) (H : List ℕ) (X : PathBucket) (more more' : Facets) → (e : Bool) → folded_facets e rest more ≡ more'
      → folded_facets e (facet (number_facet name field) no_nodes rest) (cond (e && true) more (many name (row (number_facet name field) no_nodes H X) more))
      ≡ statistic_part e name (Some (pos (unique_in field (on_shards H X.places)))) more'
  number_folds name field rest H X more more' true ih = past true (facet (number_facet name field) no_nodes rest) rest refl more ∙ ih
  number_folds name field rest H X more more' false ih = λ i. number name (pos (unique_listed name field H X i)) (ih i)

  -- one whose number stands beside the buckets of the facet before it is taken out
  beside_folds : (host : Facet) (t : Terms) (rest : Nodes) (H : List ℕ) (X : PathBucket) (more more' : Facets) → folded_facets (nothing_in H X) rest more ≡ more'
      → folded_facets (nothing_in H X) (facet (beside_facet host t) no_nodes rest) (cond (is_hidden host H X) more (many host.name (row (beside_facet host t) no_nodes H X) more)) ≡ more'
  beside_folds host t rest H X more more' ih = go (is_hidden host H X) refl
    where
      f : Facet
      f = beside_facet host t

      e : Bool
      e = nothing_in H X

      go : (b : Bool) → is_hidden host H X ≡ b → folded_facets e (facet f no_nodes rest) (cond b more (many host.name (row f no_nodes H X) more)) ≡ more'
      go true h = past e (facet f no_nodes rest) rest (ap (λ b. cond b (from_printed e rest) (facet f no_nodes rest)) h) more ∙ ih
      go false h =
          ap (λ ns. row_shown (show_first ns) (number_for (show_first (rest_of ns)) more) host.name (row f no_nodes H X) (folded_row (inner_of ns) (row f no_nodes H X)) (folded_facets e (rest_of ns) more))
          (ap (λ b. cond b (from_printed e rest) (facet f no_nodes rest)) h)
          ∙ ih

  -- what is printed for such a facet in front of others
  abbrev PrintsBeside : List ℕ → PathBucket → (Nodes → Facets) → Type 0
  PrintsBeside H X all =
      (host : Facet) (t : Terms) (rest : Nodes) → (later : Facets) × (all (facet (beside_facet host t) no_nodes rest) ≡ cond (is_hidden host H X) later (many host.name (row (beside_facet host t) no_nodes H X) later))

  -- the number that follows a printed facet is that of its buckets
  number_behind : (all : Nodes → Facets) (H : List ℕ) (X : PathBucket) → PrintsBeside H X all → (f : Facet) (rest : Nodes) → AreShownAfter (Some f) rest → is_hidden f H X ≡ false
      → number_for (show_first rest) (all rest) ≡ number_of (show_first rest) f.kind (around f H X)
  number_behind all H X prints f no_nodes shown h = refl
  number_behind all H X prints f (statistic name s rest) shown h = refl
  number_behind all H X prints f (facet g inner rest) shown h = go (show_of g.kind) shown.0
    where
      go : (s : Show) → IsShown (Some f) g inner s → number_for s (all (facet g inner rest)) ≡ number_of s f.kind (around f H X)
      go its_buckets _ = refl
      go its_number _ = refl
      go number_beside (host, t, same, kind, plain, is, none) =
          let f_is : f ≡ host = ap (λ o. unwrap_or o f) same in
          let there = prints f t rest in
          (λ i. number_for number_beside (all (facet (is i) (none i) rest)))
          ∙ ap (λ k. number_for number_beside (all (facet (beside_facet k t) no_nodes rest))) (sym f_is)
          ∙ ap (number_for number_beside) there.1
          ∙ ap (λ b. number_for number_beside (cond b there.0 (many f.name (row (beside_facet f t) no_nodes H X) there.0))) h
          ∙ ap (λ c. Some c) (beside_listed f t H X)
          ∙ ap (λ k. number_of number_beside k (around f H X)) (sym kind ∙ ap (λ k. k.kind) (sym f_is))

  -- a facet that shows its buckets
  facet_folds : (f : Facet) (inner rest : Nodes) → show_of f.kind ≡ its_buckets → (H : List ℕ) (X : PathBucket) (count : Key → ℕ) (inside inside' : Key → Facets) → ((k : Key) → folded_facets (count k == 0) inner (inside k) ≡ inside' k)
      → (keys : List Key) (more more' : Facets) → folded_facets (nothing_in H X) rest more ≡ more' → (o : Option ℕ) → (is_hidden f H X ≡ false → number_for (show_first rest) more ≡ o)
      → folded_facets (nothing_in H X) (facet f inner rest) (cond (is_hidden f H X) more (with_buckets f.name f.kind count inside keys more))
      ≡ cond (is_hidden f H X) more' (with_count o (with_buckets f.name f.kind count inside' keys more'))
  facet_folds f inner rest shown H X count inside inside' within keys more more' ih o behind = go (is_hidden f H X) refl
    where
      e : Bool
      e = nothing_in H X

      go : (b : Bool) → is_hidden f H X ≡ b
          → folded_facets e (facet f inner rest) (cond b more (with_buckets f.name f.kind count inside keys more)) ≡ cond b more' (with_count o (with_buckets f.name f.kind count inside' keys more'))
      go true h = past e (facet f inner rest) rest (ap (λ b. cond b (from_printed e rest) (facet f inner rest)) h) more ∙ ih
      go false h =
          buckets_fold e (facet f inner rest) f inner rest (ap (λ b. cond b (from_printed e rest) (facet f inner rest)) h) shown f.kind f.name count inside inside' within keys more more' ih o (behind h)

  -- ---- the nodes of a bucket

  abbrev Folds : Nodes → (n m : ℕ) → List ℕ → PathBucket → Type 0
  Folds nodes n m H X = folded_facets (nothing_in H X) nodes (dist_facets (over_places r W) nodes n m H X) ≡ numbered_facets r W nodes H X

  abbrev numbered_insides : Facet → Nodes → List ℕ → PathBucket → Key → Facets
  numbered_insides f inner H X k = numbered_facets r W inner (shards f inner H X k) (bucket_in f H X k)

  -- a facet, whatever it shows
  shown_folds : (before : Option Facet) (f : Facet) (inner rest : Nodes) → AreShownAfter (Some f) rest → (n m : ℕ) (H : List ℕ) (X : PathBucket)
      → ((K : List ℕ) (P : PathBucket) → Folds inner 0 0 K P) → Folds rest (suc n) m H X → (s : Show) → show_of f.kind ≡ s → IsShown before f inner s → Folds (facet f inner rest) n m H X
  shown_folds before f inner rest after n m H X within ih its_buckets h _ =
      let more' = numbered_facets r W rest H X in
      facet_folds f inner rest h H X (counts f inner H X) (insides f inner H X) (numbered_insides f inner H X) (λ k. within (shards f inner H X k) (bucket_in f H X k)) (keys f inner H X)
      (dist_facets (over_places r W) rest (suc n) m H X) more' ih (number_of (show_first rest) f.kind (around f H X))
      (number_behind (λ ns. dist_facets (over_places r W) ns (suc n) m H X) H X (λ host t later. (dist_facets (over_places r W) later (suc (suc n)) m H X, refl)) f rest after)
      ∙ ap (λ s. numbered_facet r W s (show_first rest) f H X (with_buckets f.name f.kind (counts f inner H X) (numbered_insides f inner H X) (keys f inner H X) more') more') (sym h)
  shown_folds before f inner rest after n m H X within ih its_number h (field, is, none) =
      subst (λ k. Folds (facet k inner rest) n m H X) (sym is) (subst (λ ns. Folds (facet (number_facet f.name field) ns rest) n m H X) (sym none)
      (number_folds f.name field rest H X (dist_facets (over_places r W) rest (suc n) m H X) (numbered_facets r W rest H X) (nothing_in H X) ih))
  shown_folds before f inner rest after n m H X within ih number_beside h (host, t, same, kind, plain, is, none) =
      subst (λ k. Folds (facet k inner rest) n m H X) (sym is) (subst (λ ns. Folds (facet (beside_facet host t) ns rest) n m H X) (sym none)
      (beside_folds host t rest H X (dist_facets (over_places r W) rest (suc n) m H X) (numbered_facets r W rest H X) ih))

  nodes_fold : (before : Option Facet) (nodes : Nodes) → AreShownAfter before nodes → (n m : ℕ) (H : List ℕ) (X : PathBucket) → Folds nodes n m H X
  nodes_fold before no_nodes shown n m H X = refl
  nodes_fold before (statistic name s rest) shown n m H X =
      let e = nothing_in H X in
      past e (statistic name s rest) rest refl _ ∙ statistic_stays e e rest name _ _ _ (nodes_fold None rest shown (suc n) (suc m) H X)
  nodes_fold before (facet f inner rest) shown n m H X =
      shown_folds before f inner rest shown.2 n m H X (λ K P. nodes_fold None inner shown.1 0 0 K P) (nodes_fold (Some f) rest shown.2 (suc n) m H X) (show_of f.kind) refl shown.0

  -- ---- the nodes of the root

  abbrev H : List ℕ
  H = numbers_below (length W)

  abbrev X : PathBucket
  X = root_bucket r W

  abbrev RootFolds : Nodes → (n m : ℕ) → Type 0
  RootFolds nodes n m = folded_facets (nothing_in H X) nodes (root_facets r W nodes n m) ≡ numbered_root r W nodes

  -- what is inside the buckets of a facet
  abbrev numbered_inside : Nodes → List ℕ → PathBucket → Facets
  numbered_inside inner K P = numbered_facets r W inner K P

  -- the buckets of an exact facet, and their places
  abbrev exact_bucket : Facet → Key → PathBucket
  exact_bucket f k = at_path (into at_root f k) (bucket_places f.kind k (domain r W at_root f.change X.places))

  -- a facet that shows its buckets, by cases on its being exact
  root_folds_buckets : (f : Facet) (inner rest : Nodes) → AreShownAfter (Some f) rest → (n m : ℕ) → ((K : List ℕ) (P : PathBucket) → Folds inner 0 0 K P) → RootFolds rest (suc n) m → show_of f.kind ≡ its_buckets → (b : Bool) → is_exact f.kind ≡ b
      → folded_facets (nothing_in H X) (facet f inner rest) (cond (is_hidden f H X) (root_facets r W rest (suc n) m) (root_buckets r W n f inner (root_inside r W inner) (root_facets r W rest (suc n) m)))
      ≡ cond (is_hidden f H X) (numbered_root r W rest) (with_count (number_of (show_first rest) f.kind (around f H X)) (root_buckets r W 0 f inner (numbered_inside inner) (numbered_root r W rest)))
  root_folds_buckets f inner rest after n m within ih h b e = go b e
    where
      more : Facets
      more = root_facets r W rest (suc n) m

      more' : Facets
      more' = numbered_root r W rest

      o : Option ℕ
      o = number_of (show_first rest) f.kind (around f H X)

      behind : is_hidden f H X ≡ false → number_for (show_first rest) more ≡ o
      behind = number_behind (λ ns. root_facets r W ns (suc n) m) H X (λ host t later. (root_facets r W later (suc (suc n)) m, refl)) f rest after

      goal_of : (printed printed' : Facets) → Type 0
      goal_of printed printed' = folded_facets (nothing_in H X) (facet f inner rest) (cond (is_hidden f H X) more printed) ≡ cond (is_hidden f H X) more' (with_count o printed')

      go : (b : Bool) → is_exact f.kind ≡ b → goal_of (root_buckets r W n f inner (root_inside r W inner) more) (root_buckets r W 0 f inner (numbered_inside inner) more')
      go true e =
          subst (λ printed. goal_of printed (root_buckets r W 0 f inner (numbered_inside inner) more')) (sym (exact_root r W n f inner (root_inside r W inner) more e))
          (subst (goal_of _) (sym (exact_root r W 0 f inner (numbered_inside inner) more' e))
          (facet_folds f inner rest h H X (λ k. length (exact_bucket f k).places) (λ k. root_inside r W inner H (exact_bucket f k)) (λ k. numbered_inside inner H (exact_bucket f k))
          (λ k. ap (λ Q. folded_facets (length Q == 0) inner (root_inside r W inner H (exact_bucket f k))) (sym (on_all r W f k)) ∙ within H (exact_bucket f k))
          (exact_keys f.kind (stats_of inner) (domain r W at_root f.change X.places)) more more' ih o behind))
      go false e =
          subst (λ printed. goal_of printed (root_buckets r W 0 f inner (numbered_inside inner) more')) (sym (offered_root r W n f inner (root_inside r W inner) more e))
          (subst (goal_of _) (sym (offered_root r W 0 f inner (numbered_inside inner) more' e))
          (facet_folds f inner rest h H X (counts f inner H X) (insides f inner H X) (numbered_insides f inner H X) (λ k. within (shards f inner H X k) (bucket_in f H X k)) (keys f inner H X) more more' ih o behind))

  root_shown : (before : Option Facet) (f : Facet) (inner rest : Nodes) → AreShownAfter (Some f) rest → (n m : ℕ)
      → ((K : List ℕ) (P : PathBucket) → Folds inner 0 0 K P) → RootFolds rest (suc n) m → (s : Show) → show_of f.kind ≡ s → IsShown before f inner s → RootFolds (facet f inner rest) n m
  root_shown before f inner rest after n m within ih its_buckets h _ =
      let more' = numbered_root r W rest in
      root_folds_buckets f inner rest after n m within ih h (is_exact f.kind) refl
      ∙ ap (λ s. numbered_facet r W s (show_first rest) f H X (root_buckets r W 0 f inner (numbered_inside inner) more') more') (sym h)
  root_shown before f inner rest after n m within ih its_number h (field, is, none) =
      subst (λ k. RootFolds (facet k inner rest) n m) (sym is) (subst (λ ns. RootFolds (facet (number_facet f.name field) ns rest) n m) (sym none)
      (number_folds f.name field rest H X (root_facets r W rest (suc n) m) (numbered_root r W rest) (nothing_in H X) ih))
  root_shown before f inner rest after n m within ih number_beside h (host, t, same, kind, plain, is, none) =
      subst (λ k. RootFolds (facet k inner rest) n m) (sym is) (subst (λ ns. RootFolds (facet (beside_facet host t) ns rest) n m) (sym none)
      (beside_folds host t rest H X (root_facets r W rest (suc n) m) (numbered_root r W rest) ih))

  root_folds : (before : Option Facet) (nodes : Nodes) → AreShownAfter before nodes → (n m : ℕ) → RootFolds nodes n m
  root_folds before no_nodes shown n m = refl
  root_folds before (statistic name s rest) shown n m =
      let e = nothing_in H X in
      past e (statistic name s rest) rest refl _ ∙ statistic_stays e e rest name _ _ _ (root_folds None rest shown (suc n) (suc m))
  root_folds before (facet f inner rest) shown n m =
      root_shown before f inner rest shown.2 n m (λ K P. nodes_fold None inner shown.1 0 0 K P) (root_folds (Some f) rest shown.2 (suc n) m) (show_of f.kind) refl shown.0

pub folds_into_numbers : FoldsIntoNumbers
folds_into_numbers r W spread = ap (bucket None (length (on_shards (numbers_below (length W)) (root_domain r W)))) (root_folds r W None r.nodes spread 0 0)
