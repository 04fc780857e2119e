-- Answers that lack nothing merge into the distributed reply: by recursion over the request's nodes.
use Rattle.std.proofs.Common.{◌≡◌, ℕ, suc, ◌+◌, List, [], ◌∷◌, ◌++◌, length, Bool, true, false, cond, ◌&&◌, ◌==◌, None, Some, is_some, refl, sym, ◌∙◌, ap, subst, inl, inr, arith}
use Rattle.std.specs.List.{AllByRecursion, flat_map, slice_get}
use Rattle.fc_spec.specs.documents.Val.{Text}
use Rattle.fc_spec.specs.words.Lists.{is_empty}
use Rattle.fc_spec.specs.documents.World.{World, on_shards}
use Rattle.fc_spec.specs.requests.Request.{Stat, Kind, terms, range, date_range, query, DomainChange, Facet, Nodes, no_nodes, statistic, facet, Request, stats_of}
use Rattle.fc_spec.specs.requests.Buckets.{Key, value, whole, bucket_places}
use Rattle.fc_spec.specs.requests.Statistics.{shown}
use Rattle.fc_spec.specs.replies.Reply.{bucket, Facets, row_of, part, with_buckets, many, one, spot_of, val_of}
use Rattle.fc_spec.specs.replies.Printed.{statistic_part, facet_part}
use Rattle.fc_spec.specs.replies.Reading.{PathBucket, PathDomain, over_places}
use Rattle.fc_spec.specs.replies.Chosen.{chosen}
use Rattle.fc_spec.specs.replies.Distributed.{printed_keys, carried, dist_buckets, dist_facets}
use Rattle.fc_spec.specs.messages.Message.{Way, way_of}
use Rattle.fc_spec.specs.messages.Target.{facet_at}
use Rattle.fc_spec.specs.messages.Held.{Told, held}
use Rattle.fc_spec.specs.messages.Merged.{count_held, over_held}
use Rattle.fc_spec.specs.messages.Lacks.{Lack, want_of, each_of, wanted_values, wanted_at, facet_wanted, wanted}
use Rattle.fc_spec.proofs.replies.PathBuckets.{in_key}
use Rattle.fc_spec.proofs.words.Members.{Member, Every}
use Rattle.fc_spec.proofs.messages.HeldAnswers.{IsTold}
use Rattle.fc_spec.proofs.messages.HeldFurther.{step_to}
use Rattle.fc_spec.proofs.messages.KnownBuckets.{nodes_of}
use Rattle.fc_spec.proofs.messages.NextBuckets.{IsState, next_nodes, facet_of, domain_there, count_agrees, value_agrees, chosen_agree}
use Rattle.fc_spec.proofs.messages.PrintedAgree.{node_at, FacetIsTold, keys_agree, carried_agree, printed_state}

-- a row's buckets, made by functions that agree on its keys
row_of_alike : (kind : Kind) (c d : Key → ℕ) (i j : Key → Facets) (keys : List Key) → ((k : Key) → Member k keys → c k ≡ d k) → ((k : Key) → Member k keys → i k ≡ j k) → row_of kind c i keys ≡ row_of kind d j keys
row_of_alike kind c d i j [] h e = refl
row_of_alike kind c d i j (k ∷ ks) h e = λ x. part (spot_of k) (bucket (val_of kind k) (h k (inl refl) x) (e k (inl refl) x)) (row_of_alike kind c d i j ks (λ l m. h l (inr m)) (λ l m. e l (inr m)) x)

-- the key of a query facet is among its keys
abbrev pub HasWhole : Kind → List Key → Type 0
HasWhole (query q) keys = Member whole keys
HasWhole _ keys = Unit {0}

with_buckets_alike : (name : Text) (kind : Kind) (c d : Key → ℕ) (i j : Key → Facets) (keys : List Key) (more : Facets) → HasWhole kind keys → ((k : Key) → Member k keys → c k ≡ d k) → ((k : Key) → Member k keys → i k ≡ j k)
    → with_buckets name kind c i keys more ≡ with_buckets name kind d j keys more
with_buckets_alike name (terms t) c d i j keys more w h e = ap (λ row. many name row more) (row_of_alike (terms t) c d i j keys h e)
with_buckets_alike name (range g) c d i j keys more w h e = ap (λ row. many name row more) (row_of_alike (range g) c d i j keys h e)
with_buckets_alike name (date_range g) c d i j keys more w h e = ap (λ row. many name row more) (row_of_alike (date_range g) c d i j keys h e)
with_buckets_alike name (query q) c d i j keys more w h e = λ x. one name (bucket None (h whole w x) (e whole w x)) more

has_whole : (r : Request) (W : World) (kind : Kind) (inner : Nodes) (H : List ℕ) (Y : PathDomain) → HasWhole kind (printed_keys (over_places r W) kind inner H Y)
has_whole r W (terms t) inner H Y = tt
has_whole r W (range g) inner H Y = tt
has_whole r W (date_range g) inner H Y = tt
has_whole r W (query q) inner H Y = inl refl

-- each shard has told of what is wanted of it
abbrev pub AllTold : List Told → List Lack → Type 0
AllTold A all = Every (λ l. is_some (held A l.shard (way_of l.want))) all

pub every_left : {X : Type 0} (p : X → Bool) (xs ys : List X) → Every p (xs ++ ys) → Every p xs
every_left p [] ys e = tt
every_left p (x ∷ xs) ys e = (e.0, every_left p xs ys e.1)

pub every_right : {X : Type 0} (p : X → Bool) (xs ys : List X) → Every p (xs ++ ys) → Every p ys
every_right p [] ys e = e
every_right p (x ∷ xs) ys e = every_right p xs ys e.1

pub every_in : {X Y : Type 0} (p : Y → Bool) (f : X → List Y) (xs : List X) (x : X) → Every p (flat_map f xs) → Member x xs → Every p (f x)
every_in p f [] x e m = absurd m
every_in p f (y ∷ ys) x e (inl h) = subst (λ z. Every p (f z)) (sym h) (every_left p (f y) (flat_map f ys) e)
every_in p f (y ∷ ys) x e (inr m) = every_in p f ys x (every_right p (f y) (flat_map f ys) e) m

told_of_each : (A : List Told) (H : List ℕ) (way : Way) (n : ℕ) (key : Key) (i : ℕ) → AllTold A (each_of H (want_of way n key)) → Member i H → is_some (held A i (way ++ step_to n key)) ≡ true
told_of_each A [] way n key i e m = absurd m
told_of_each A (j ∷ H) way n key i e (inl h) = ap (λ k. is_some (held A k (way ++ step_to n key))) h ∙ e.0
told_of_each A (j ∷ H) way n key i e (inr m) = told_of_each A H way n key i e.1 m

-- what is under the buckets of a facet
abbrev pub under_held : List Told → Kind → Nodes → ℕ → List ℕ → Way → ℕ → List Lack
under_held A kind inner n H way d = flat_map (λ k. wanted (over_held A) d inner 0 (carried (over_held A) kind inner H (node_at way n) k) (way ++ step_to n k) (way ++ step_to n k)) (printed_keys (over_held A) kind inner H (node_at way n))

-- what is wanted at a facet, d terms facets further in
abbrev pub wanted_held : List Told → Kind → Nodes → ℕ → List ℕ → Way → ℕ → List Lack
wanted_held A kind inner n H way d = wanted_at (over_held A) kind inner d n H (node_at way n) way (under_held A kind inner n H way)

-- where all is told of at a facet itself, its chosen values are told of
pub facet_told : (r : Request) (W : World) (A : List Told) (H : List ℕ) (way : Way) (X : PathBucket) (n : ℕ) (name : Text) (change : DomainChange) (kind : Kind) (inner : Nodes) → AllByRecursion (IsTold r W) A → IsState r W A H way X
    → facet_at n (nodes_of r way) ≡ Some (facet_of name change kind, inner) → AllTold A (wanted_held A kind inner n H way 0) → FacetIsTold r W A H way X n name change kind inner
facet_told r W A H way X n name change (terms t) inner all state at e = λ asks v m i here.
    told_of_each A H way n (value v) i
    (every_in (λ l. is_some (held A l.shard (way_of l.want))) (λ w. each_of H (want_of way n (value w))) (chosen (over_held A) t inner H (node_at way n)) v
    (subst (λ b. AllTold A (cond b (wanted_values (over_held A) t inner n H (node_at way n) way) [])) asks e)
    (subst (λ vs. Member v vs) (sym (chosen_agree r W A H way X n name change t inner all state at)) m)) here
facet_told r W A H way X n name change (range g) inner all state at e = tt
facet_told r W A H way X n name change (date_range g) inner all state at e = tt
facet_told r W A H way X n name change (query q) inner all state at e = tt

-- the nodes from the n-th on, and the statistics from the m-th on
abbrev pub AreFrom : Request → World → Way → ℕ → ℕ → Nodes → Type 0
AreFrom r W way n m rest = ((k : ℕ) → facet_at (n + k) (nodes_of r way) ≡ facet_at k rest) × ((k : ℕ) → slice_get (stats_of (nodes_of r way)) (m + k) ≡ slice_get (stats_of rest) k)

pub from_start : (r : Request) (W : World) (way : Way) (nodes : Nodes) → nodes_of r way ≡ nodes → AreFrom r W way 0 0 nodes
from_start r W way nodes e = (λ k. (λ i. facet_at ((let z : 0 + k ≡ k = omega arith in z) i) (e i)), λ k. (λ i. slice_get (stats_of (e i)) ((let z : 0 + k ≡ k = omega arith in z) i)))

pub facet_first : (r : Request) (W : World) (way : Way) (n m : ℕ) (f : Facet) (inner rest : Nodes) → AreFrom r W way n m (facet f inner rest) → facet_at n (nodes_of r way) ≡ Some (f, inner)
facet_first r W way n m f inner rest from = ap (λ k. facet_at k (nodes_of r way)) (let z : n ≡ n + 0 = omega arith in z) ∙ from.0 0

pub statistic_first : (r : Request) (W : World) (way : Way) (n m : ℕ) (name : Text) (s : Stat) (rest : Nodes) → AreFrom r W way n m (statistic name s rest) → slice_get (stats_of (nodes_of r way)) m ≡ Some s
statistic_first r W way n m name s rest from = ap (slice_get (stats_of (nodes_of r way))) (let z : m ≡ m + 0 = omega arith in z) ∙ from.1 0

pub after_facet : (r : Request) (W : World) (way : Way) (n m : ℕ) (f : Facet) (inner rest : Nodes) → AreFrom r W way n m (facet f inner rest) → AreFrom r W way (suc n) m rest
after_facet r W way n m f inner rest from = (λ k. ap (λ j. facet_at j (nodes_of r way)) (let z : suc n + k ≡ n + suc k = omega arith in z) ∙ from.0 (suc k), from.1)

pub after_statistic : (r : Request) (W : World) (way : Way) (n m : ℕ) (name : Text) (s : Stat) (rest : Nodes) → AreFrom r W way n m (statistic name s rest) → AreFrom r W way (suc n) (suc m) rest
after_statistic r W way n m name s rest from =
    (λ k. ap (λ j. facet_at j (nodes_of r way)) (let z : suc n + k ≡ n + suc k = omega arith in z) ∙ from.0 (suc k), λ k. ap (slice_get (stats_of (nodes_of r way))) (let z : suc m + k ≡ m + suc k = omega arith in z) ∙ from.1 (suc k))

-- the step under the buckets of a facet: there the recursion goes on, in the bucket of each printed key
abbrev pub Inside : Request → World → List Told → Nodes → Type 0
Inside r W A inner = (H : List ℕ) (way : Way) (X : PathBucket) → IsState r W A H way X → AreFrom r W way 0 0 inner → ((e : ℕ) → AllTold A (wanted (over_held A) e inner 0 H way way))
    → dist_facets (over_held A) inner 0 0 H way ≡ dist_facets (over_places r W) inner 0 0 H X

-- what is told of at a facet at every depth is told of under it
told_inside : (A : List Told) (H : List ℕ) (way : Way) (n : ℕ) (kind : Kind) (inner : Nodes) → ((e : ℕ) → AllTold A (wanted_held A kind inner n H way e)) → (e : ℕ) → AllTold A (under_held A kind inner n H way e)
told_inside A H way n (terms t) inner told e = told (suc e)
told_inside A H way n (range g) inner told e = told e
told_inside A H way n (date_range g) inner told e = told e
told_inside A H way n (query q) inner told e = told e

-- the buckets of a facet
buckets_merge : (r : Request) (W : World) (A : List Told) (H : List ℕ) (way : Way) (X : PathBucket) (n : ℕ) (name : Text) (change : DomainChange) (kind : Kind) (inner : Nodes) (more : Facets) → AllByRecursion (IsTold r W) A → IsState r W A H way X
    → facet_at n (nodes_of r way) ≡ Some (facet_of name change kind, inner) → ((e : ℕ) → AllTold A (wanted_held A kind inner n H way e)) → Inside r W A inner
    → dist_buckets (over_held A) (facet_of name change kind) inner (λ K P. dist_facets (over_held A) inner 0 0 K P) H (node_at way n) more
    ≡ dist_buckets (over_places r W) (facet_of name change kind) inner (λ K P. dist_facets (over_places r W) inner 0 0 K P) H (domain_there r W H (facet_of name change kind) X) more
buckets_merge r W A H way X n name change kind inner more all state at told inside =
    let f : Facet = facet_of name change kind in
    let Y = domain_there r W H f X in
    let facet_is = facet_told r W A H way X n name change kind inner all state at (told 0) in
    let shards = λ (k : Key). carried_agree r W A H way X n name change kind inner k all state at in
    let keys = keys_agree r W A H way X n name change kind inner all state at facet_is in
    let next = λ (k : Key) (m : Member k (printed_keys (over_places r W) kind inner H Y)). printed_state r W A H way X n name change kind inner k all state at facet_is m in
    ap (λ ks. with_buckets name kind (λ k. count_held A (carried (over_held A) kind inner H (node_at way n) k) (way ++ step_to n k)) (λ k. dist_facets (over_held A) inner 0 0 (carried (over_held A) kind inner H (node_at way n) k) (way ++ step_to n k)) ks more) keys
    ∙ with_buckets_alike name kind (λ k. count_held A (carried (over_held A) kind inner H (node_at way n) k) (way ++ step_to n k)) (λ k. length (on_shards (carried (over_places r W) kind inner H Y k) (bucket_places kind k Y.places)))
    (λ k. dist_facets (over_held A) inner 0 0 (carried (over_held A) kind inner H (node_at way n) k) (way ++ step_to n k)) (λ k. dist_facets (over_places r W) inner 0 0 (carried (over_places r W) kind inner H Y k) (in_key Y kind k))
    (printed_keys (over_places r W) kind inner H Y) more (has_whole r W kind inner H Y)
    (λ k m. ap (λ K. count_held A K (way ++ step_to n k)) (shards k) ∙ count_agrees r W A (carried (over_places r W) kind inner H Y k) (way ++ step_to n k) (in_key Y kind k) all (next k m))
    (λ k m. ap (λ K. dist_facets (over_held A) inner 0 0 K (way ++ step_to n k)) (shards k)
    ∙ inside (carried (over_places r W) kind inner H Y k) (way ++ step_to n k) (in_key Y kind k) (next k m) (from_start r W (way ++ step_to n k) inner (next_nodes r way n f inner k at))
    (λ e. subst (λ K. AllTold A (wanted (over_held A) e inner 0 K (way ++ step_to n k) (way ++ step_to n k))) (shards k)
    (every_in (λ l. is_some (held A l.shard (way_of l.want))) (λ l. wanted (over_held A) e inner 0 (carried (over_held A) kind inner H (node_at way n) l) (way ++ step_to n l) (way ++ step_to n l)) (printed_keys (over_held A) kind inner H (node_at way n)) k
    (told_inside A H way n kind inner told e) (subst (λ ks. Member k ks) (sym keys) m))))

-- a facet that is not printed is not asked about
part_merges : (A : List Told) (empty : Bool) (f : Facet) (printed other more last : Facets) (all : ℕ → List Lack) → more ≡ last → (((e : ℕ) → AllTold A (all e)) → printed ≡ other) → ((e : ℕ) → AllTold A (facet_wanted empty f (all e)))
    → facet_part empty f printed more ≡ facet_part empty f other last
part_merges A empty f printed other more last all rest h told = go (empty && is_empty f.change.exclude) told
  where
    go : (b : Bool) → ((e : ℕ) → AllTold A (cond b [] (all e))) → cond b more printed ≡ cond b last other
    go true t = rest
    go false t = h t

-- the facets of a bucket, from some node on
pub facets_merge : (r : Request) (W : World) (A : List Told) (nodes : Nodes) (n m : ℕ) (H : List ℕ) (way : Way) (X : PathBucket) → AllByRecursion (IsTold r W) A → IsState r W A H way X → AreFrom r W way n m nodes
    → ((e : ℕ) → AllTold A (wanted (over_held A) e nodes n H way way)) → dist_facets (over_held A) nodes n m H way ≡ dist_facets (over_places r W) nodes n m H X
facets_merge r W A no_nodes n m H way X all state from told = refl
facets_merge r W A (statistic name s rest) n m H way X all state from told =
    let more = facets_merge r W A rest (suc n) (suc m) H way X all state (after_statistic r W way n m name s rest from) told in
    λ i. statistic_part (count_agrees r W A H way X all state i == 0) name (shown (value_agrees r W A H way X m s all state (statistic_first r W way n m name s rest from) i)) (more i)
facets_merge r W A (facet f inner rest) n m H way X all state from told =
    let p = λ (l : Lack). is_some (held A l.shard (way_of l.want)) in
    let here = λ (e : ℕ). facet_wanted (count_held A H way == 0) f (wanted_held A f.kind inner n H way e) in
    let later = λ (e : ℕ). wanted (over_held A) e rest (suc n) H way way in
    let more = facets_merge r W A rest (suc n) m H way X all state (after_facet r W way n m f inner rest from) (λ e. every_right p (here e) (later e) (told e)) in
    part_merges A (count_held A H way == 0) f
    (dist_buckets (over_held A) f inner (λ K P. dist_facets (over_held A) inner 0 0 K P) H (node_at way n) (dist_facets (over_held A) rest (suc n) m H way))
    (dist_buckets (over_places r W) f inner (λ K P. dist_facets (over_places r W) inner 0 0 K P) H (domain_there r W H f X) (dist_facets (over_places r W) rest (suc n) m H X))
    (dist_facets (over_held A) rest (suc n) m H way) (dist_facets (over_places r W) rest (suc n) m H X) (wanted_held A f.kind inner n H way) more
    (λ t. buckets_merge r W A H way X n f.name f.change f.kind inner (dist_facets (over_held A) rest (suc n) m H way) all state (facet_first r W way n m f inner rest from) t
    (λ K w P st fr to. facets_merge r W A inner 0 0 K w P all st fr to) ∙ ap (dist_buckets (over_places r W) f inner (λ K P. dist_facets (over_places r W) inner 0 0 K P) H (domain_there r W H f X)) more)
    (λ e. every_left p (here e) (later e) (told e))
    ∙ ap (λ c. facet_part (c == 0) f (dist_buckets (over_places r W) f inner (λ K P. dist_facets (over_places r W) inner 0 0 K P) H (domain_there r W H f X) (dist_facets (over_places r W) rest (suc n) m H X)) (dist_facets (over_places r W) rest (suc n) m H X))
    (count_agrees r W A H way X all state)
