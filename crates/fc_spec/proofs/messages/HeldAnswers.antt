-- What is held of answers is the answer, wherever it was told.
use Rattle.std.proofs.Common.{◌≡◌, ℕ, zero, suc, List, [], ◌∷◌, Bool, true, false, cond, ◌==◌, Option, None, Some, is_some, refl, sym, ◌∙◌, ap, inl, inr}
use Rattle.std.specs.List.{AllByRecursion}
use Rattle.std.specs.Option.{option_and_then}
use Rattle.std.proofs.lemmas.Bool.{false≢true, eqb-true}
use Rattle.fc_spec.specs.documents.World.{World, Place, on_shards}
use Rattle.fc_spec.specs.requests.Request.{Facet, Nodes, no_nodes, statistic, facet, Request, stats_of}
use Rattle.fc_spec.specs.requests.Buckets.{Key, bucket_places}
use Rattle.fc_spec.specs.requests.Paths.{Path, at_root, into, domain, path_places}
use Rattle.fc_spec.specs.messages.KeyOrder.{same_key}
use Rattle.fc_spec.specs.requests.Statistics.{Stats, stats_over}
use Rattle.fc_spec.specs.messages.Message.{Partials, no_partials, Rows, Way}
use Rattle.fc_spec.specs.messages.Target.{Target, leads_nowhere, leads_to, target_path, target_nodes, target_places, target_in, target_from, target_of, facet_at, nodes_in}
use Rattle.fc_spec.specs.messages.Answer.{partials_of, answer_keys, answer_domain, answer_rows}
use Rattle.fc_spec.specs.messages.Held.{HeldBucket, Told, find_key, row_at, descend, behind, held_in, held, or_else}
use Rattle.fc_spec.proofs.words.Members.{Member}
use Rattle.fc_spec.proofs.requests.Locality.{domain_local, bucket_local}
use Rattle.fc_spec.proofs.messages.Keys.{same_key_exact, same_key_itself}
use Rattle.fc_spec.proofs.messages.Ways.{some_exact, none_not_some, target_from-append, behind_is}

-- shard i's part of places
abbrev pub part : ℕ → List Place → List Place
part i S = on_shards (i ∷ []) S

-- shard i's bucket of a path, from its part of the bucket
abbrev pub answer_of : Request → World → ℕ → Path → Nodes → List Place → HeldBucket
answer_of r W i path nodes X = record { stats = stats_over (stats_of nodes) X; nodes = nodes; rows = answer_rows r W i path nodes X }

-- where a way leads
abbrev pub answer_at : Request → World → ℕ → Target → HeldBucket
answer_at r W i t = answer_of r W i (target_path t) (target_nodes t) (part i (target_places r W t))

-- the bucket of a key in a list of buckets, one for each of some keys
pub find_key-partials_of : (nodes : Nodes) (stats : Key → Stats) (rows : Key → Rows) (keys : List Key) (key : Key) (b : HeldBucket) → find_key nodes key (partials_of stats rows keys) ≡ Some b → b ≡ record { stats = stats key; nodes = nodes; rows = rows key }
find_key-partials_of nodes stats rows [] key b h = absurd (none_not_some b h)
find_key-partials_of nodes stats rows (k ∷ ks) key b h = go (same_key key k) refl h (find_key-partials_of nodes stats rows ks key b)
  where
    go : (c : Bool) → same_key key k ≡ c → cond c (Some (record { stats = stats k; nodes = nodes; rows = rows k })) (find_key nodes key (partials_of stats rows ks)) ≡ Some b → (find_key nodes key (partials_of stats rows ks) ≡ Some b → b ≡ record { stats = stats key; nodes = nodes; rows = rows key }) → b ≡ record { stats = stats key; nodes = nodes; rows = rows key }
    go true e f ih = sym (some_exact (record { stats = stats k; nodes = nodes; rows = rows k }) b f) ∙ ap (λ l. record { stats = stats l; nodes = nodes; rows = rows l }) (sym (same_key_exact key k e))
    go false e f ih = ih f

-- it is there for each of them
pub find_key-member : (nodes : Nodes) (stats : Key → Stats) (rows : Key → Rows) (keys : List Key) (key : Key) → Member key keys → is_some (find_key nodes key (partials_of stats rows keys)) ≡ true
find_key-member nodes stats rows [] key m = absurd m
find_key-member nodes stats rows (k ∷ ks) key m = go (same_key key k) refl m (find_key-member nodes stats rows ks key)
  where
    go : (c : Bool) → same_key key k ≡ c → Member key (k ∷ ks) → (Member key ks → is_some (find_key nodes key (partials_of stats rows ks)) ≡ true) → is_some (cond c (Some (record { stats = stats k; nodes = nodes; rows = rows k })) (find_key nodes key (partials_of stats rows ks))) ≡ true
    go true e m ih = refl
    go false e (inl h) ih = absurd (false≢true (sym e ∙ ap (same_key key) (sym h) ∙ same_key_itself key))
    go false e (inr m) ih = ih m

-- what shard i lists for a facet in the bucket of a path, from its part X of that bucket
abbrev pub listed_for : Request → World → ℕ → Path → List Place → Option (Facet × Nodes) → Partials
listed_for r W i path X None = no_partials
listed_for r W i path X (Some f) =
    partials_of (λ k. stats_over (stats_of f.1) (bucket_places (f.0).kind k (answer_domain r W i path f.0 X)))
    (λ k. answer_rows r W i (into path f.0 k) f.1 (bucket_places (f.0).kind k (answer_domain r W i path f.0 X)))
    (answer_keys (f.0).kind f.1 (answer_domain r W i path f.0 X) i)

pub row_at-answer_rows : (r : Request) (W : World) (i n : ℕ) (path : Path) (nodes : Nodes) (X : List Place) → row_at n nodes (answer_rows r W i path nodes X) ≡ listed_for r W i path X (facet_at n nodes)
row_at-answer_rows r W i n path no_nodes X = refl
row_at-answer_rows r W i zero path (statistic name s rest) X = refl
row_at-answer_rows r W i (suc n) path (statistic name s rest) X = row_at-answer_rows r W i n path rest X
row_at-answer_rows r W i zero path (facet f inner rest) X = refl
row_at-answer_rows r W i (suc n) path (facet f inner rest) X = row_at-answer_rows r W i n path rest X

-- shard i's part of the bucket of a key is made from its part of the bucket around
pub part_of_bucket : (r : Request) (W : World) (i : ℕ) (path : Path) (f : Facet) (key : Key) (S : List Place)
    → bucket_places f.kind key (answer_domain r W i path f (part i S)) ≡ part i (bucket_places f.kind key (domain r W path f.change S))
part_of_bucket r W i path f key S = ap (bucket_places f.kind key) (domain_local r W path f.change (i ∷ []) S) ∙ sym (bucket_local f.kind key (i ∷ []) (domain r W path f.change S))

-- one step down from an answer is an answer
step_from : (r : Request) (W : World) (i : ℕ) (path : Path) (nodes : Nodes) (key : Key) (f : Option (Facet × Nodes)) (b : HeldBucket) → find_key (nodes_in f) key (listed_for r W i path (part i (path_places r W path)) f) ≡ Some b
    → b ≡ answer_at r W i (target_in key (leads_to path nodes) f)
step_from r W i path nodes key None b h = absurd (none_not_some b h)
step_from r W i path nodes key (Some f) b h =
    find_key-partials_of f.1 _ _ (answer_keys (f.0).kind f.1 (answer_domain r W i path f.0 (part i (path_places r W path))) i) key b h ∙ ap (answer_of r W i (into path f.0 key) f.1) (part_of_bucket r W i path f.0 key (path_places r W path))

-- what shard i lists for the facet with a number there
abbrev listed_there : Request → World → ℕ → Target → ℕ → Partials
listed_there r W i t n = listed_for r W i (target_path t) (part i (target_places r W t)) (facet_at n (target_nodes t))

-- the bucket of a key in it
abbrev found_there : Request → World → ℕ → Target → ℕ → Key → Option HeldBucket
found_there r W i t n key = find_key (nodes_in (facet_at n (target_nodes t))) key (listed_there r W i t n)

-- where a step leads
abbrev stepped : Target → ℕ → Key → Target
stepped t n key = target_in key t (facet_at n (target_nodes t))

step_down : (r : Request) (W : World) (i : ℕ) (t : Target) (n : ℕ) (key : Key) (b : HeldBucket) → found_there r W i t n key ≡ Some b → b ≡ answer_at r W i (stepped t n key)
step_down r W i leads_nowhere n key b h = absurd (none_not_some b h)
step_down r W i (leads_to path nodes) n key b h = step_from r W i path nodes key (facet_at n nodes) b h

-- and so is what any way down leads to
pub descend_answer : (r : Request) (W : World) (i : ℕ) (way : Way) (t : Target) (b : HeldBucket) → descend way (answer_at r W i t) ≡ Some b → b ≡ answer_at r W i (target_from t way)
descend_answer r W i [] t b h = sym (some_exact (answer_at r W i t) b h)
descend_answer r W i (step ∷ way) t b h =
    go (found_there r W i t step.node step.key) refl
    (ap (λ ps. option_and_then (descend way) (find_key (nodes_in (facet_at step.node (target_nodes t))) step.key ps)) (sym (row_at-answer_rows r W i step.node (target_path t) (target_nodes t) (part i (target_places r W t)))) ∙ h)
    (descend_answer r W i way (stepped t step.node step.key) b)
  where
    next : Target
    next = stepped t step.node step.key

    go : (o : Option HeldBucket) → found_there r W i t step.node step.key ≡ o → option_and_then (descend way) o ≡ Some b → (descend way (answer_at r W i next) ≡ Some b → b ≡ answer_at r W i (target_from next way)) → b ≡ answer_at r W i (target_from next way)
    go None e k ih = absurd (none_not_some b k)
    go (Some c) e k ih = ih (ap (descend way) (sym (step_down r W i t step.node step.key c e)) ∙ k)

-- a told bucket is the answer of its shard
abbrev pub IsTold : Request → World → Told → Type 0
IsTold r W t = t.bucket ≡ answer_at r W t.shard (target_of r.nodes t.way)

pub held_in_answer : (r : Request) (W : World) (t : Told) (way : Way) (b : HeldBucket) → IsTold r W t → held_in t way ≡ Some b → b ≡ answer_at r W t.shard (target_of r.nodes way)
held_in_answer r W t way b told h = go (behind t.way way) refl h
  where
    go : (o : Option Way) → behind t.way way ≡ o → option_and_then (λ rest. descend rest t.bucket) o ≡ Some b → b ≡ answer_at r W t.shard (target_of r.nodes way)
    go None e k = absurd (none_not_some b k)
    go (Some rest) e k =
        descend_answer r W t.shard rest (target_of r.nodes t.way) b (ap (descend rest) (sym told) ∙ k)
        ∙ ap (answer_at r W t.shard) (sym (target_from-append t.way rest (leads_to at_root r.nodes))) ∙ ap (λ w. answer_at r W t.shard (target_of r.nodes w)) (sym (behind_is t.way way rest e))

-- what is held of told answers is the answer
pub held_answer : (r : Request) (W : World) (A : List Told) (i : ℕ) (way : Way) (b : HeldBucket) → AllByRecursion (IsTold r W) A → held A i way ≡ Some b → b ≡ answer_at r W i (target_of r.nodes way)
held_answer r W [] i way b all h = absurd (none_not_some b h)
held_answer r W (t ∷ ts) i way b all h = go (t.shard == i) refl h (held_answer r W ts i way b all.1)
  where
    here : t.shard ≡ i → (o : Option HeldBucket) → held_in t way ≡ o → or_else o (held ts i way) ≡ Some b → (held ts i way ≡ Some b → b ≡ answer_at r W i (target_of r.nodes way)) → b ≡ answer_at r W i (target_of r.nodes way)
    here same None e k ih = ih k
    here same (Some c) e k ih = sym (some_exact c b k) ∙ held_in_answer r W t way c all.0 e ∙ ap (λ j. answer_at r W j (target_of r.nodes way)) same

    go : (c : Bool) → (t.shard == i) ≡ c → or_else (cond c (held_in t way) None) (held ts i way) ≡ Some b → (held ts i way ≡ Some b → b ≡ answer_at r W i (target_of r.nodes way)) → b ≡ answer_at r W i (target_of r.nodes way)
    go true e k ih = here (eqb-true t.shard i e) (held_in t way) refl k ih
    go false e k ih = ih k
