-- From a known bucket to the buckets of its facets: what is held agrees with the places.
use Rattle.std.proofs.Common.{◌≡◌, ℕ, arith, List, [], ◌∷◌, ◌++◌, map, length, Bool, true, cond, ◌==◌, None, Some, sym, ◌∙◌, ap, subst, inl, inr}
use Rattle.std.specs.List.{AllByRecursion, filter, slice_get}
use Rattle.fc_spec.specs.documents.Val.{Text, Val, has_val, distinct}
use Rattle.fc_spec.specs.documents.World.{World, Place, on_shards}
use Rattle.fc_spec.specs.requests.Request.{Stat, Terms, Kind, terms, DomainChange, Facet, Nodes, Request, stats_of}
use Rattle.fc_spec.specs.requests.Buckets.{Key, value, bucket_places}
use Rattle.fc_spec.specs.requests.Paths.{at_root, into, domain}
use Rattle.fc_spec.specs.requests.Statistics.{value_over}
use Rattle.fc_spec.specs.requests.Ranks.{Entry, below_rank, rank_bound}
use Rattle.fc_spec.specs.replies.Reading.{PathBucket, PathDomain, stats_on, offered, over_places}
use Rattle.fc_spec.specs.replies.Chosen.{offering, chosen}
use Rattle.fc_spec.specs.messages.Message.{Way}
use Rattle.fc_spec.specs.messages.Target.{Target, leads_nowhere, leads_to, target_in, target_path, target_nodes, target_places, target_of, facet_at}
use Rattle.fc_spec.specs.messages.Held.{Told, held}
use Rattle.fc_spec.specs.messages.Merged.{count_held, value_held, values_held, over_held}
use Rattle.fc_spec.proofs.replies.PathBuckets.{in_key}
use Rattle.fc_spec.proofs.words.Members.{Member, passing_member, any_by_member, filter_member}
use Rattle.fc_spec.proofs.documents.Shards.{is_on}
use Rattle.fc_spec.proofs.requests.Locality.{domain_local, bucket_local, part_of_part}
use Rattle.fc_spec.proofs.messages.Ways.{none_not_some, target_from-append}
use Rattle.fc_spec.proofs.requests.Together.{IsDistinct, distinct-filter}
use Rattle.fc_spec.proofs.messages.HeldAnswers.{part, IsTold}
use Rattle.fc_spec.proofs.messages.HeldFurther.{step_to}
use Rattle.fc_spec.proofs.messages.KnownBuckets.{places_at, nodes_of, path_of, IsKnown, counts_known, values_known}
use Rattle.fc_spec.proofs.messages.OfferedHeld.{values_are_offered, offered_local, offered_is_held}
use Rattle.fc_spec.proofs.words.AlikeLists.{flat_map_alike, filter_alike_members, map_numbered_alike}

-- a bucket of the distributed reply that carries H, at a way: its path is that of the way, its part there is that of the way's places, and each shard's part is known
pub record IsState (r : Request) (W : World) (A : List Told) (H : List ℕ) (way : Way) (X : PathBucket) : Type 0 where
  pub path : X.path ≡ path_of r way
  pub places : on_shards H X.places ≡ on_shards H (places_at r W way)
  pub known : (i : ℕ) → Member i H → IsKnown r W A way i
  pub distinct : IsDistinct H

-- some of the shards of H
abbrev pub AreAmong : List ℕ → List ℕ → Type 0
AreAmong K H = (i : ℕ) → Member i K → Member i H

pub among_on : (K H : List ℕ) → AreAmong K H → (p : Place) → is_on K p ≡ true → is_on H p ≡ true
among_on K H among p on = let r = passing_member (λ i. i == p.shard) K on in any_by_member (λ i. i == p.shard) H r.0 (among r.0 r.1) r.2

one_among : (H : List ℕ) (i : ℕ) → Member i H → AreAmong (i ∷ []) H
one_among H i m j (inl e) = subst (λ k. Member k H) (sym e) m
one_among H i m j (inr n) = absurd n

-- the nodes and the places where a step to a facet leads
stepped_nodes : (t : Target) (n : ℕ) (f : Facet) (inner : Nodes) (key : Key) → facet_at n (target_nodes t) ≡ Some (f, inner) → target_nodes (target_in key t (facet_at n (target_nodes t))) ≡ inner
stepped_nodes leads_nowhere n f inner key at = absurd (none_not_some (f, inner) at)
stepped_nodes (leads_to path nodes) n f inner key at = ap (λ o. target_nodes (target_in key (leads_to path nodes) o)) at

stepped_path : (t : Target) (n : ℕ) (f : Facet) (inner : Nodes) (key : Key) → facet_at n (target_nodes t) ≡ Some (f, inner) → target_path (target_in key t (facet_at n (target_nodes t))) ≡ into (target_path t) f key
stepped_path leads_nowhere n f inner key at = absurd (none_not_some (f, inner) at)
stepped_path (leads_to path nodes) n f inner key at = ap (λ o. target_path (target_in key (leads_to path nodes) o)) at

stepped_places : (r : Request) (W : World) (t : Target) (n : ℕ) (f : Facet) (inner : Nodes) (key : Key) → facet_at n (target_nodes t) ≡ Some (f, inner)
    → target_places r W (target_in key t (facet_at n (target_nodes t))) ≡ bucket_places f.kind key (domain r W (target_path t) f.change (target_places r W t))
stepped_places r W leads_nowhere n f inner key at = absurd (none_not_some (f, inner) at)
stepped_places r W (leads_to path nodes) n f inner key at = ap (λ o. target_places r W (target_in key (leads_to path nodes) o)) at

-- and where the next step of a way does
pub next_nodes : (r : Request) (way : Way) (n : ℕ) (f : Facet) (inner : Nodes) (key : Key) → facet_at n (nodes_of r way) ≡ Some (f, inner) → nodes_of r (way ++ step_to n key) ≡ inner
next_nodes r way n f inner key at = ap target_nodes (target_from-append way (step_to n key) (leads_to at_root r.nodes)) ∙ stepped_nodes (target_of r.nodes way) n f inner key at

next_path : (r : Request) (way : Way) (n : ℕ) (f : Facet) (inner : Nodes) (key : Key) → facet_at n (nodes_of r way) ≡ Some (f, inner) → path_of r (way ++ step_to n key) ≡ into (path_of r way) f key
next_path r way n f inner key at = ap target_path (target_from-append way (step_to n key) (leads_to at_root r.nodes)) ∙ stepped_path (target_of r.nodes way) n f inner key at

pub next_bucket : (r : Request) (W : World) (way : Way) (n : ℕ) (f : Facet) (inner : Nodes) (key : Key) → facet_at n (nodes_of r way) ≡ Some (f, inner)
    → places_at r W (way ++ step_to n key) ≡ bucket_places f.kind key (domain r W (path_of r way) f.change (places_at r W way))
next_bucket r W way n f inner key at = ap (target_places r W) (target_from-append way (step_to n key) (leads_to at_root r.nodes)) ∙ stepped_places r W (target_of r.nodes way) n f inner key at

-- the domain of a facet there, over places
abbrev pub domain_there : Request → World → List ℕ → Facet → PathBucket → PathDomain
domain_there r W H f X = record { path = X.path; facet = f; places = on_shards H (domain r W X.path f.change (on_shards H X.places)) }

-- a facet of its parts
abbrev pub facet_of : Text → DomainChange → Kind → Facet
facet_of name change kind = record { name = name; change = change; kind = kind }

pub domain_there_is : (r : Request) (W : World) (A : List Told) (H : List ℕ) (way : Way) (X : PathBucket) (f : Facet) → IsState r W A H way X
    → (domain_there r W H f X).places ≡ on_shards H (domain r W (path_of r way) f.change (places_at r W way))
domain_there_is r W A H way X f state = (λ i. on_shards H (domain r W (state.path i) f.change (state.places i))) ∙ domain_local r W (path_of r way) f.change H (places_at r W way)

-- one shard's part of it
pub part_there : (r : Request) (W : World) (A : List Told) (H : List ℕ) (way : Way) (X : PathBucket) (f : Facet) (i : ℕ) → IsState r W A H way X → Member i H
    → part i (domain_there r W H f X).places ≡ part i (domain r W (path_of r way) f.change (places_at r W way))
part_there r W A H way X f i state m = ap (part i) (domain_there_is r W A H way X f state) ∙ part_of_part H (i ∷ []) (domain r W (path_of r way) f.change (places_at r W way)) (among_on (i ∷ []) H (one_among H i m))

-- the part of the next bucket on some of the shards
pub next_places : (r : Request) (W : World) (A : List Told) (H K : List ℕ) (way : Way) (X : PathBucket) (n : ℕ) (f : Facet) (inner : Nodes) (key : Key) → IsState r W A H way X → AreAmong K H → facet_at n (nodes_of r way) ≡ Some (f, inner)
    → on_shards K (bucket_places f.kind key (domain_there r W H f X).places) ≡ on_shards K (places_at r W (way ++ step_to n key))
next_places r W A H K way X n f inner key state among at =
    let D = domain r W (path_of r way) f.change (places_at r W way) in
    ap (λ Y. on_shards K (bucket_places f.kind key Y)) (domain_there_is r W A H way X f state) ∙ bucket_local f.kind key K (on_shards H D) ∙ ap (bucket_places f.kind key) (part_of_part H K D (among_on K H among))
    ∙ sym (bucket_local f.kind key K D) ∙ ap (on_shards K) (sym (next_bucket r W way n f inner key at))

-- the next bucket is such a bucket, where its shards' parts are known
pub next_state : (r : Request) (W : World) (A : List Told) (H K : List ℕ) (way : Way) (X : PathBucket) (n : ℕ) (f : Facet) (inner : Nodes) (key : Key) → IsState r W A H way X → AreAmong K H → IsDistinct K → facet_at n (nodes_of r way) ≡ Some (f, inner)
    → ((i : ℕ) → Member i K → IsKnown r W A (way ++ step_to n key) i) → IsState r W A K (way ++ step_to n key) (in_key (domain_there r W H f X) f.kind key)
next_state r W A H K way X n f inner key state among distinct at known = record {
  path = ap (λ p. into p f key) state.path ∙ sym (next_path r way n f inner key at);
  places = next_places r W A H K way X n f inner key state among at;
  known = known;
  distinct = distinct;
}

-- the count of such a bucket
pub count_agrees : (r : Request) (W : World) (A : List Told) (H : List ℕ) (way : Way) (X : PathBucket) → AllByRecursion (IsTold r W) A → IsState r W A H way X → count_held A H way ≡ length (on_shards H X.places)
count_agrees r W A H way X all state = counts_known r W A way H all state.distinct state.known ∙ sym (ap length state.places)

-- a statistic of it
pub value_agrees : (r : Request) (W : World) (A : List Told) (H : List ℕ) (way : Way) (X : PathBucket) (m : ℕ) (s : Stat) → AllByRecursion (IsTold r W) A → IsState r W A H way X → slice_get (stats_of (nodes_of r way)) m ≡ Some s
    → value_held A m s H way ≡ value_over s (on_shards H X.places)
value_agrees r W A H way X m s all state at = values_known r W A way m s H all state.distinct state.known at ∙ sym (ap (value_over s) state.places)

-- its count with its statistics
pub stats_agree : (r : Request) (W : World) (A : List Told) (H : List ℕ) (way : Way) (X : PathBucket) (nodes : Nodes) → AllByRecursion (IsTold r W) A → IsState r W A H way X → nodes_of r way ≡ nodes
    → stats_on (over_held A) (stats_of nodes) H way ≡ stats_on (over_places r W) (stats_of nodes) H X
stats_agree r W A H way X nodes all state same =
    let values = map_numbered_alike (λ (s : ℕ × Stat). value_held A s.0 s.1 H way) (λ (s : ℕ × Stat). value_over s.1 (on_shards H X.places)) 0 (stats_of nodes)
    (λ k m s e at. value_agrees r W A H way X k s all state (ap (λ ns. slice_get (stats_of ns) k) same ∙ ap (slice_get (stats_of nodes)) (omega arith) ∙ at)) in
    λ i. record { count = count_agrees r W A H way X all state i; values = values i }

-- what a shard offers
pub offers_agree : (r : Request) (W : World) (A : List Told) (H : List ℕ) (way : Way) (X : PathBucket) (n : ℕ) (name : Text) (change : DomainChange) (t : Terms) (inner : Nodes) (i : ℕ) → AllByRecursion (IsTold r W) A → IsState r W A H way X → Member i H
    → facet_at n (nodes_of r way) ≡ Some (facet_of name change (terms t), inner) → values_held n (held A i way) ≡ offered t inner (domain_there r W H (facet_of name change (terms t)) X).places i
offers_agree r W A H way X n name change t inner i all state m at =
    values_are_offered r W A way n i name change t inner all (state.known i m) at
    ∙ offered_local t inner (domain r W (path_of r way) change (places_at r W way)) (domain_there r W H (facet_of name change (terms t)) X).places i (sym (part_there r W A H way X (facet_of name change (terms t)) i state m))

pub offering_among : (p : ℕ → Bool) (H : List ℕ) → AreAmong (filter p H) H
offering_among p H i m = (filter_member p H i m).0

-- the shards that offer a value
pub offering_agrees : (r : Request) (W : World) (A : List Told) (H : List ℕ) (way : Way) (X : PathBucket) (n : ℕ) (name : Text) (change : DomainChange) (t : Terms) (inner : Nodes) (v : Val) → AllByRecursion (IsTold r W) A → IsState r W A H way X
    → facet_at n (nodes_of r way) ≡ Some (facet_of name change (terms t), inner)
    → offering (over_held A) t inner H (record { way = way; node = n }) v ≡ offering (over_places r W) t inner H (domain_there r W H (facet_of name change (terms t)) X) v
offering_agrees r W A H way X n name change t inner v all state at =
    filter_alike_members (λ i. has_val v (values_held n (held A i way))) (λ i. has_val v (offered t inner (domain_there r W H (facet_of name change (terms t)) X).places i)) H (λ i m. ap (has_val v) (offers_agree r W A H way X n name change t inner i all state m at))

-- their parts of its bucket are held
pub offering_state : (r : Request) (W : World) (A : List Told) (H : List ℕ) (way : Way) (X : PathBucket) (n : ℕ) (name : Text) (change : DomainChange) (t : Terms) (inner : Nodes) (v : Val) → AllByRecursion (IsTold r W) A → IsState r W A H way X
    → facet_at n (nodes_of r way) ≡ Some (facet_of name change (terms t), inner)
    → IsState r W A (offering (over_places r W) t inner H (domain_there r W H (facet_of name change (terms t)) X) v) (way ++ step_to n (value v)) (in_key (domain_there r W H (facet_of name change (terms t)) X) (terms t) (value v))
offering_state r W A H way X n name change t inner v all state at =
    let offers = λ (i : ℕ). has_val v (offered t inner (domain_there r W H (facet_of name change (terms t)) X).places i) in
    next_state r W A H (filter offers H) way X n (facet_of name change (terms t)) inner (value v) state (offering_among offers H) (distinct-filter offers H state.distinct) at
    (λ i m. let both = filter_member offers H i m in
    inl (offered_is_held r W A way n i name change t inner v all (state.known i both.0) at (ap (has_val v) (offers_agree r W A H way X n name change t inner i all state both.0 at) ∙ both.1)))

-- the chosen values
pub chosen_agree : (r : Request) (W : World) (A : List Told) (H : List ℕ) (way : Way) (X : PathBucket) (n : ℕ) (name : Text) (change : DomainChange) (t : Terms) (inner : Nodes) → AllByRecursion (IsTold r W) A → IsState r W A H way X
    → facet_at n (nodes_of r way) ≡ Some (facet_of name change (terms t), inner)
    → chosen (over_held A) t inner H (record { way = way; node = n }) ≡ chosen (over_places r W) t inner H (domain_there r W H (facet_of name change (terms t)) X)
chosen_agree r W A H way X n name change t inner all state at =
    let f : Facet = facet_of name change (terms t) in
    let Y = domain_there r W H (facet_of name change (terms t)) X in
    let offers = flat_map_alike (λ i. values_held n (held A i way)) (λ i. offered t inner Y.places i) H (λ i m. offers_agree r W A H way X n name change t inner i all state m at) in
    let shards = λ (v : Val). offering_agrees r W A H way X n name change t inner v all state at in
    let stats = λ (v : Val). ap (λ K. stats_on (over_held A) (stats_of inner) K (way ++ step_to n (value v))) (shards v)
    ∙ stats_agree r W A (offering (over_places r W) t inner H Y v) (way ++ step_to n (value v)) (in_key Y (terms t) (value v)) inner all (offering_state r W A H way X n name change t inner v all state at)
    (next_nodes r way n f inner (value v) at) in
    λ i. map (λ (e : Entry). e.val) (below_rank t.sort (cond t.refine (rank_bound t.offset t.limit t.overrefine) None) (map (λ v. record { val = v; stats = stats v i }) (distinct (offers i))))
