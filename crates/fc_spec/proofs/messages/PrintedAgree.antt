-- A facet prints the same keys over what is held as over places, and its buckets are known.
use Rattle.std.proofs.Common.{◌≡◌, ◌⊎◌, ℕ, List, ◌++◌, map, Bool, true, false, cond, ◌==◌, nat_le, Some, refl, sym, ◌∙◌, ap, subst, inl, inr}
use Rattle.std.specs.List.{AllByRecursion, filter}
use Rattle.fc_spec.specs.documents.Val.{Text, Val}
use Rattle.fc_spec.specs.documents.World.{World}
use Rattle.fc_spec.specs.requests.Request.{Terms, Kind, terms, range, date_range, query, DomainChange, Facet, Nodes, Request}
use Rattle.fc_spec.specs.requests.Buckets.{Key, value, missing}
use Rattle.fc_spec.specs.requests.Ranks.{Entry, rank, page}
use Rattle.fc_spec.specs.replies.Printed.{asked, terms_keys}
use Rattle.fc_spec.specs.requests.Shape.{counts_all}
use Rattle.fc_spec.specs.replies.Reading.{PathBucket, PathDomain, over_places}
use Rattle.fc_spec.specs.replies.Chosen.{offering, entry_on, chosen, known, chosen_entries}
use Rattle.fc_spec.specs.replies.Distributed.{printed_keys, carried}
use Rattle.fc_spec.specs.messages.Message.{Way}
use Rattle.fc_spec.specs.messages.Target.{facet_at}
use Rattle.fc_spec.specs.messages.Held.{Told}
use Rattle.fc_spec.specs.messages.Merged.{NodeOf, over_held}
use Rattle.fc_spec.proofs.replies.PathBuckets.{in_key}
use Rattle.fc_spec.proofs.words.Members.{Member, filter_member}
use Rattle.fc_spec.proofs.requests.Together.{IsDistinct, distinct-filter}
use Rattle.fc_spec.proofs.replies.DistinctKeys.{asked_is}
use Rattle.fc_spec.proofs.messages.HeldAnswers.{IsTold}
use Rattle.fc_spec.proofs.messages.HeldFurther.{step_to}
use Rattle.fc_spec.proofs.messages.KnownBuckets.{nodes_of}
use Rattle.fc_spec.proofs.words.AlikeLists.{map_alike, member_append, member_map, member_flat_map}
use Rattle.fc_spec.proofs.messages.NextBuckets.{IsState, AreAmong, next_nodes, next_state, facet_of, domain_there, stats_agree, offering_agrees, offering_among, chosen_agree}
use Rattle.fc_spec.proofs.messages.PrintedKnown.{other_keys, other_known, AreTold, value_bucket_known}

-- the node where a facet stands
abbrev pub node_at : Way → ℕ → NodeOf
node_at way n = record { way = way; node = n }

-- what is told of the chosen values of a facet
abbrev pub FacetIsTold : Request → World → List Told → List ℕ → Way → PathBucket → ℕ → Text → DomainChange → Kind → Nodes → Type 0
FacetIsTold r W A H way X n name change (terms t) inner = AreTold A H way n t inner (chosen (over_places r W) t inner H (domain_there r W H (facet_of name change (terms t)) X))
FacetIsTold r W A H way X n name change _ inner = Unit {0}

known_among : (r : Request) (W : World) (t : Terms) (inner : Nodes) (H : List ℕ) (Y : PathDomain) (v : Val) → AreAmong (known (over_places r W) t inner H Y v) H
known_among r W t inner H Y v = go (counts_all t inner)
  where
    go : (b : Bool) → AreAmong (cond b H (offering (over_places r W) t inner H Y v)) H
    go true i m = m
    go false i m = offering_among _ H i m

known_distinct : (r : Request) (W : World) (t : Terms) (inner : Nodes) (H : List ℕ) (Y : PathDomain) (v : Val) → IsDistinct H → IsDistinct (known (over_places r W) t inner H Y v)
known_distinct r W t inner H Y v d = go (counts_all t inner)
  where
    go : (b : Bool) → IsDistinct (cond b H (offering (over_places r W) t inner H Y v))
    go true = d
    go false = distinct-filter _ H d

-- the bucket of a chosen value, over its known shards
value_state : (r : Request) (W : World) (A : List Told) (H : List ℕ) (way : Way) (X : PathBucket) (n : ℕ) (name : Text) (change : DomainChange) (t : Terms) (inner : Nodes) (v : Val) → AllByRecursion (IsTold r W) A → IsState r W A H way X
    → facet_at n (nodes_of r way) ≡ Some (facet_of name change (terms t), inner) → FacetIsTold r W A H way X n name change (terms t) inner → Member v (chosen (over_places r W) t inner H (domain_there r W H (facet_of name change (terms t)) X))
    → IsState r W A (known (over_places r W) t inner H (domain_there r W H (facet_of name change (terms t)) X) v) (way ++ step_to n (value v)) (in_key (domain_there r W H (facet_of name change (terms t)) X) (terms t) (value v))
value_state r W A H way X n name change t inner v all state at told m =
    let Y = domain_there r W H (facet_of name change (terms t)) X in
    next_state r W A H (known (over_places r W) t inner H Y v) way X n (facet_of name change (terms t)) inner (value v) state (known_among r W t inner H Y v) (known_distinct r W t inner H Y v state.distinct) at
    (λ i here. value_bucket_known r W A H way X n name change t inner (chosen (over_places r W) t inner H Y) v i all state at told m here)

known_agrees : (r : Request) (W : World) (A : List Told) (H : List ℕ) (way : Way) (X : PathBucket) (n : ℕ) (name : Text) (change : DomainChange) (t : Terms) (inner : Nodes) (v : Val) → AllByRecursion (IsTold r W) A → IsState r W A H way X
    → facet_at n (nodes_of r way) ≡ Some (facet_of name change (terms t), inner) → known (over_held A) t inner H (node_at way n) v ≡ known (over_places r W) t inner H (domain_there r W H (facet_of name change (terms t)) X) v
known_agrees r W A H way X n name change t inner v all state at = ap (cond (counts_all t inner) H) (offering_agrees r W A H way X n name change t inner v all state at)

-- the chosen values with their statistics
chosen_entries_agree : (r : Request) (W : World) (A : List Told) (H : List ℕ) (way : Way) (X : PathBucket) (n : ℕ) (name : Text) (change : DomainChange) (t : Terms) (inner : Nodes) → AllByRecursion (IsTold r W) A → IsState r W A H way X
    → facet_at n (nodes_of r way) ≡ Some (facet_of name change (terms t), inner) → FacetIsTold r W A H way X n name change (terms t) inner
    → chosen_entries (over_held A) t inner H (node_at way n) ≡ chosen_entries (over_places r W) t inner H (domain_there r W H (facet_of name change (terms t)) X)
chosen_entries_agree r W A H way X n name change t inner all state at told =
    let Y = domain_there r W H (facet_of name change (terms t)) X in
    let f : Facet = facet_of name change (terms t) in
    ap (map (λ v. entry_on (over_held A) t inner H (node_at way n) (known (over_held A) t inner H (node_at way n) v) v)) (chosen_agree r W A H way X n name change t inner all state at)
    ∙ map_alike (λ v. entry_on (over_held A) t inner H (node_at way n) (known (over_held A) t inner H (node_at way n) v) v) (λ v. entry_on (over_places r W) t inner H Y (known (over_places r W) t inner H Y v) v) (chosen (over_places r W) t inner H Y)
    (λ v m.
    ap (λ K. entry_on (over_held A) t inner H (node_at way n) K v) (known_agrees r W A H way X n name change t inner v all state at)
    ∙ ap (λ st. record { val = v; stats = st }) (stats_agree r W A (known (over_places r W) t inner H Y v) (way ++ step_to n (value v)) (in_key Y (terms t) (value v)) inner all
    (value_state r W A H way X n name change t inner v all state at told m) (next_nodes r way n f inner (value v) at)))

-- the printed keys
pub keys_agree : (r : Request) (W : World) (A : List Told) (H : List ℕ) (way : Way) (X : PathBucket) (n : ℕ) (name : Text) (change : DomainChange) (kind : Kind) (inner : Nodes) → AllByRecursion (IsTold r W) A → IsState r W A H way X
    → facet_at n (nodes_of r way) ≡ Some (facet_of name change kind, inner) → FacetIsTold r W A H way X n name change kind inner
    → printed_keys (over_held A) kind inner H (node_at way n) ≡ printed_keys (over_places r W) kind inner H (domain_there r W H (facet_of name change kind) X)
keys_agree r W A H way X n name change (terms t) inner all state at told = ap (terms_keys t) (chosen_entries_agree r W A H way X n name change t inner all state at told)
keys_agree r W A H way X n name change (range g) inner all state at told = refl
keys_agree r W A H way X n name change (date_range g) inner all state at told = refl
keys_agree r W A H way X n name change (query q) inner all state at told = refl

-- the shards that the bucket of a key carries
pub carried_agree : (r : Request) (W : World) (A : List Told) (H : List ℕ) (way : Way) (X : PathBucket) (n : ℕ) (name : Text) (change : DomainChange) (kind : Kind) (inner : Nodes) (key : Key) → AllByRecursion (IsTold r W) A → IsState r W A H way X
    → facet_at n (nodes_of r way) ≡ Some (facet_of name change kind, inner) → carried (over_held A) kind inner H (node_at way n) key ≡ carried (over_places r W) kind inner H (domain_there r W H (facet_of name change kind) X) key
carried_agree r W A H way X n name change (terms t) inner (value v) all state at = known_agrees r W A H way X n name change t inner v all state at
carried_agree r W A H way X n name change _ inner _ all state at = refl

-- a printed key of a terms facet is a chosen value, or missing
printed_value : (t : Terms) (entries : List Entry) (key : Key) → Member key (terms_keys t entries) → ((e : Entry) × Member e entries × (key ≡ value e.val)) ⊎ Member key (asked t.missing missing)
printed_value t entries key m = elim (member_append (map (λ e. value e.val) (page t.sort t.offset t.limit kept)) (asked t.missing missing) key m) [
  | inl a ↦ (let r = member_map (λ e. value e.val) (page t.sort t.offset t.limit kept) key a in
      let k = member_flat_map (λ k. filter (λ e. rank t.sort kept e == k) kept) _ r.0 r.1 in
      let e = (filter_member (λ e. rank t.sort kept e == k.0) kept r.0 k.2).0 in
      inl (r.0, (filter_member (λ e. nat_le t.mincount e.stats.count) entries r.0 e).0, r.2))
  | inr b ↦ inr b
]
  where
    kept : List Entry
    kept = filter (λ e. nat_le t.mincount e.stats.count) entries

-- the bucket of another key than a value, over the shards of the bucket around it
other_state : (r : Request) (W : World) (A : List Told) (H : List ℕ) (way : Way) (X : PathBucket) (n : ℕ) (f : Facet) (inner : Nodes) (key : Key) → AllByRecursion (IsTold r W) A → IsState r W A H way X
    → facet_at n (nodes_of r way) ≡ Some (f, inner) → Member key (other_keys f.kind) → IsState r W A H (way ++ step_to n key) (in_key (domain_there r W H f X) f.kind key)
other_state r W A H way X n f inner key all state at m =
    next_state r W A H H way X n f inner key state (λ i here. here) state.distinct at (λ i here. other_known r W A H way X n f inner key i all state at m here)

-- the bucket of a printed key, over the shards that it carries
pub printed_state : (r : Request) (W : World) (A : List Told) (H : List ℕ) (way : Way) (X : PathBucket) (n : ℕ) (name : Text) (change : DomainChange) (kind : Kind) (inner : Nodes) (key : Key) → AllByRecursion (IsTold r W) A → IsState r W A H way X
    → facet_at n (nodes_of r way) ≡ Some (facet_of name change kind, inner) → FacetIsTold r W A H way X n name change kind inner → Member key (printed_keys (over_places r W) kind inner H (domain_there r W H (facet_of name change kind) X))
    → IsState r W A (carried (over_places r W) kind inner H (domain_there r W H (facet_of name change kind) X) key) (way ++ step_to n key) (in_key (domain_there r W H (facet_of name change kind) X) kind key)
printed_state r W A H way X n name change (terms t) inner key all state at told m =
    let Y = domain_there r W H (facet_of name change (terms t)) X in
    elim (printed_value t (chosen_entries (over_places r W) t inner H Y) key m) [
      | inl a ↦ (let v = member_map (λ v. entry_on (over_places r W) t inner H Y (known (over_places r W) t inner H Y v) v) (chosen (over_places r W) t inner H Y) a.0 a.1 in
          subst (λ k. IsState r W A (carried (over_places r W) (terms t) inner H Y k) (way ++ step_to n k) (in_key Y (terms t) k)) (sym (a.2 ∙ ap (λ (e : Entry). value e.val) v.2)) (value_state r W A H way X n name change t inner v.0 all state at told v.1))
      | inr b ↦ subst (λ k. IsState r W A (carried (over_places r W) (terms t) inner H Y k) (way ++ step_to n k) (in_key Y (terms t) k)) (sym (asked_is t.missing missing key b))
          (other_state r W A H way X n (facet_of name change (terms t)) inner missing all state at (subst (λ k. Member k (asked t.missing missing)) (asked_is t.missing missing key b) b))
    ]
printed_state r W A H way X n name change (range g) inner key all state at told m = other_state r W A H way X n (facet_of name change (range g)) inner key all state at m
printed_state r W A H way X n name change (date_range g) inner key all state at told m = other_state r W A H way X n (facet_of name change (date_range g)) inner key all state at m
printed_state r W A H way X n name change (query q) inner key all state at told m = other_state r W A H way X n (facet_of name change (query q)) inner key all state at m
