-- What lacks: chosen values of which a shard has told nothing, by the depth of their terms facets.
use Rattle.std.specs.Prelude.{◌≡◌, ℕ, zero, suc, List, [], ◌∷◌, ◌++◌, Bool, not, ◌==◌, is_some, if◌then◌else◌}
use Rattle.std.specs.List.{filter, flat_map}
use Rattle.fc_spec.specs.words.Lists.{numbers_below}
use Rattle.fc_spec.specs.requests.Request.{Terms, Kind, terms, Nodes, no_nodes, statistic, facet, Request}
use Rattle.fc_spec.specs.requests.Buckets.{value}
use Rattle.fc_spec.specs.requests.Shape.{asks_again}
use Rattle.fc_spec.specs.replies.Chosen.{chosen}
use Rattle.fc_spec.specs.replies.Distributed.{printed_keys, carried}
use Rattle.fc_spec.specs.replies.Reading.{Reading}
use Rattle.fc_spec.specs.messages.Held.{Told, held}
use Rattle.fc_spec.specs.messages.Lacks.{Lack, lacks, each_of, want_of, facet_wanted}
use Rattle.fc_spec.specs.messages.Merged.{over_held}
use Rattle.fc_spec.specs.messages.Message.{Way, Want}

-- these shards but those that have told the bucket, each with the want
abbrev pub lacked_by : {B : Type 0} → (B → ℕ → Bool) → List ℕ → B → Want → List Lack
lacked_by has H X w = each_of (filter (λ i. not (has X i)) H) w

module _ {B D : Type 0} (R : Reading B D) (has : B → ℕ → Bool) where
  -- the chosen values of the n-th node, each at the shards that have told nothing of it
  abbrev pub lacking_values : Terms → Nodes → ℕ → List ℕ → D → Way → List Lack
  lacking_values t inner n H Y way = flat_map (λ v. lacked_by has H (R.bucket_at (terms t) Y (value v)) (want_of way n (value v))) (chosen R t inner H Y)

  -- what lacks at a facet, of terms facets with e terms facets between: at depth 0 a terms facet's own chosen values, and nothing where it does not ask again; else what lacks under its buckets
  abbrev pub lacking_at : Kind → Nodes → (e n : ℕ) → List ℕ → D → Way → (under : ℕ → List Lack) → List Lack
  lacking_at (terms t) inner zero n H Y way under = if asks_again t inner then lacking_values t inner n H Y way else []
  lacking_at (terms t) inner (suc e) n H Y way under = under e
  lacking_at _ inner e n H Y way under = under e

  -- what lacks at the terms facets that ask again, with e terms facets around them, under printed buckets; for the nodes of the bucket X that carries the shards H, from the n-th node on
  abbrev pub lacking : ℕ → Nodes → ℕ → List ℕ → B → Way → List Lack
  lacking e no_nodes n H X way = []
  lacking e (statistic name s rest) n H X way = lacking e rest (suc n) H X way
  lacking e (facet f inner rest) n H X way =
      let Y = R.domain_on n f H X in
      facet_wanted (R.count_on H X == 0) f (lacking_at f.kind inner e n H Y way (λ d. flat_map (λ k. lacking d inner 0 (carried R f.kind inner H Y k) (R.bucket_at f.kind Y k) (way ++ record { node = n; key = k } ∷ []))
      (printed_keys R f.kind inner H Y))) ++ lacking e rest (suc n) H X way

-- over what messages hold, what lacks is what is wanted without what was told
abbrev pub LackingIsUntold : Type 0
LackingIsUntold = (r : Request) (n : ℕ) (A : List Told) (e : ℕ) → lacking (over_held A) (λ way i. is_some (held A i way)) e r.nodes 0 (numbers_below n) [] [] ≡ lacks r n A e
