-- What is still lacking: chosen values of which a shard has told nothing, by the depth of their terms facets.
use Rattle.std.specs.Prelude.{ℕ, zero, suc, max, ◌+◌, List, [], ◌∷◌, ◌++◌, map, Bool, ◌&&◌, ◌==◌, is_none, if◌then◌else◌}
use Rattle.std.specs.List.{filter, flat_map}
use Rattle.fc_spec.specs.words.Lists.{is_empty, numbers_below}
use Rattle.fc_spec.specs.requests.Request.{Terms, Kind, terms, Facet, Nodes, no_nodes, statistic, facet, Request}
use Rattle.fc_spec.specs.requests.Buckets.{Key, value}
use Rattle.fc_spec.specs.requests.Shape.{asks_again}
use Rattle.fc_spec.specs.replies.Chosen.{chosen}
use Rattle.fc_spec.specs.replies.Distributed.{printed_keys, carried}
use Rattle.fc_spec.specs.messages.Message.{Way, Want, way_of}
use Rattle.fc_spec.specs.messages.Held.{Told, held}
use Rattle.fc_spec.specs.replies.Reading.{Reading}
use Rattle.fc_spec.specs.messages.Merged.{over_held}

-- a bucket that a shard is to be asked for
pub record Lack : Type 0 where
  pub shard : ℕ
  pub want : Want

-- the bucket of a key of the n-th node, in the bucket where a way leads
abbrev pub want_of : Way → ℕ → Key → Want
want_of way n key = record { path = way; node = n; key = key }

-- these shards, each with the bucket
abbrev pub each_of : List ℕ → Want → List Lack
each_of H w = map (λ i. record { shard = i; want = w }) H

-- the chosen values of the n-th node, each at every shard of H
abbrev pub wanted_values : {B D : Type 0} → Reading B D → Terms → Nodes → ℕ → List ℕ → D → Way → List Lack
wanted_values R t inner n H Y way = flat_map (λ v. each_of H (want_of way n (value v))) (chosen R t inner H Y)

-- what is wanted at a facet, of terms facets with e terms facets between: at depth 0 a terms facet's own chosen values, and nothing where it does not ask again; else what is wanted under its buckets
abbrev pub wanted_at : {B D : Type 0} → Reading B D → Kind → Nodes → (e n : ℕ) → List ℕ → D → Way → (under : ℕ → List Lack) → List Lack
wanted_at R (terms t) inner zero n H Y way under = if asks_again t inner then wanted_values R t inner n H Y way else []
wanted_at R (terms t) inner (suc e) n H Y way under = under e
wanted_at R _ inner e n H Y way under = under e

-- nothing of a facet that is not printed
abbrev pub facet_wanted : (empty : Bool) → Facet → List Lack → List Lack
facet_wanted empty f all = if empty && is_empty f.change.exclude then [] else all

-- what is wanted of shards: the chosen values of the terms facets that ask again, with e terms facets around them, under printed buckets; for the nodes of the bucket X that carries the shards H, from the n-th node on
abbrev pub wanted : {B D : Type 0} → Reading B D → ℕ → Nodes → ℕ → List ℕ → B → Way → List Lack
wanted R e no_nodes n H X way = []
wanted R e (statistic name s rest) n H X way = wanted R e rest (suc n) H X way
wanted R e (facet f inner rest) n H X way =
    let Y = R.domain_on n f H X in
    facet_wanted (R.count_on H X == 0) f (wanted_at R f.kind inner e n H Y way (λ d. flat_map (λ k. wanted R d inner 0 (carried R f.kind inner H Y k) (R.bucket_at f.kind Y k) (way ++ record { node = n; key = k } ∷ []))
    (printed_keys R f.kind inner H Y))) ++ wanted R e rest (suc n) H X way

-- of these, what a shard has told nothing of
abbrev pub untold : List Told → List Lack → List Lack
untold A all = filter (λ l. is_none (held A l.shard (way_of l.want))) all

-- what lacks at the terms facets with e terms facets around them, of n shards
abbrev pub lacks : Request → ℕ → List Told → ℕ → List Lack
lacks r n A e = untold A (wanted (over_held A) e r.nodes 0 (numbers_below n) [] [])

-- one for a terms facet
abbrev pub own_depth : Kind → ℕ
own_depth (terms t) = 1
own_depth _ = 0

-- how many terms facets stand around each other at most
abbrev pub terms_depth : Nodes → ℕ
terms_depth no_nodes = 0
terms_depth (statistic name s rest) = terms_depth rest
terms_depth (facet f inner rest) = max (own_depth f.kind + terms_depth inner) (terms_depth rest)
