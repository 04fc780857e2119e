-- Buckets that are known from answers: held, or without a place there.
use Rattle.std.proofs.Common.{◌≡◌, ◌⊎◌, ℕ, zero, suc, ◌+◌, List, [], ◌∷◌, map, length, true, ◌&&◌, Option, None, Some, is_some, refl, sym, ◌∙◌, ap, subst, inl, inr}
use Rattle.std.specs.List.{AllByRecursion, slice_get, slice_index_or}
use Rattle.std.proofs.lemmas.Bool.{false≢true, and_parts}
use Rattle.fc_spec.specs.words.Lists.{is_empty}
use Rattle.fc_spec.specs.documents.World.{World, Place, on_shards}
use Rattle.fc_spec.specs.requests.Request.{Stat, Facet, Nodes, no_nodes, statistic, facet, Request, stats_of}
use Rattle.fc_spec.specs.requests.Statistics.{value_over, combined_value}
use Rattle.fc_spec.specs.requests.Shape.{no_exclusions}
use Rattle.fc_spec.specs.requests.Paths.{Path}
use Rattle.fc_spec.specs.messages.Message.{Way}
use Rattle.fc_spec.specs.messages.Target.{target_of, target_path, target_nodes, target_places, facet_at}
use Rattle.fc_spec.specs.messages.Held.{HeldBucket, Told, held}
use Rattle.fc_spec.specs.messages.Merged.{held_count, held_value, count_held, value_held}
use Rattle.fc_spec.proofs.words.Members.{Member}
use Rattle.fc_spec.proofs.requests.Together.{IsDistinct, length-on_more, value_on_more, on_no_shard}
use Rattle.fc_spec.proofs.messages.Ways.{none_not_some}
use Rattle.fc_spec.proofs.messages.HeldAnswers.{part, answer_at, IsTold, held_answer}

-- the places, the nodes and the path where a way leads
abbrev pub places_at : Request → World → Way → List Place
places_at r W way = target_places r W (target_of r.nodes way)

abbrev pub nodes_of : Request → Way → Nodes
nodes_of r way = target_nodes (target_of r.nodes way)

abbrev pub path_of : Request → Way → Path
path_of r way = target_path (target_of r.nodes way)

-- the bucket of shard i there is held; or it isn't, has no place, and none of its nodes excludes
abbrev pub IsKnown : Request → World → List Told → Way → ℕ → Type 0
IsKnown r W A way i = (is_some (held A i way) ≡ true) ⊎ ((held A i way ≡ None) × (part i (places_at r W way) ≡ []) × (no_exclusions (nodes_of r way) ≡ true))

-- what is held there is the answer
pub held_is : (r : Request) (W : World) (A : List Told) (way : Way) (i : ℕ) → AllByRecursion (IsTold r W) A → is_some (held A i way) ≡ true → held A i way ≡ Some (answer_at r W i (target_of r.nodes way))
held_is r W A way i all h = go (held A i way) refl h
  where
    go : (o : Option HeldBucket) → held A i way ≡ o → is_some o ≡ true → o ≡ Some (answer_at r W i (target_of r.nodes way))
    go None e k = absurd (false≢true k)
    go (Some b) e k = ap Some (held_answer r W A i way b all e)

-- the count of a known bucket
pub count_known : (r : Request) (W : World) (A : List Told) (way : Way) (i : ℕ) → AllByRecursion (IsTold r W) A → IsKnown r W A way i → held_count (held A i way) ≡ length (part i (places_at r W way))
count_known r W A way i all (inl h) = ap held_count (held_is r W A way i all h)
count_known r W A way i all (inr h) = ap held_count h.0 ∙ sym (ap length h.1)

slice_index_or-map : {X Y : Type 0} (f : X → Y) (xs : List X) (m : ℕ) (x : X) (d : Y) → slice_get xs m ≡ Some x → slice_index_or (map f xs) m d ≡ f x
slice_index_or-map f [] m x d h = absurd (none_not_some x h)
slice_index_or-map f (y ∷ ys) zero x d h = ap f (let e : y ≡ x = cc in e)
slice_index_or-map f (y ∷ ys) (suc m) x d h = slice_index_or-map f ys m x d h

-- a statistic of it
pub value_known : (r : Request) (W : World) (A : List Told) (way : Way) (i m : ℕ) (s : Stat) → AllByRecursion (IsTold r W) A → IsKnown r W A way i → slice_get (stats_of (nodes_of r way)) m ≡ Some s
    → held_value m s (held A i way) ≡ value_over s (part i (places_at r W way))
value_known r W A way i m s all (inl h) at = ap (held_value m s) (held_is r W A way i all h) ∙ slice_index_or-map (λ s. value_over s (part i (places_at r W way))) (stats_of (nodes_of r way)) m s (value_over s []) at
value_known r W A way i m s all (inr h) at = ap (held_value m s) h.0 ∙ sym (ap (value_over s) h.1)

-- the count over known shards
pub counts_known : (r : Request) (W : World) (A : List Told) (way : Way) (H : List ℕ) → AllByRecursion (IsTold r W) A → IsDistinct H → ((i : ℕ) → Member i H → IsKnown r W A way i)
    → count_held A H way ≡ length (on_shards H (places_at r W way))
counts_known r W A way [] all d known = sym (ap length (on_no_shard (places_at r W way)))
counts_known r W A way (i ∷ H) all d known =
    (λ k. count_known r W A way i all (known i (inl refl)) k + counts_known r W A way H all d.1 (λ j m. known j (inr m)) k) ∙ sym (length-on_more i H (places_at r W way) d.0)

-- a statistic over known shards
pub values_known : (r : Request) (W : World) (A : List Told) (way : Way) (m : ℕ) (s : Stat) (H : List ℕ) → AllByRecursion (IsTold r W) A → IsDistinct H → ((i : ℕ) → Member i H → IsKnown r W A way i)
    → slice_get (stats_of (nodes_of r way)) m ≡ Some s → value_held A m s H way ≡ value_over s (on_shards H (places_at r W way))
values_known r W A way m s [] all d known at = sym (ap (value_over s) (on_no_shard (places_at r W way)))
values_known r W A way m s (i ∷ H) all d known at =
    (λ k. combined_value s.of (value_known r W A way i m s all (known i (inl refl)) at k) (values_known r W A way m s H all d.1 (λ j u. known j (inr u)) at k)) ∙ sym (value_on_more s i H (places_at r W way) d.0)

-- a facet among nodes without exclusions excludes nothing, and neither do the nodes in it
pub facet_excludes_none : (n : ℕ) (nodes : Nodes) (f : Facet) (inner : Nodes) → facet_at n nodes ≡ Some (f, inner) → no_exclusions nodes ≡ true → (is_empty f.change.exclude ≡ true) × (no_exclusions inner ≡ true)
facet_excludes_none n no_nodes f inner h none = absurd (none_not_some (f, inner) h)
facet_excludes_none zero (statistic name s rest) f inner h none = absurd (none_not_some (f, inner) h)
facet_excludes_none (suc n) (statistic name s rest) f inner h none = facet_excludes_none n rest f inner h none
facet_excludes_none zero (facet g nodes rest) f inner h none =
    let same : (g, nodes) ≡ (f, inner) = cc in
    let both = and_parts (is_empty g.change.exclude && no_exclusions nodes) (no_exclusions rest) none in
    let parts = and_parts (is_empty g.change.exclude) (no_exclusions nodes) both.0 in
    subst (λ (p : Facet × Nodes). (is_empty (p.0).change.exclude ≡ true) × (no_exclusions p.1 ≡ true)) same parts
facet_excludes_none (suc n) (facet g nodes rest) f inner h none = facet_excludes_none n rest f inner h (and_parts (is_empty g.change.exclude && no_exclusions nodes) (no_exclusions rest) none).1
