-- What the answers of shards within the limits tell of a bucket can be added up.
use Rattle.std.specs.Prelude.{sum_by, unsigned_abs, slice_index_or}
use Rattle.std.proofs.Common.{◌≡◌, ◌⊎◌, ℕ, zero, suc, ◌+◌, ◌<◌, ◌≤◌, ◌^◌, ℤ, pos, nat_abs, List, [], ◌∷◌, map, length, Bool, true, false, cond, not, ◌==◌, Option, None, Some, is_some, refl, sym, ◌∙◌, ap, inl, inr, arith}
use Rattle.std.specs.List.{AllByRecursion, filter, list_any, list_all}
use Rattle.std.proofs.Math.Bool.{or-false}
use Rattle.std.proofs.lemmas.Bool.{false≢true, eqb-true, or_from}
use Rattle.std.proofs.lemmas.Int.{ints}
use Rattle.std.proofs.lemmas.List.Concat.{length-flat_map}
use Rattle.std.proofs.lemmas.List.Elements.{filter_map-append}
use Rattle.std.proofs.lemmas.List.Filters.{sum_by-filter_both}
use Rattle.std.proofs.lemmas.List.Sorted.{sum_by-IsPermutation}
use Rattle.std.proofs.lemmas.List.Sums.{sum_by-append, sum_by-cons, sum_by-le-sum_by}
use Rattle.fc_spec.specs.documents.Columns.{as_long, longs_in}
use Rattle.fc_spec.specs.documents.Document.{Document, values_of}
use Rattle.fc_spec.specs.documents.Totals.{documents_in, value_count}
use Rattle.fc_spec.specs.documents.World.{World, Place, places, on_shards}
use Rattle.fc_spec.specs.words.Lists.{joined, is_empty}
use Rattle.fc_spec.specs.queries.Matching.{matches}
use Rattle.fc_spec.specs.requests.Request.{StatKind, sum, min, max, countvals, missing, Stat, BlockStep, stay, parents, children, DomainChange, Request, stats_of}
use Rattle.fc_spec.specs.requests.Domain.{moved}
use Rattle.fc_spec.specs.requests.Buckets.{bucket_places}
use Rattle.fc_spec.specs.requests.Paths.{Path, at_root, into, rebuilt, domain, path_places}
use Rattle.fc_spec.specs.requests.Statistics.{number, pair_values, longs_of, total_of, statistic_in, value_over}
use Rattle.fc_spec.specs.scripts.WorldLimits.{IsWithinLimits}
use Rattle.fc_spec.specs.messages.Message.{Way}
use Rattle.fc_spec.specs.messages.Target.{Target, leads_nowhere, leads_to, target_of, target_nodes, target_places}
use Rattle.fc_spec.specs.messages.Held.{HeldBucket, Told, held_in}
use Rattle.fc_spec.specs.messages.Merged.{held_count}
use Rattle.fc_spec.specs.messages.Rounds.{told_in}
use Rattle.fc_spec.specs.laws.LacksLaws.{TellApart}
use Rattle.fc_spec.specs.laws.SumsLaw.{size_of, held_size, AnswersFit}
use Rattle.fc_spec.proofs.words.Members.{Member}
use Rattle.fc_spec.proofs.words.Differing.{Differ, pairs_differ}
use Rattle.fc_spec.proofs.words.PermutedFilters.{IsPermutation-filter_either}
use Rattle.fc_spec.proofs.words.Sums.{sum_by-ones}
use Rattle.fc_spec.proofs.documents.Shards.{is_on}
use Rattle.fc_spec.proofs.requests.JoinedSets.{documents_from}
use Rattle.fc_spec.proofs.messages.HeldAnswers.{part, answer_at, IsTold, held_in_answer}
use Rattle.fc_spec.proofs.messages.HeldFurther.{answers_told}

-- ---- what a filter, a domain and a path have no more of

pub fewer : {X : Type 0} (f : X → ℕ) (t : X → Bool) (xs : List X) → sum_by f (filter t xs) ≤ sum_by f xs
fewer f t xs = omega (arith, sum_by-filter_both t (λ x. not (t x)) (λ x. refl) f xs)

module _ (f : Place → ℕ) (r : Request) (W : World) where
  fewer_moved : (b : BlockStep) (Y : List Place) → sum_by f Y ≤ sum_by f (places W) → sum_by f (moved W b Y) ≤ sum_by f (places W)
  fewer_moved stay Y h = h
  fewer_moved (parents q) Y h = fewer f _ (places W)
  fewer_moved (children q) Y h = fewer f _ (places W)

  fewer_domain : (path : Path) (change : DomainChange) (X : List Place) → sum_by f X ≤ sum_by f (places W) → sum_by f (domain r W path change X) ≤ sum_by f (places W)
  fewer_domain path change X h =
      let start = cond (is_empty change.exclude) X (rebuilt r W path change.exclude) in
      let kept = fewer f (λ p. list_all (λ q. matches q p.document) change.filters) (moved W change.block start) in
      let whole = fewer_moved change.block start (go (is_empty change.exclude)) in
      omega (arith, kept, whole)
    where
      go : (c : Bool) → sum_by f (cond c X (rebuilt r W path change.exclude)) ≤ sum_by f (places W)
      go true = h
      go false = fewer f _ (places W)

  fewer_path : (path : Path) → sum_by f (path_places r W path) ≤ sum_by f (places W)
  fewer_path at_root = fewer f _ (places W)
  fewer_path (into path g key) =
      let D = domain r W path g.change (path_places r W path) in
      let own : sum_by f (bucket_places g.kind key D) ≤ sum_by f D = fewer f _ D in
      let whole = fewer_domain path g.change (path_places r W path) (fewer_path path) in
      omega (arith, own, whole)

  fewer_target : (t : Target) → sum_by f (target_places r W t) ≤ sum_by f (places W)
  fewer_target leads_nowhere = omega arith
  fewer_target (leads_to path nodes) = fewer_path path

-- one more shard's part
sum_on_more : (g : Place → ℕ) (i : ℕ) (H : List ℕ) (S : List Place) → list_any (λ j. j == i) H ≡ false → sum_by g (on_shards (i ∷ H) S) ≡ sum_by g (part i S) + sum_by g (on_shards H S)
sum_on_more g i H S apart =
    sym (sum_by-IsPermutation g _ _ (IsPermutation-filter_either (λ x. i == x.shard) (is_on H) disjoint S)) ∙ sum_by-append g (filter (λ x. i == x.shard) S) (on_shards H S)
    ∙ sym (λ k. sum_by g (filter (λ x. or-false (i == x.shard) k) S) + sum_by g (on_shards H S))
  where
    disjoint : (x : Place) → (i == x.shard) ≡ true → is_on H x ≡ true → ⊥
    disjoint x e on = false≢true (sym apart ∙ ap (λ s. list_any (λ j. j == s) H) (eqb-true i x.shard e) ∙ on)

-- ---- sums over what is told

-- the shards that tell of a bucket
abbrev tellers : Way → List Told → List ℕ
tellers way [] = []
tellers way (t ∷ ts) = cond (is_some (held_in t way)) (t.shard ∷ tellers way ts) (tellers way ts)

others_silent : (way : Way) (t : Told) (ts : List Told) → ((u : Told) → Member u ts → TellApart t u) → is_some (held_in t way) ≡ true → list_any (λ j. j == t.shard) (tellers way ts) ≡ false
others_silent way t [] apart h = refl
others_silent way t (u ∷ us) apart h = go (is_some (held_in u way)) refl (others_silent way t us (λ x m. apart x (inr m)) h)
  where
    other : is_some (held_in u way) ≡ true → (b : Bool) → (u.shard == t.shard) ≡ b → b ≡ false
    other k true e = absurd (apart u (inl refl) (sym (eqb-true u.shard t.shard e)) way h k)
    other k false e = refl

    go : (b : Bool) → is_some (held_in u way) ≡ b → list_any (λ j. j == t.shard) (tellers way us) ≡ false → list_any (λ j. j == t.shard) (cond b (u.shard ∷ tellers way us) (tellers way us)) ≡ false
    go true k ih = or_from (u.shard == t.shard) (list_any (λ j. j == t.shard) (tellers way us)) (other k (u.shard == t.shard) refl) ih
    go false k ih = ih

module _ (r : Request) (W : World) (way : Way) (v : Option HeldBucket → ℕ) (g : Place → ℕ) (nothing : v None ≡ 0)
    (each : (i : ℕ) → v (Some (answer_at r W i (target_of r.nodes way))) ≤ sum_by g (part i (target_places r W (target_of r.nodes way)))) where
  abbrev there : List Place
  there = target_places r W (target_of r.nodes way)

  told_sum : (A : List Told) → AllByRecursion (IsTold r W) A → Differ TellApart A → sum_by (λ t. v (held_in t way)) A ≤ sum_by g (on_shards (tellers way A) there)
  told_sum [] all d = omega arith
  told_sum (t ∷ ts) all d = go (held_in t way) refl (told_sum ts all.1 d.1)
    where
      first : sum_by (λ t. v (held_in t way)) (t ∷ ts) ≡ v (held_in t way) + sum_by (λ t. v (held_in t way)) ts
      first = sum_by-cons (λ t. v (held_in t way)) t ts

      go : (o : Option HeldBucket) → held_in t way ≡ o → sum_by (λ t. v (held_in t way)) ts ≤ sum_by g (on_shards (tellers way ts) there) → sum_by (λ t. v (held_in t way)) (t ∷ ts) ≤ sum_by g (on_shards (tellers way (t ∷ ts)) there)
      go None e ih =
          let here : v (held_in t way) ≡ 0 = ap v e ∙ nothing in
          let same : sum_by g (on_shards (tellers way (t ∷ ts)) there) ≡ sum_by g (on_shards (tellers way ts) there) = ap (λ o. sum_by g (on_shards (cond (is_some o) (t.shard ∷ tellers way ts) (tellers way ts)) there)) e in
          omega (arith, first, here, same, ih)
      go (Some b) e ih =
          let here : v (held_in t way) ≡ v (Some (answer_at r W t.shard (target_of r.nodes way))) = ap v (e ∙ ap Some (held_in_answer r W t way b all.0 e)) in
          let same : sum_by g (on_shards (tellers way (t ∷ ts)) there) ≡ sum_by g (on_shards (t.shard ∷ tellers way ts) there) = ap (λ o. sum_by g (on_shards (cond (is_some o) (t.shard ∷ tellers way ts) (tellers way ts)) there)) e in
          let parts = sum_on_more g t.shard (tellers way ts) there (others_silent way t ts d.0 (ap is_some e)) in
          omega (arith, first, here, same, parts, each t.shard, ih)

  -- no more than over all places
  pub told_within : (A : List Told) → AllByRecursion (IsTold r W) A → Differ TellApart A → sum_by (λ t. v (held_in t way)) A ≤ sum_by g (places W)
  told_within A all d = omega (arith, told_sum A all d, fewer g (is_on (tellers way A)) there, fewer_target g r W (target_of r.nodes way))

-- ---- statistics

-- the absolute values of a field at places, place by place
pub absolute_sum : (field : ℕ) (X : List Place) → sum_by nat_abs (longs_of field X) ≡ sum_by (λ p. sum_by nat_abs (longs_in (values_of p.document field))) X
absolute_sum field [] = refl
absolute_sum field (p ∷ ps) =
    ap (sum_by nat_abs) (filter_map-append as_long (values_of p.document field) (pair_values field ps))
    ∙ sum_by-append nat_abs (longs_in (values_of p.document field)) (longs_of field ps)
    ∙ ap (λ n. sum_by nat_abs (longs_in (values_of p.document field)) + n) (absolute_sum field ps)
    ∙ sym (sum_by-cons (λ (p : Place). sum_by nat_abs (longs_in (values_of p.document field))) p ps)

total_size : (xs : List ℤ) → unsigned_abs (total_of xs) ≤ sum_by nat_abs xs
total_size [] = omega arith
total_size (x ∷ xs) = omega (arith, ints, total_size xs, sum_by-cons nat_abs x xs)

-- what a place adds to a statistic
abbrev weight : StatKind → ℕ → Place → ℕ
weight sum field p = sum_by nat_abs (longs_in (values_of p.document field))
weight countvals field p = length (values_of p.document field)
weight _ field p = 1

one_at_most : (b : Bool) → cond b 1 0 ≤ 1
one_at_most true = omega arith
one_at_most false = omega arith

size_within : (k : StatKind) (field : ℕ) (X : List Place) → size_of (statistic_in k field X) ≤ sum_by (weight k field) X
size_within sum field X = omega (arith, total_size (longs_of field X), absolute_sum field X)
size_within min field X = omega arith
size_within max field X = omega arith
size_within countvals field X = omega (arith, length-flat_map (λ (p : Place). values_of p.document field) X)
size_within missing field X = sum_by-le-sum_by (λ (p : Place). cond (is_empty (values_of p.document field)) 1 0) (λ p. 1) X (λ p. one_at_most (is_empty (values_of p.document field)))

-- the statistic with a number, over whatever places: there is none, or it is one of the list
abbrev AtNumber : List Stat → ℕ → Type 0
AtNumber ss m = ((X : List Place) → size_of (slice_index_or (map (λ s. value_over s X) ss) m (number (pos 0))) ≡ 0) ⊎ ((s : Stat) × ((X : List Place) → size_of (slice_index_or (map (λ s. value_over s X) ss) m (number (pos 0))) ≡ size_of (value_over s X)))

at_number : (ss : List Stat) (m : ℕ) → AtNumber ss m
at_number [] m = inl (λ X. refl)
at_number (s ∷ ss) zero = inr (s, λ X. refl)
at_number (s ∷ ss) (suc m) = at_number ss m

-- ---- the limits

pub sum_by-map : {X Y : Type 0} (f : Y → ℕ) (g : X → Y) (xs : List X) → sum_by f (map g xs) ≡ sum_by (λ x. f (g x)) xs
sum_by-map f g [] = refl
sum_by-map f g (x ∷ xs) = sum_by-cons f (g x) (map g xs) ∙ ap (λ n. f (g x) + n) (sum_by-map f g xs) ∙ sym (sum_by-cons (λ x. f (g x)) x xs)

-- the values of one field are among all
pub one_field : {X : Type 0} (d : List (List X)) (field : ℕ) → length (slice_index_or d field []) ≤ sum_by length d
one_field [] field = omega arith
one_field (vs ∷ d) zero = omega (arith, sum_by-cons length vs d)
one_field (vs ∷ d) (suc field) = omega (arith, sum_by-cons length vs d, one_field d field)

module _ (W : World) (limits : IsWithinLimits W) where
  by_documents : (F : Document → ℕ) → sum_by (λ p. F p.document) (places W) ≡ sum_by F (documents_in (joined W))
  by_documents F = sym (sum_by-map F (λ (p : Place). p.document) (places W)) ∙ ap (sum_by F) (documents_from 0 W)

  few : (length (documents_in (joined W)) ≤ 1_048_576) × (value_count (documents_in (joined W)) ≤ 16_777_216)
  few = grind (arith, limits.few)

  few_places : sum_by (λ p. 1) (places W) ≤ 1_048_576
  few_places = omega (arith, by_documents (λ d. 1), sum_by-ones (documents_in (joined W)), few.0)

  weight_within : (k : StatKind) (field : ℕ) → sum_by (weight k field) (places W) < 2 ^ 63
  weight_within sum field = omega (arith, by_documents (λ d. sum_by nat_abs (longs_in (values_of d field))), limits.sums field)
  weight_within min field = omega (arith, few_places)
  weight_within max field = omega (arith, few_places)
  weight_within countvals field =
      omega (arith, by_documents (λ d. length (values_of d field)), sum_by-le-sum_by (λ (d : Document). length (values_of d field)) (λ d. sum_by (λ vs. length vs) d) (documents_in (joined W)) (λ d. one_field d field), few.1)
  weight_within missing field = omega (arith, few_places)

pub answers_fit : AnswersFit
answers_fit r W sent limits answers once = record {
  counts = λ way. (let within = told_within r W way held_count (λ p. 1) refl (λ i. (let ones = sum_by-ones (part i (target_places r W (target_of r.nodes way))) in omega (arith, ones))) A all d in omega (arith, within, few_places W limits));
  sizes = λ m way. sizes_fit m way (at_number (stats_of (target_nodes (target_of r.nodes way))) m);
}
  where
    A : List Told
    A = told_in r.nodes sent

    all : AllByRecursion (IsTold r W) A
    all = answers_told r W sent answers

    d : Differ TellApart A
    d = pairs_differ TellApart A once

    sizes_fit : (m : ℕ) (way : Way) → AtNumber (stats_of (target_nodes (target_of r.nodes way))) m → sum_by (λ t. held_size m (held_in t way)) A < 2 ^ 63
    sizes_fit m way (inl none) =
        let X = λ (i : ℕ). part i (target_places r W (target_of r.nodes way)) in
        let within = told_within r W way (held_size m) (λ p. 1) refl (λ i. (let zero_size = none (X i) in omega (arith, zero_size))) A all d in
        omega (arith, within, few_places W limits)
    sizes_fit m way (inr s) =
        let X = λ (i : ℕ). part i (target_places r W (target_of r.nodes way)) in
        let within = told_within r W way (held_size m) (weight (s.0).of (s.0).field) refl (λ i. (let same = s.1 (X i) in let size = size_within (s.0).of (s.0).field (X i) in omega (arith, same, size))) A all d in
        omega (arith, within, weight_within W limits (s.0).of (s.0).field)
