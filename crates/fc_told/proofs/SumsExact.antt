-- The test of a message's told buckets on the tree says that the sums with all of them fit.
use Rattle.std.proofs.Common.{◌≡◌, ℕ, ◌+◌, ◌<◌, ◌≤◌, ◌^◌, List, [], ◌∷◌, ◌++◌, true, Option, None, Some, is_some, refl, sym, ◌∙◌, ap, subst, inl, inr, arith}
use Rattle.std.specs.Prelude.{sum_by}
use Rattle.std.specs.List.{AllByRecursion}
use Rattle.std.specs.Option.{option_and_then}
use Rattle.std.proofs.lemmas.Bool.{and_parts, and_from}
use Rattle.std.proofs.lemmas.List.Sums.{sum_by-append, sum_by-cons}
use Rattle.fc_spec.specs.requests.Request.{Nodes}
use Rattle.fc_spec.specs.requests.Ranks.{offered_bound}
use Rattle.fc_spec.specs.messages.Message.{Partials, no_partials, partial, Way, Want, Ask, first, more}
use Rattle.fc_spec.specs.messages.Held.{HeldBucket, Told, behind, descend, held_in, told_by, told_wants}
use Rattle.fc_spec.specs.messages.Merged.{held_count}
use Rattle.fc_spec.specs.laws.LacksLaws.{TellApart, IsFitting}
use Rattle.fc_spec.specs.laws.SumsLaw.{held_size, SumsFit}
use Rattle.fc_spec.proofs.words.Members.{Member, each_member}
use Rattle.fc_spec.proofs.words.Differing.{Differ, pairs_differ}
use Rattle.fc_spec.proofs.messages.FittingBuckets.{shaped_are_fitting}
use Rattle.fc_spec.proofs.messages.HeldFurther.{behind_itself}
use Rattle.fc_spec.proofs.messages.Ways.{none_not_some, behind-append}
use Rattle.fc_told.specs.Trees.{Tree, count_in, size_in, at}
use Rattle.fc_told.specs.Fitting.{numbers_fit, all_fit}
use Rattle.fc_told.specs.Telling.{Tells, FitsExactly}
use Rattle.fc_told.proofs.Changing.{at-append, at_behind}
use Rattle.fc_told.proofs.HeldMore.{differ_later}
use Rattle.fc_told.proofs.Numbers.{count_within, sizes_within, numbers_from}
use Rattle.fc_told.proofs.Testing.{passes, EachFits, fits_at, fits_from}

-- ---- sums at a way, of which one shard tells once

abbrev AllOf : ℕ → List Told → Type 0
AllOf i ts = AllByRecursion (λ t. t.shard ≡ i) ts

module _ (f : Option HeldBucket → ℕ) (none : f None ≡ 0) (way : Way) where
  abbrev own : Told → ℕ
  own t = f (held_in t way)

  -- the others tell nothing there
  silent_sum : (t : Told) (ts : List Told) → is_some (held_in t way) ≡ true → ((u : Told) → Member u ts → TellApart t u) → AllOf t.shard ts → sum_by own ts ≡ 0
  silent_sum t [] h apart of_one = refl
  silent_sum t (u ∷ us) h apart of_one = go (held_in u way) refl (silent_sum t us h (λ x m. apart x (inr m)) of_one.1)
    where
      go : (o : Option HeldBucket) → held_in u way ≡ o → sum_by own us ≡ 0 → sum_by own (u ∷ us) ≡ 0
      go None e ih = let here : own u ≡ 0 = ap f e ∙ none in omega (arith, sum_by-cons own u us)
      go (Some b) e ih = absurd (apart u (inl refl) (sym of_one.0) way h (ap is_some e))

  -- so each that can be added alone can be added with all
  sum_within : (i c bound : ℕ) (ts : List Told) → c < bound → Differ TellApart ts → AllOf i ts → ((t : Told) → Member t ts → (b : HeldBucket) → held_in t way ≡ Some b → c + f (Some b) < bound) → c + sum_by own ts < bound
  sum_within i c bound [] alone d of_one each = let zero_sum : sum_by own [] ≡ 0 = refl in omega arith
  sum_within i c bound (t ∷ ts) alone d of_one each = go (held_in t way) refl (sum_within i c bound ts alone d.1 of_one.1 (λ u m. each u (inr m))) (each t (inl refl))
    where
      of_same : (us : List Told) → AllOf i us → AllOf t.shard us
      of_same [] a = tt
      of_same (u ∷ us) a = (a.0 ∙ sym of_one.0, of_same us a.1)

      go : (o : Option HeldBucket) → held_in t way ≡ o → c + sum_by own ts < bound → ((b : HeldBucket) → held_in t way ≡ Some b → c + f (Some b) < bound) → c + sum_by own (t ∷ ts) < bound
      go None e ih here = let zero_here : own t ≡ 0 = ap f e ∙ none in omega (arith, sum_by-cons own t ts)
      go (Some b) e ih here =
          let is : own t ≡ f (Some b) = ap f e in
          let others = silent_sum t ts (ap is_some e) d.0 (of_same ts of_one.1) in
          omega (arith, sum_by-cons own t ts, here b e)

-- a member's part of a sum
part_of_sum : {X : Type 0} (f : X → ℕ) (xs : List X) (x : X) → Member x xs → f x ≤ sum_by f xs
part_of_sum f [] x m = absurd m
part_of_sum f (y ∷ ys) x (inl e) = omega (arith, sum_by-cons f y ys, ap f e)
part_of_sum f (y ∷ ys) x (inr m) = omega (arith, sum_by-cons f y ys, part_of_sum f ys x m)

-- ---- the test of each

each_passes : (T : Tree) (ts : List Told) → all_fit T ts ≡ true → (t : Told) → Member t ts → passes (at t.way T) t.bucket ≡ true
each_passes T [] h t m = absurd m
each_passes T (u ∷ us) h t (inl e) = subst (λ (x : Told). passes (at x.way T) x.bucket ≡ true) (sym e) (and_parts (passes (at u.way T) u.bucket) (all_fit T us) h).0
each_passes T (u ∷ us) h t (inr m) = each_passes T us (and_parts (passes (at u.way T) u.bucket) (all_fit T us) h).1 t m

all_pass : (T : Tree) (ts : List Told) → ((t : Told) → Member t ts → passes (at t.way T) t.bucket ≡ true) → all_fit T ts ≡ true
all_pass T [] h = refl
all_pass T (u ∷ us) h = and_from (passes (at u.way T) u.bucket) (all_fit T us) (h u (inl refl)) (all_pass T us (λ t m. h t (inr m)))

-- where a bucket that passes tells, its numbers can be added
told_passes : (T : Tree) (t : Told) (way : Way) (b : HeldBucket) → passes (at t.way T) t.bucket ≡ true → held_in t way ≡ Some b → numbers_fit (at way T) b.stats ≡ true
told_passes T t way b h e = go (behind t.way way) refl e
  where
    go : (o : Option Way) → behind t.way way ≡ o → option_and_then (λ rest. descend rest t.bucket) o ≡ Some b → numbers_fit (at way T) b.stats ≡ true
    go None k f = absurd (none_not_some b f)
    go (Some rest) k f = subst (λ U. numbers_fit U b.stats ≡ true) (sym (at_behind t.way way rest T k)) (fits_at rest (at t.way T) t.bucket b h f)

held_below : (t : Told) (rest : Way) (c : HeldBucket) → descend rest t.bucket ≡ Some c → held_in t (t.way ++ rest) ≡ Some c
held_below t rest c e = ap (option_and_then (λ rest. descend rest t.bucket)) (behind-append t.way t.way [] rest (behind_itself t.way)) ∙ e

module _ (T : Tree) (A ts : List Told) (tells : Tells T A) where
  fits_to_sums : (i : ℕ) → SumsFit A → Differ TellApart ts → AllOf i ts → all_fit T ts ≡ true → SumsFit (A ++ ts)
  fits_to_sums i sums d of_one h = record {
    counts = λ way.
        let old = tells.counts way in
        let alone = sums.counts way in
        let more = sum_within held_count refl way i (count_in (at way T)) (2 ^ 64) ts (omega arith) d of_one (λ t m b e. count_within (at way T) b.stats (told_passes T t way b (each_passes T ts h t m) e)) in
        omega (arith, sum_by-append (λ (t : Told). held_count (held_in t way)) A ts);
    sizes = λ m way.
        let old = tells.sizes m way in
        let alone = sums.sizes m way in
        let more = sum_within (held_size m) refl way i (size_in m (at way T)) (2 ^ 63) ts (omega arith) d of_one (λ t n b e. sizes_within m (at way T) b.stats (omega arith) (told_passes T t way b (each_passes T ts h t n) e)) in
        omega (arith, sum_by-append (λ (t : Told). held_size m (held_in t way)) A ts);
  }

  each_fits : SumsFit (A ++ ts) → (t : Told) → Member t ts → EachFits (at t.way T) t.bucket
  each_fits sums t m rest c e =
      subst (λ U. numbers_fit U c.stats ≡ true) (at-append t.way rest T) (numbers_from (at way T) c.stats
      (let here : held_count (held_in t way) ≡ c.stats.count = ap held_count (held_below t rest c e) in
      omega (arith, tells.counts way, sums.counts way, sum_by-append (λ (u : Told). held_count (held_in u way)) A ts, part_of_sum (λ (u : Told). held_count (held_in u way)) ts t m))
      (λ k. let here = ap (held_size k) (held_below t rest c e) in
      omega (arith, tells.sizes k way, sums.sizes k way, sum_by-append (λ (u : Told). held_size k (held_in u way)) A ts, part_of_sum (λ (u : Told). held_size k (held_in u way)) ts t m)))
    where
      way : Way
      way = t.way ++ rest

-- ---- a message

wants_of_one : (nodes : Nodes) (i : ℕ) (ws : List Want) (m : Partials) → AllOf i (told_wants nodes i ws m)
wants_of_one nodes i [] m = tt
wants_of_one nodes i (w ∷ ws) no_partials = tt
wants_of_one nodes i (w ∷ ws) (partial k stats rows rest) = (refl, wants_of_one nodes i ws rest)

told_of_one : (nodes : Nodes) (i : ℕ) (ask : Ask) (m : Partials) → AllOf i (told_by nodes i ask m)
told_of_one nodes i first no_partials = tt
told_of_one nodes i first (partial k stats rows rest) = (refl, tt)
told_of_one nodes i (more ws) m = wants_of_one nodes i ws m

pub fits_exactly : FitsExactly
fits_exactly r T A i ask m shaped tells sums once = (
  λ h. fits_to_sums T A ts tells i sums (differ_later TellApart A ts (pairs_differ TellApart (A ++ ts) once)) (told_of_one r.nodes i ask m) h,
  λ s. all_pass T ts (λ t n. fits_from offered_bound (at t.way T) t.bucket (each_member (IsFitting offered_bound r) ts t (shaped_are_fitting offered_bound r i ask m shaped) n).rows (each_fits T A ts tells s t n)),
)
  where
    ts : List Told
    ts = told_by r.nodes i ask m
