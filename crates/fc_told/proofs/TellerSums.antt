-- The sums over those who told a bucket are no more than those over what was told.
use Rattle.std.proofs.Common.{◌≡◌, ℕ, ◌+◌, ◌≤◌, pos, List, [], ◌∷◌, Bool, true, false, cond, ◌==◌, Option, None, Some, refl, sym, ◌∙◌, ap, inl, inr, arith}
use Rattle.std.specs.Prelude.{option_map, sum_by, slice_index_or}
use Rattle.std.proofs.lemmas.Bool.{eqb-true, eq-eqb}
use Rattle.std.proofs.lemmas.List.Sums.{sum_by-cons}
use Rattle.fc_spec.specs.requests.Statistics.{Stats, number}
use Rattle.fc_spec.specs.messages.Message.{Way}
use Rattle.fc_spec.specs.messages.Held.{HeldBucket, Told, held_in, held, or_else}
use Rattle.fc_spec.specs.messages.Merged.{held_count}
use Rattle.fc_spec.specs.laws.SumsLaw.{size_of, held_size}
use Rattle.fc_spec.proofs.words.Members.{Member}
use Rattle.fc_spec.proofs.words.Differing.{Differ, pairs_differ}
use Rattle.fc_told.specs.Trees.{Teller, Tree, tellers_in, teller_of, at}
use Rattle.fc_told.specs.Telling.{Tells, SumsOfTellers}
use Rattle.fc_told.proofs.Tellers.{Apart, differs}

-- each teller is found
found : (us : List Teller) → Differ Apart us → (u : Teller) → Member u us → teller_of u.shard us ≡ Some u
found [] d u m = absurd m
found (x ∷ us) d u (inl e) = ap (λ b. cond b (Some x) (teller_of u.shard us)) (eq-eqb x.shard u.shard (ap (λ (y : Teller). y.shard) (sym e))) ∙ ap Some (sym e)
found (x ∷ us) d u (inr m) = ap (λ b. cond b (Some x) (teller_of u.shard us)) (differs x.shard u.shard (d.0 u m)) ∙ found us d.1 u m

-- a number that statistics make; nothing makes none
module _ (g : Stats → ℕ) where
  abbrev number_of : Option Stats → ℕ
  number_of None = 0
  number_of (Some s) = g s

  abbrev of_held : Option HeldBucket → ℕ
  of_held o = number_of (option_map (λ (b : HeldBucket). b.stats) o)

  module _ (way : Way) where
    -- c for each teller of the shard
    abbrev once : ℕ → ℕ → Teller → ℕ
    once s c u = cond (s == u.shard) c 0

    once_none : (s c : ℕ) (us : List Teller) → ((u : Teller) → Member u us → s ≡ u.shard → ⊥) → sum_by (once s c) us ≡ 0
    once_none s c [] apart = refl
    once_none s c (u ∷ us) apart =
        let here : once s c u ≡ 0 = ap (λ b. cond b c 0) (differs s u.shard (apart u (inl refl))) in
        let rest = once_none s c us (λ x m. apart x (inr m)) in
        omega (arith, sum_by-cons (once s c) u us)

    once_bounded : (s c : ℕ) (us : List Teller) → Differ Apart us → sum_by (once s c) us ≤ c
    once_bounded s c [] d = let none : sum_by (once s c) [] ≡ 0 = refl in omega arith
    once_bounded s c (u ∷ us) d = go (s == u.shard) refl (once_bounded s c us d.1)
      where
        go : (b : Bool) → (s == u.shard) ≡ b → sum_by (once s c) us ≤ c → sum_by (once s c) (u ∷ us) ≤ c
        go true e ih =
            let here : once s c u ≡ c = ap (λ b. cond b c 0) e in
            let rest = once_none s c us (λ x m h. d.0 x m (sym (eqb-true s u.shard e) ∙ h)) in
            omega (arith, sum_by-cons (once s c) u us)
        go false e ih = let here : once s c u ≡ 0 = ap (λ b. cond b c 0) e in omega (arith, sum_by-cons (once s c) u us)

    abbrev by_teller : List Told → Teller → ℕ
    by_teller A u = of_held (held A u.shard way)

    one_more : (t : Told) (ts : List Told) (i : ℕ) → of_held (held (t ∷ ts) i way) ≤ cond (t.shard == i) (of_held (held_in t way)) 0 + of_held (held ts i way)
    one_more t ts i = go (t.shard == i) (held_in t way)
      where
        go : (b : Bool) (o : Option HeldBucket) → of_held (or_else (cond b o None) (held ts i way)) ≤ cond b (of_held o) 0 + of_held (held ts i way)
        go true None = omega arith
        go true (Some b) = omega arith
        go false o = omega arith

    more_told : (t : Told) (ts : List Told) (us : List Teller) → sum_by (by_teller (t ∷ ts)) us ≤ sum_by (once t.shard (of_held (held_in t way))) us + sum_by (by_teller ts) us
    more_told t ts [] =
        let a : sum_by (by_teller (t ∷ ts)) [] ≡ 0 = refl in omega arith
    more_told t ts (u ∷ us) =
        omega (arith, one_more t ts u.shard, more_told t ts us, sum_by-cons (by_teller (t ∷ ts)) u us, sum_by-cons (once t.shard (of_held (held_in t way))) u us, sum_by-cons (by_teller ts) u us)

    nothing_told : (us : List Teller) → sum_by (by_teller []) us ≡ 0
    nothing_told [] = refl
    nothing_told (u ∷ us) = let ih = nothing_told us in let here : by_teller [] u ≡ 0 = refl in omega (arith, sum_by-cons (by_teller []) u us)

    bounded : (A : List Told) (us : List Teller) → Differ Apart us → sum_by (by_teller A) us ≤ sum_by (λ t. of_held (held_in t way)) A
    bounded [] us d = let none = nothing_told us in omega arith
    bounded (t ∷ ts) us d =
        omega (arith, more_told t ts us, once_bounded t.shard (of_held (held_in t way)) us d, bounded ts us d, sum_by-cons (λ (t : Told). of_held (held_in t way)) t ts)

    -- what tellers told is what is held of them
    told_is_held : (T : Tree) (A : List Told) → Tells T A → (us : List Teller) → ((u : Teller) → Member u us → teller_of u.shard (tellers_in (at way T)) ≡ Some u) → sum_by (λ u. g u.stats) us ≡ sum_by (by_teller A) us
    told_is_held T A tells [] h = refl
    told_is_held T A tells (u ∷ us) h =
        let here : g u.stats ≡ by_teller A u = ap (λ o. number_of (option_map (λ (x : Teller). x.stats) o)) (sym (h u (inl refl))) ∙ ap number_of (tells.stats u.shard way) in
        let rest = told_is_held T A tells us (λ x m. h x (inr m)) in
        sum_by-cons (λ (x : Teller). g x.stats) u us ∙ (λ j. here j + rest j) ∙ sym (sum_by-cons (by_teller A) u us)

    within : (T : Tree) (A : List Told) → Tells T A → sum_by (λ (u : Teller). g u.stats) (tellers_in (at way T)) ≤ sum_by (λ t. of_held (held_in t way)) A
    within T A tells =
        let apart = pairs_differ Apart (tellers_in (at way T)) (tells.apart way) in
        let same = told_is_held T A tells (tellers_in (at way T)) (found (tellers_in (at way T)) apart) in
        let bound = bounded A (tellers_in (at way T)) apart in
        omega arith

count_is : (o : Option HeldBucket) → of_held (λ s. s.count) o ≡ held_count o
count_is None = refl
count_is (Some b) = refl

size_is : (m : ℕ) (o : Option HeldBucket) → of_held (λ s. size_of (slice_index_or s.values m (number (pos 0)))) o ≡ held_size m o
size_is m None = refl
size_is m (Some b) = refl

pub sums_of_tellers : SumsOfTellers
sums_of_tellers T A tells once sums = record {
  counts = λ way.
      let same : sum_by (λ (t : Told). of_held (λ s. s.count) (held_in t way)) A ≡ sum_by (λ t. held_count (held_in t way)) A = (λ j. sum_by (λ (t : Told). count_is (held_in t way) j) A) in
      let bound = within (λ s. s.count) way T A tells in
      omega (arith, sums.counts way);
  sizes = λ m way.
      let same : sum_by (λ (t : Told). of_held (λ s. size_of (slice_index_or s.values m (number (pos 0)))) (held_in t way)) A ≡ sum_by (λ t. held_size m (held_in t way)) A = (λ j. sum_by (λ (t : Told). size_is m (held_in t way) j) A) in
      let bound = within (λ s. size_of (slice_index_or s.values m (number (pos 0)))) way T A tells in
      omega (arith, sums.sizes m way);
}
