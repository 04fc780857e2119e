-- A tree that tells of what was told tells of one more told bucket too, with that in it.
use Rattle.std.proofs.Common.{◌≡◌, ℕ, ◌+◌, ◌<◌, ◌^◌, pos, List, [], ◌∷◌, ◌++◌, Option, None, Some, refl, sym, ◌∙◌, ap, subst, arith}
use Rattle.std.specs.Prelude.{AllPairs, option_map, sum_by, slice_index_or}
use Rattle.std.proofs.lemmas.List.Sums.{sum_by_push}
use Rattle.fc_spec.specs.requests.Request.{Terms}
use Rattle.fc_spec.specs.requests.Statistics.{number}
use Rattle.fc_spec.specs.messages.Message.{Way}
use Rattle.fc_spec.specs.messages.Target.{facet_at, nodes_in}
use Rattle.fc_spec.specs.messages.Held.{HeldBucket, Told, row_at, held_in, held}
use Rattle.fc_spec.specs.messages.Merged.{held_count, values_held}
use Rattle.fc_spec.specs.laws.LacksLaws.{TellApart}
use Rattle.fc_spec.specs.laws.SumsLaw.{size_of, held_size, SumsFit}
use Rattle.fc_spec.proofs.words.Members.{Member}
use Rattle.fc_told.specs.Trees.{Teller, Tree, Branches, tellers_in, count_in, sizes_in, size_in, forks_in, branches_at, at, teller_of, stats_told, offered_at, values_listed}
use Rattle.fc_told.specs.Adding.{with_teller, partials_added, told_added}
use Rattle.fc_told.specs.Telling.{Tells}
use Rattle.fc_told.proofs.Branches.{Ascend}
use Rattle.fc_told.proofs.Capped.{sum_within, size_within}
use Rattle.fc_told.proofs.Tellers.{Apart, teller_itself, teller_other, apart_with}
use Rattle.fc_told.proofs.Rising.{HasFittingRows, row_rises, held_in_fits}
use Rattle.fc_told.proofs.Putting.{teller_by, put_tellers, put_count, put_sizes, put_branches, ascend_added}
use Rattle.fc_told.proofs.ListedAt.{row_listed_other}
use Rattle.fc_told.proofs.ListingMore.{row_listed}
use Rattle.fc_told.proofs.Growing.{Grown, not_teller, grown_at, by_shard}

module _ (most : Terms → Option ℕ) (T : Tree) (A : List Told) (tells : Tells T A) (t : Told) (fit : HasFittingRows most t.bucket) (apart : (u : Told) → Member u A → TellApart u t) where
  stats_more : (j : ℕ) (way : Way) → stats_told j (at way (told_added t T)) ≡ option_map (λ b. b.stats) (held (A ++ t ∷ []) j way)
  stats_more j way =
      by_shard most T A tells t fit apart j way (λ U o. stats_told j U ≡ option_map (λ b. b.stats) o)
      (λ U alike. ap (λ us. option_map (λ (u : Teller). u.stats) (teller_of j us)) alike.tellers ∙ tells.stats j way)
      (λ x b e same none. ap (λ us. option_map (λ (u : Teller). u.stats) (teller_of j us)) (put_tellers t.shard x b (at way T))
      ∙ subst (λ k. option_map (λ (u : Teller). u.stats) (teller_of k (with_teller (teller_by t.shard x b) (tellers_in (at way T)))) ≡ Some b.stats) same (ap (option_map (λ (u : Teller). u.stats)) (teller_itself (teller_by t.shard x b) (tellers_in (at way T)))))
      (λ x b other. ap (λ us. option_map (λ (u : Teller). u.stats) (teller_of j us)) (put_tellers t.shard x b (at way T)) ∙ ap (option_map (λ (u : Teller). u.stats)) (teller_other j (teller_by t.shard x b) (tellers_in (at way T)) other) ∙ tells.stats j way)

  offers_more : (j n : ℕ) (way : Way) → offered_at n j (at way (told_added t T)) ≡ values_held n (held (A ++ t ∷ []) j way)
  offers_more j n way =
      by_shard most T A tells t fit apart j way (λ U o. offered_at n j U ≡ values_held n o) (λ U alike. alike.values j n ∙ tells.offers j n way)
      (λ x b e same none. ap (values_listed j) (put_branches t.shard x b n (at way T))
      ∙ ap (λ k. values_listed k (partials_added t.shard (row_at n b.nodes b.rows) (nodes_in (facet_at n b.nodes)) bs)) (sym same)
      ∙ row_listed t.shard (row_at n b.nodes b.rows) (nodes_in (facet_at n b.nodes)) bs (tells.ascends n way) (row_rises most n b (held_in_fits most t way b fit e)) (ap (λ k. values_listed k bs) same ∙ tells.offers j n way ∙ ap (values_held n) none))
      (λ x b other. ap (values_listed j) (put_branches t.shard x b n (at way T)) ∙ row_listed_other t.shard j (row_at n b.nodes b.rows) (nodes_in (facet_at n b.nodes)) bs other (tells.ascends n way) ∙ tells.offers j n way)
    where
      bs : Branches
      bs = branches_at n (forks_in (at way T))

  apart_more : (way : Way) → AllPairs Apart (tellers_in (at way (told_added t T)))
  apart_more way = go (held_in t way) refl (grown_at most T A tells t fit apart way)
    where
      go : (o : Option HeldBucket) → held_in t way ≡ o → Grown t.shard o (at way T) (at way (told_added t T)) → AllPairs Apart (tellers_in (at way (told_added t T)))
      go None e g = subst (AllPairs Apart) (sym g.tellers) (tells.apart way)
      go (Some b) e g = subst (AllPairs Apart) (sym (ap tellers_in g.1 ∙ put_tellers t.shard g.0 b (at way T))) (apart_with (teller_by t.shard g.0 b) (tellers_in (at way T)) (not_teller most T A tells t fit apart way b e) (tells.apart way))

  ascends_more : (n : ℕ) (way : Way) → Ascend (branches_at n (forks_in (at way (told_added t T))))
  ascends_more n way = go (held_in t way) (grown_at most T A tells t fit apart way)
    where
      go : (o : Option HeldBucket) → Grown t.shard o (at way T) (at way (told_added t T)) → Ascend (branches_at n (forks_in (at way (told_added t T))))
      go None g = g.ascends n
      go (Some b) g =
          subst Ascend (sym (ap (λ U. branches_at n (forks_in U)) g.1 ∙ put_branches t.shard g.0 b n (at way T))) (ascend_added t.shard (row_at n b.nodes b.rows) (nodes_in (facet_at n b.nodes)) (branches_at n (forks_in (at way T))) (tells.ascends n way))

  module _ (sums : SumsFit (A ++ t ∷ [])) where
    counts_more : (way : Way) → count_in (at way (told_added t T)) ≡ sum_by (λ u. held_count (held_in u way)) (A ++ t ∷ [])
    counts_more way = go (held_in t way) refl (grown_at most T A tells t fit apart way)
      where
        f : Told → ℕ
        f u = held_count (held_in u way)

        all : sum_by f (A ++ t ∷ []) ≡ sum_by f A + f t
        all = sum_by_push f A t

        go : (o : Option HeldBucket) → held_in t way ≡ o → Grown t.shard o (at way T) (at way (told_added t T)) → count_in (at way (told_added t T)) ≡ sum_by f (A ++ t ∷ [])
        go None e g = let here : f t ≡ 0 = ap held_count e in let old = tells.counts way in let same = g.count in omega (arith, all)
        go (Some b) e g =
            let here : f t ≡ b.stats.count = ap held_count e in
            let old : count_in (at way T) ≡ sum_by f A = tells.counts way in
            let within : sum_by f (A ++ t ∷ []) < 2 ^ 64 = sums.counts way in
            let sum = ap count_in g.1 ∙ put_count t.shard g.0 b (at way T) ∙ sum_within (count_in (at way T)) b.stats.count (omega (arith, all)) in
            omega (arith, all)

    sizes_more : (m : ℕ) (way : Way) → size_in m (at way (told_added t T)) ≡ sum_by (λ u. held_size m (held_in u way)) (A ++ t ∷ [])
    sizes_more m way = go (held_in t way) refl (grown_at most T A tells t fit apart way)
      where
        f : Told → ℕ
        f u = held_size m (held_in u way)

        all : sum_by f (A ++ t ∷ []) ≡ sum_by f A + f t
        all = sum_by_push f A t

        go : (o : Option HeldBucket) → held_in t way ≡ o → Grown t.shard o (at way T) (at way (told_added t T)) → size_in m (at way (told_added t T)) ≡ sum_by f (A ++ t ∷ [])
        go None e g = let here : f t ≡ 0 = ap (held_size m) e in let old = tells.sizes m way in let same = ap (λ zs. slice_index_or zs m 0) g.sizes in omega (arith, all)
        go (Some b) e g =
            let here : f t ≡ size_of (slice_index_or b.stats.values m (number (pos 0))) = ap (held_size m) e in
            let old : size_in m (at way T) ≡ sum_by f A = tells.sizes m way in
            let within : sum_by f (A ++ t ∷ []) < 2 ^ 63 = sums.sizes m way in
            let sum = ap (size_in m) g.1 ∙ ap (λ zs. slice_index_or zs m 0) (put_sizes t.shard g.0 b (at way T)) ∙ size_within m (sizes_in (at way T)) b.stats.values (omega (arith, all)) in
            omega (arith, all)

    pub tells_one_more : Tells (told_added t T) (A ++ t ∷ [])
    tells_one_more = record { stats = stats_more; offers = offers_more; apart = apart_more; counts = counts_more; sizes = sizes_more; ascends = ascends_more }
