-- What shards are asked next and what facets print, facet by facet.
use Rattle.std.proofs.Common.{◌≡◌, ℕ, zero, suc, ◌<◌, ◌≤◌, List, [], ◌∷◌, map, length, true, Option, Some, is_some, ◌∙◌, ap, arith}
use Rattle.std.specs.List.{list_any}
use Rattle.std.proofs.lemmas.Bool.{false≢true}
use Rattle.std.proofs.lemmas.List.{length-map}
use Rattle.std.proofs.lemmas.List.FromFn.{length-range_with_len}
use Rattle.fc_spec.specs.words.Lists.{numbers_below}
use Rattle.fc_spec.specs.messages.TopRounds.{ExactAsk, exact_least, wants_from, leasts}
use Rattle.fc_exact.specs.State.{State, ask_for, asks_least, asks_lacking, asks_behind, tops}
use Rattle.fc_exact.specs.ToldFacets.{ToldFacet, facets_in, least_of, printed_of, wants_among}
use Rattle.fc_exact.proofs.FacetsTold.{leasts_are, tops_are, wants_are}

module _ (s : State) (n : ℕ) (fs : List ToldFacet) (shards : n ≡ length s.asks) (told : fs ≡ facets_in s.told s.request.nodes 0) where
  pub least_asks_are : map (λ _. Some (exact_least (map (least_of (numbers_below n)) fs))) (numbers_below n) ≡ asks_least s
  least_asks_are =
      (λ j. map (λ _. Some (exact_least (map (least_of (numbers_below (shards j))) (told j)))) (numbers_below (shards j)))
      ∙ ap (λ ns. map (λ _. Some (exact_least ns)) (numbers_below (length s.asks))) (leasts_are s.told (numbers_below (length s.asks)) s.request.nodes 0)

  pub lacking_asks_are : map (λ i. ask_for (wants_among i 0 fs)) (numbers_below n) ≡ asks_lacking s
  lacking_asks_are = λ j. map (λ i. ask_for ((ap (wants_among i 0) told ∙ wants_are s.told i s.request.nodes 0) j)) (numbers_below (shards j))

  pub printed_are : map (printed_of (numbers_below n)) fs ≡ tops s
  printed_are = (λ j. map (printed_of (numbers_below (shards j))) (told j)) ∙ tops_are s.told (numbers_below (length s.asks)) s.request.nodes 0

-- where some shard is asked, it is behind the first round or the second
pub early_round : (s : State) (k : ℕ) → list_any is_some (asks_behind s k) ≡ true → k ≤ 2
early_round s zero some = absurd (false≢true some)
early_round s (suc zero) some = omega arith
early_round s (suc (suc zero)) some = omega arith
early_round s (suc (suc (suc k))) some = absurd (false≢true some)

length-each : {X : Type 0} (f : ℕ → X) (n : ℕ) → length (map f (numbers_below n)) ≡ n
length-each f n = length-map (numbers_below n) f ∙ length-range_with_len 0 n

-- no more are asked than there are
pub length-asks_behind : (s : State) (k : ℕ) → length (asks_behind s k) ≤ length s.asks
length-asks_behind s zero = omega arith
length-asks_behind s (suc zero) = omega (arith, length-each (λ _. Some (exact_least (leasts s.request (length s.asks) s.told))) (length s.asks))
length-asks_behind s (suc (suc zero)) = omega (arith, length-each (λ i. ask_for (wants_from s.told i s.request.nodes 0)) (length s.asks))
length-asks_behind s (suc (suc (suc k))) = omega arith

pub some_asks : (asks : List (Option ExactAsk)) → list_any is_some asks ≡ true → 0 < length asks
some_asks [] some = absurd (false≢true some)
some_asks (x ∷ asks) some = omega arith
