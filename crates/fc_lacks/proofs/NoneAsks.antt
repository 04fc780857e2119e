-- Where no facet asks again nothing lacks.
use Rattle.std.proofs.Common.{◌≡◌, ℕ, zero, suc, List, [], ◌∷◌, ◌++◌, Bool, true, false, cond, ◌&&◌, ◌||◌, ◌==◌, refl, sym, ap}
use Rattle.std.specs.List.{flat_map}
use Rattle.std.proofs.lemmas.Bool.{false≢true}
use Rattle.fc_spec.specs.words.Lists.{is_empty}
use Rattle.fc_spec.specs.requests.Request.{Kind, terms, range, date_range, query, Facet, Nodes, no_nodes, statistic, facet}
use Rattle.fc_spec.specs.replies.Distributed.{printed_keys, carried}
use Rattle.fc_spec.specs.replies.Reading.{Reading}
use Rattle.fc_spec.specs.messages.Lacks.{Lack, facet_wanted}
use Rattle.fc_spec.specs.messages.Message.{Way}
use Rattle.fc_lacks.specs.Asking.{asks_under, asks_at}
use Rattle.fc_lacks.specs.Inside.{inside_key, lacking_under}
use Rattle.fc_lacks.specs.Keys.{keyed_of}
use Rattle.fc_lacks.specs.Lacking.{lacking_values, lacking_at, lacking}

none_of_all : {X Y : Type 0} (f : X → List Y) (xs : List X) → ((x : X) → f x ≡ []) → flat_map f xs ≡ []
none_of_all f [] h = refl
none_of_all f (x ∷ xs) h = λ i. h x i ++ none_of_all f xs h i

neither : (a b : Bool) → (a || b) ≡ false → (a ≡ false) × (b ≡ false)
neither true b h = absurd (false≢true (sym h))
neither false b h = (refl, h)

module _ {B D : Type 0} (R : Reading B D) (has : B → ℕ → Bool) where
  none_at : (kind : Kind) (inner : Nodes) (e n : ℕ) (H : List ℕ) (Y : D) (way : Way) (asks : ℕ → Bool) (under : ℕ → List Lack) → asks_under kind inner e asks ≡ false → ((d : ℕ) → asks d ≡ false → under d ≡ [])
      → lacking_at R has kind inner e n H Y way under ≡ []
  none_at (terms t) inner zero n H Y way asks under h u = ap (λ b. cond b (lacking_values R has t inner n H Y way) []) h
  none_at (terms t) inner (suc e) n H Y way asks under h u = u e h
  none_at (range g) inner e n H Y way asks under h u = u e h
  none_at (date_range g) inner e n H Y way asks under h u = u e h
  none_at (query q) inner e n H Y way asks under h u = u e h

  none_printed : (empty : Bool) (f : Facet) (all : List Lack) → all ≡ [] → facet_wanted empty f all ≡ []
  none_printed empty f all none = go (empty && is_empty f.change.exclude)
    where
      go : (b : Bool) → cond b [] all ≡ []
      go true = refl
      go false = none

  none_lacking : (nodes : Nodes) (e n : ℕ) (H : List ℕ) (X : B) (way : Way) → asks_at e nodes ≡ false → lacking R has e nodes n H X way ≡ []
  none_lacking no_nodes e n H X way h = refl
  none_lacking (statistic name s rest) e n H X way h = none_lacking rest e (suc n) H X way h
  none_lacking (facet f inner rest) e n H X way h =
      let Y = R.domain_on n f H X in
      let both = neither (asks_under f.kind inner e (λ d. asks_at d inner)) (asks_at e rest) h in
      let here = none_printed (R.count_on H X == 0) f _ (none_at f.kind inner e n H Y way (λ d. asks_at d inner) _ both.0 (λ d none. none_of_all (λ k. lacking R has d inner 0 (carried R f.kind inner H Y k) (R.bucket_at f.kind Y k) (way ++ record { node = n; key = k } ∷ [])) (printed_keys R f.kind inner H Y)
      (λ k. none_lacking inner d 0 (carried R f.kind inner H Y k) (R.bucket_at f.kind Y k) (way ++ record { node = n; key = k } ∷ []) none))) in
      let later = none_lacking rest e (suc n) H X way both.1 in
      λ i. here i ++ later i

  pub none_under : (kind : Kind) (inner : Nodes) (n : ℕ) (H : List ℕ) (Y : D) (way : Way) (d : ℕ) → asks_at d inner ≡ false → lacking_under R has kind inner n H Y way d ≡ []
  none_under kind inner n H Y way d none = none_of_all (λ k. inside_key R has inner n way d (keyed_of R kind inner H Y k)) (printed_keys R kind inner H Y) (λ k. none_lacking inner d 0 _ _ _ none)
