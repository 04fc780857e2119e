-- The places that numbers hold, position by position.
use Rattle.std.proofs.Common.{◌≡◌, ◌<◌, ℕ, Bool, true, false, cond, List, [], ◌∷◌, ◌++◌, map, replicate, refl, sym, ap, ap₂, subst, ◌∙◌, append-nil, arith}
use Rattle.std.specs.List.{filter, items_where_true}
use Rattle.std.proofs.lemmas.List.{map-append, length-replicate, get_or-replicate}
use Rattle.std.proofs.lemmas.List.Elements.{filter-append}
use Rattle.fc_spec.specs.documents.Document.{Block}
use Rattle.fc_spec.specs.requests.Combining.{combined}
use Rattle.fc_spec.specs.requests.Request.{Stat}
use Rattle.fc_spec.specs.requests.Statistics.{StatValue, stats_over}
use Rattle.fc_spec.proofs.requests.Statistics.{stats_over-append}
use Rattle.fc_partial.specs.Adding.{AddUp, HasShape}
use Rattle.fc_partial.specs.Celled.{Celled, cell_at, of_one}
use Rattle.fc_partial.specs.Fitting.{StatisticsFit}
use Rattle.fc_partial.proofs.Fitting.{picked_fit}
use Rattle.fc_partial.proofs.FittingSums.{add_up}
use Rattle.fc_partial.proofs.NeutralCells.{shape_over}
use Rattle.fc_kind.specs.PlaceAt.{place_at}
use Rattle.fc_count.specs.Counted.{AreCounted, HaveCounted, held_places}

-- those that pass a test are picked by its answers
pub picked_passing : {X Y : Type 0} (f : X → Y) (t : X → Bool) (xs : List X) → items_where_true (map t xs) (map f xs) ≡ map f (filter t xs)
picked_passing f t [] = refl
picked_passing f t (x ∷ xs) = go (t x) (picked_passing f t xs)
  where
    go : (b : Bool) → items_where_true (map t xs) (map f xs) ≡ map f (filter t xs) → items_where_true (b ∷ map t xs) (f x ∷ map f xs) ≡ map f (cond b (x ∷ filter t xs) (filter t xs))
    go true h = ap (λ l. f x ∷ l) h
    go false h = h

module _ (blocks : List Block) (holds : ℕ → ℕ → Bool) (done : List ℕ) (at i : ℕ) where
  -- those that a number holds, with one more position
  held_all : held_places blocks holds (done ++ at ∷ []) i ≡ held_places blocks holds done i ++ held_places blocks holds (at ∷ []) i
  held_all = ap (map (place_at blocks)) (filter-append (λ k. holds k i) done (at ∷ [])) ∙ map-append (place_at blocks) (filter (λ k. holds k i) done) (filter (λ k. holds k i) (at ∷ []))

  pub held_more : holds at i ≡ true → held_places blocks holds (done ++ at ∷ []) i ≡ held_places blocks holds done i ++ place_at blocks at ∷ []
  held_more h = held_all ∙ ap (λ b. held_places blocks holds done i ++ map (place_at blocks) (cond b (at ∷ []) [])) h

  pub held_same : holds at i ≡ false → held_places blocks holds (done ++ at ∷ []) i ≡ held_places blocks holds done i
  held_same h = held_all ∙ ap (λ b. held_places blocks holds done i ++ map (place_at blocks) (cond b (at ∷ []) [])) h ∙ append-nil (held_places blocks holds done i)

  -- they add up with the place at the position
  pub held_add_up : (ss : List Stat) → StatisticsFit (map (place_at blocks) done ++ place_at blocks at ∷ []) → holds at i ≡ true
      → AddUp (stats_over ss (held_places blocks holds done i)) (stats_over ss (place_at blocks at ∷ []))
  held_add_up ss fit h =
      let f = place_at blocks in
      let t = λ (k : ℕ). holds k i in
      let all : StatisticsFit (map f (done ++ at ∷ [])) = subst StatisticsFit (sym (map-append f done (at ∷ []))) fit in
      let held : StatisticsFit (held_places blocks holds (done ++ at ∷ []) i) = subst StatisticsFit (picked_passing f t (done ++ at ∷ [])) (picked_fit (map t (done ++ at ∷ [])) (map f (done ++ at ∷ [])) all) in
      add_up (held_places blocks holds done i) (f at ∷ []) (subst StatisticsFit (held_more h) held) ss

-- before any position
pub none_counted : (blocks : List Block) (holds : ℕ → ℕ → Bool) (bound : ℕ) (ss : List Stat) → AreCounted blocks holds bound ss [] (record { stats = ss; cells = replicate bound (stats_over ss []) })
none_counted blocks holds bound ss = record {
  stats = refl;
  size = length-replicate bound (stats_over ss []);
  each = λ i h. get_or-replicate bound i (stats_over ss []) _ h;
}

-- one more position
module _ (blocks : List Block) (holds : ℕ → ℕ → Bool) (bound : ℕ) (ss : List Stat) (done : List ℕ) (at : ℕ) (values : List StatValue) (old new : Celled) (c : AreCounted blocks holds bound ss done old)
    (h : HaveCounted (holds at) values old new) (is : values ≡ (stats_over ss (place_at blocks at ∷ [])).values) where
  one : of_one values ≡ stats_over ss (place_at blocks at ∷ [])
  one = ap of_one is

  cell : (i : ℕ) → i < bound → (b : Bool) → holds at i ≡ b → cell_at new.cells i ≡ stats_over ss (held_places blocks holds (done ++ at ∷ []) i)
  cell i here true e =
      h.each i (omega (arith, c.size)) ∙ ap (λ b. cond b (combined old.stats (cell_at old.cells i) (of_one values)) (cell_at old.cells i)) e
      ∙ ap₂ (λ l s. combined l s (of_one values)) c.stats (c.each i here)
      ∙ ap (combined ss (stats_over ss (held_places blocks holds done i))) one
      ∙ sym (stats_over-append ss (held_places blocks holds done i) (place_at blocks at ∷ []))
      ∙ ap (stats_over ss) (sym (held_more blocks holds done at i e))
  cell i here false e =
      h.each i (omega (arith, c.size)) ∙ ap (λ b. cond b (combined old.stats (cell_at old.cells i) (of_one values)) (cell_at old.cells i)) e
      ∙ c.each i here ∙ ap (stats_over ss) (sym (held_same blocks holds done at i e))

  pub more_counted : AreCounted blocks holds bound ss (done ++ at ∷ []) new
  more_counted = record {
    stats = h.stats ∙ c.stats;
    size = h.size ∙ c.size;
    each = λ i here. cell i here (holds at i) refl;
  }

-- what was counted has its shape
pub counted_shape : (blocks : List Block) (holds : ℕ → ℕ → Bool) (bound : ℕ) (ss : List Stat) (ks : List ℕ) (c : Celled) → AreCounted blocks holds bound ss ks c → (i : ℕ) → i < bound → HasShape c.stats (cell_at c.cells i)
counted_shape blocks holds bound ss ks c h i here = rw (h.stats, h.each i here) (shape_over ss (held_places blocks holds ks i))
