-- What is wanted without what was told is what lacks.
use Rattle.std.proofs.Common.{◌≡◌, ℕ, zero, suc, List, [], ◌∷◌, ◌++◌, Bool, true, false, cond, not, is_some, refl, ap, ap₂, sym, ◌∙◌, ◌==◌}
use Rattle.std.specs.List.{filter, flat_map}
use Rattle.std.proofs.lemmas.List.Elements.{filter-append}
use Rattle.fc_spec.specs.requests.Request.{Terms, Kind, terms, range, date_range, query, Facet, Nodes, no_nodes, statistic, facet}
use Rattle.fc_spec.specs.requests.Buckets.{Key, value}
use Rattle.fc_spec.specs.requests.Shape.{asks_again}
use Rattle.fc_spec.specs.words.Lists.{is_empty, numbers_below}
use Rattle.fc_spec.specs.replies.Chosen.{chosen}
use Rattle.fc_spec.specs.replies.Distributed.{printed_keys, carried}
use Rattle.fc_spec.specs.replies.Reading.{Reading}
use Rattle.fc_spec.specs.messages.Held.{Told, held}
use Rattle.fc_spec.specs.messages.Lacks.{Lack, each_of, want_of, wanted_values, wanted_at, facet_wanted, wanted, untold}
use Rattle.fc_spec.specs.messages.Merged.{NodeOf, over_held}
use Rattle.fc_spec.specs.messages.Message.{Way, Want, way_of}
use Rattle.fc_lacks.specs.Lacking.{lacked_by, lacking_values, lacking_at, lacking, LackingIsUntold}

-- what a test leaves of lists one behind the other
filter-flat_map : {X Y : Type 0} (p : Y → Bool) (f : X → List Y) (xs : List X) → filter p (flat_map f xs) ≡ flat_map (λ x. filter p (f x)) xs
filter-flat_map p f [] = refl
filter-flat_map p f (x ∷ xs) = filter-append p (f x) (flat_map f xs) ∙ ap (λ ys. filter p (f x) ++ ys) (filter-flat_map p f xs)

flat_map_same : {X Y : Type 0} (f g : X → List Y) → ((x : X) → f x ≡ g x) → (xs : List X) → flat_map f xs ≡ flat_map g xs
flat_map_same f g same [] = refl
flat_map_same f g same (x ∷ xs) = ap₂ (λ a b. a ++ b) (same x) (flat_map_same f g same xs)

module _ (A : List Told) where
  abbrev R : Reading Way NodeOf
  R = over_held A

  abbrev has : Way → ℕ → Bool
  has = λ way i. is_some (held A i way)

  -- of one want at these shards
  each_untold : (w : Want) (H : List ℕ) → untold A (each_of H w) ≡ lacked_by has H (way_of w) w
  each_untold w [] = refl
  each_untold w (i ∷ H) = go (not (is_some (held A i (way_of w)))) (each_untold w H)
    where
      one : Lack
      one = record { shard = i; want = w }

      go : (b : Bool) → untold A (each_of H w) ≡ lacked_by has H (way_of w) w
          → cond b (one ∷ untold A (each_of H w)) (untold A (each_of H w)) ≡ each_of (cond b (i ∷ filter (λ j. not (has (way_of w) j)) H) (filter (λ j. not (has (way_of w) j)) H)) w
      go true ih = ap (λ ls. one ∷ ls) ih
      go false ih = ih

  -- of the chosen values
  values_untold : (t : Terms) (inner : Nodes) (n : ℕ) (H : List ℕ) (way : Way)
      → untold A (wanted_values R t inner n H (record { way = way; node = n }) way) ≡ lacking_values R has t inner n H (record { way = way; node = n }) way
  values_untold t inner n H way =
      let Y : NodeOf = record { way = way; node = n } in
      filter-flat_map _ (λ v. each_of H (want_of way n (value v))) (chosen R t inner H Y)
      ∙ flat_map_same (λ v. untold A (each_of H (want_of way n (value v)))) (λ v. lacked_by has H (way_of (want_of way n (value v))) (want_of way n (value v)))
      (λ v. each_untold (want_of way n (value v)) H) (chosen R t inner H Y)

  -- at a facet
  at_untold : (kind : Kind) (inner : Nodes) (e n : ℕ) (H : List ℕ) (way : Way) (wanted_under lacking_under : ℕ → List Lack) → ((d : ℕ) → untold A (wanted_under d) ≡ lacking_under d)
      → untold A (wanted_at R kind inner e n H (record { way = way; node = n }) way wanted_under) ≡ lacking_at R has kind inner e n H (record { way = way; node = n }) way lacking_under
  at_untold (terms t) inner zero n H way u l same = go (asks_again t inner)
    where
      go : (b : Bool) → untold A (cond b (wanted_values R t inner n H (record { way = way; node = n }) way) []) ≡ cond b (lacking_values R has t inner n H (record { way = way; node = n }) way) []
      go true = values_untold t inner n H way
      go false = refl
  at_untold (terms t) inner (suc e) n H way u l same = same e
  at_untold (range g) inner e n H way u l same = same e
  at_untold (date_range g) inner e n H way u l same = same e
  at_untold (query q) inner e n H way u l same = same e

  printed_untold : (empty : Bool) (f : Facet) (w l : List Lack) → untold A w ≡ l → untold A (facet_wanted empty f w) ≡ facet_wanted empty f l
  printed_untold true f w l same = go (is_empty f.change.exclude)
    where
      go : (b : Bool) → untold A (cond b [] w) ≡ cond b [] l
      go true = refl
      go false = same
  printed_untold false f w l same = same

  -- for the nodes of a bucket
  nodes_untold : (nodes : Nodes) (e n : ℕ) (H : List ℕ) (way : Way) → untold A (wanted R e nodes n H way way) ≡ lacking R has e nodes n H way way
  nodes_untold no_nodes e n H way = refl
  nodes_untold (statistic name s rest) e n H way = nodes_untold rest e (suc n) H way
  nodes_untold (facet f inner rest) e n H way =
      let Y : NodeOf = record { way = way; node = n } in
      let keys : List Key = printed_keys R f.kind inner H Y in
      let behind : Key → Way = λ k. way ++ record { node = n; key = k } ∷ [] in
      let wanted_under : ℕ → List Lack = λ d. flat_map (λ k. wanted R d inner 0 (carried R f.kind inner H Y k) (behind k) (behind k)) keys in
      let lacking_under : ℕ → List Lack = λ d. flat_map (λ k. lacking R has d inner 0 (carried R f.kind inner H Y k) (behind k) (behind k)) keys in
      let under : (d : ℕ) → untold A (wanted_under d) ≡ lacking_under d = λ d.
      filter-flat_map _ (λ k. wanted R d inner 0 (carried R f.kind inner H Y k) (behind k) (behind k)) keys
      ∙ flat_map_same (λ k. untold A (wanted R d inner 0 (carried R f.kind inner H Y k) (behind k) (behind k))) (λ k. lacking R has d inner 0 (carried R f.kind inner H Y k) (behind k) (behind k))
      (λ k. nodes_untold inner d 0 (carried R f.kind inner H Y k) (behind k)) keys in
      let at = at_untold f.kind inner e n H way wanted_under lacking_under under in
      let here : List Lack = wanted_at R f.kind inner e n H Y way wanted_under in
      filter-append _ (facet_wanted (R.count_on H way == 0) f here) (wanted R e rest (suc n) H way way)
      ∙ ap₂ (λ a b. a ++ b) (printed_untold (R.count_on H way == 0) f here (lacking_at R has f.kind inner e n H Y way lacking_under) at) (nodes_untold rest e (suc n) H way)

pub untold_lack : LackingIsUntold
untold_lack = λ r n A e. sym (nodes_untold A r.nodes e 0 (numbers_below n) [])
