-- Which places find one among the places of a set.
use Rattle.std.proofs.Common.{◌≡◌, List, [], ◌∷◌, ◌++◌, map, length, Bool, true, false, ◌&&◌, ◌||◌, refl, ◌∙◌, ap}
use Rattle.std.specs.List.{list_any, items_where_true}
use Rattle.std.proofs.Math.Bool.{or-false}
use Rattle.std.proofs.lemmas.Bool.{false_from_ne_true}
use Rattle.std.proofs.lemmas.List.{map-append}
use Rattle.std.proofs.lemmas.List.Folds.{list_any-append}
use Rattle.fc_spec.specs.documents.World.{Place}
use Rattle.fc_spec.proofs.words.Members.{Every}
use Rattle.fc_spec.proofs.words.WhereTrue.{items_where_true-append, every_where_true}

none_found : {X : Type 0} (t known : X → Bool) (xs : List X) → Every known xs → ((x : X) → known x ≡ true → t x ≡ false) → list_any t xs ≡ false
none_found t known [] e h = refl
none_found t known (x ∷ xs) e h = ap (λ b. b || list_any t xs) (h x e.0) ∙ none_found t known xs e.1 h

map_agree : {X : Type 0} (f g known : X → Bool) (xs : List X) → Every known xs → ((x : X) → known x ≡ true → f x ≡ g x) → map f xs ≡ map g xs
map_agree f g known [] e h = refl
map_agree f g known (x ∷ xs) e h = λ i. h x e.0 i ∷ map_agree f g known xs e.1 h i

-- of each place whether it passes, and finds one of the places at the positions in the set
abbrev pub found : (Place → Bool) → (Place → Place → Bool) → List Bool → List Place → List Bool
found pre u set X = map (λ p. pre p && list_any (u p) (items_where_true set X)) X

-- places that pass one test and places that pass another find none of each other
pub found_split : (pre : Place → Bool) (u : Place → Place → Bool) (near far : Place → Bool) (a b : List Bool) (X Y : List Place) → length a ≡ length X → Every near X → Every far Y
    → ((p y : Place) → near p ≡ true → far y ≡ true → u p y ≡ true → ⊥) → ((p y : Place) → far p ≡ true → near y ≡ true → u p y ≡ true → ⊥) → found pre u (a ++ b) (X ++ Y) ≡ found pre u a X ++ found pre u b Y
found_split pre u near far a b X Y e here there forth back =
    ap (λ Z. map (λ p. pre p && list_any (u p) Z) (X ++ Y)) (items_where_true-append a b X Y e)
    ∙ map-append (λ p. pre p && list_any (u p) (items_where_true a X ++ items_where_true b Y)) X Y
    ∙ (λ i. first i ++ second i)
  where
    first : map (λ p. pre p && list_any (u p) (items_where_true a X ++ items_where_true b Y)) X ≡ found pre u a X
    first = map_agree _ _ near X here (λ p h. ap (λ c. pre p && c)
        (list_any-append (u p) (items_where_true a X) (items_where_true b Y)
        ∙ ap (λ c. list_any (u p) (items_where_true a X) || c) (none_found (u p) far (items_where_true b Y) (every_where_true far b Y there) (λ y k. false_from_ne_true (u p y) (forth p y h k)))
        ∙ or-false (list_any (u p) (items_where_true a X))))

    second : map (λ p. pre p && list_any (u p) (items_where_true a X ++ items_where_true b Y)) Y ≡ found pre u b Y
    second = map_agree _ _ far Y there (λ p h. ap (λ c. pre p && c)
        (list_any-append (u p) (items_where_true a X) (items_where_true b Y)
        ∙ ap (λ c. c || list_any (u p) (items_where_true b Y)) (none_found (u p) near (items_where_true a X) (every_where_true near a X here) (λ y k. false_from_ne_true (u p y) (back p y h k)))))
