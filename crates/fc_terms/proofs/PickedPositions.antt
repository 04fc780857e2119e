-- Sets of the positions that another set and a list have.
use Rattle.std.proofs.Common.{◌≡◌, ℕ, zero, suc, Bool, true, false, ◌&&◌, not, List, [], ◌∷◌, length, get_or, map, replicate, refl, sym, ap, ap₂, ◌∙◌, arith}
use Rattle.std.proofs.lemmas.List.{get_or_default, length-map, same_lists}
use Rattle.fc_lists.specs.Among.{is_among}
use Rattle.fc_lane.proofs.BitLists.{get_or-zip_with}
use Rattle.fc_spec.specs.documents.Sets.{zip_with}
use Rattle.fc_spec.specs.documents.Val.{Val}
use Rattle.fc_spec.proofs.words.WhereTrue.{length-zip_with}
use Rattle.fc_terms.specs.Selected.{where_values}

and_false : (b : Bool) → (b && false) ≡ false
and_false true = refl
and_false false = refl

-- the set has the positions of another that stand in the list
pub record ArePicked (docs : List Bool) (positions : List ℕ) (into : List Bool) : Type 0 where
  pub size : length into ≡ length docs
  pub same : (at : ℕ) → get_or into at false ≡ (get_or docs at false && is_among at positions)

-- the positions of the values that pass
pub picked_where : (passes : List Val → Bool) (column : List (List Val)) (docs into : List Bool) (positions : List ℕ) → length docs ≡ length column → length into ≡ length docs
    → ((at : ℕ) → get_or into at false ≡ (get_or docs at false && is_among at positions))
    → ((at : ℕ) → is_among at positions ≡ get_or (map passes column) at false) → into ≡ where_values passes column docs
picked_where passes column docs into positions even size same those =
    let long = length-map column passes in
    let all = length-zip_with ◌&&◌ docs (map passes column) (even ∙ sym long) in
    same_lists into (where_values passes column docs) (size ∙ sym all) (λ k d inside.
    get_or_default into k d false inside ∙ same k ∙ ap (λ b. get_or docs k false && b) (those k)
    ∙ sym (get_or-zip_with ◌&&◌ docs (map passes column) k (even ∙ sym long) (omega (arith, size)))
    ∙ sym (get_or_default (where_values passes column docs) k d false (omega (arith, all, size))))

-- ---- none
where_none : (docs : List Bool) (n : ℕ) → length docs ≡ n → zip_with ◌&&◌ docs (replicate n false) ≡ replicate n false
where_none [] zero e = refl
where_none [] (suc n) e = absurd (omega arith)
where_none (b ∷ docs) zero e = absurd (omega arith)
where_none (b ∷ docs) (suc n) e = ap₂ (λ a l. a ∷ l) (and_false b) (where_none docs n (omega arith))

pub nothing_where : (passes : List Val → Bool) (column : List (List Val)) (docs : List Bool) → length docs ≡ length column → replicate (length column) false ≡ map passes column
    → replicate (length column) false ≡ where_values passes column docs
nothing_where passes column docs even none = sym (where_none docs (length column) even) ∙ ap (zip_with ◌&&◌ docs) none

-- those that are not among the others
pub where_not : {X : Type 0} (p : X → Bool) (docs : List Bool) (xs : List X) → zip_with (λ here there. here && not there) docs (map (λ x. not (p x)) xs) ≡ zip_with ◌&&◌ docs (map p xs)
where_not p [] xs = refl
where_not p (b ∷ docs) [] = refl
where_not p (b ∷ docs) (x ∷ xs) = ap₂ (λ a l. (b && a) ∷ l) (twice (p x)) (where_not p docs xs)
  where
    twice : (a : Bool) → not (not a) ≡ a
    twice true = refl
    twice false = refl
