-- Positions that are put into a set where another set has them too.
use Rattle.std.proofs.Common.{◌≡◌, ℕ, ◌<◌, ◌+◌, ◌==◌, ◌&&◌, ◌||◌, ◌⊎◌, inl, inr, Bool, true, false, List, [], ◌∷◌, ◌++◌, length, map, get_or, slice_set, sym, ap, subst, ◌∙◌, arith, eq-eqb, ne_eqb, zero-add, length-append}
use Rattle.std.proofs.lemmas.Bool.{and_from, and_left, cases_eq}
use Rattle.std.proofs.lemmas.List.{get_or-append-add, get_or-map, get_or-set_other, get_or-set_same, get_or_default, length-map, length-set, same_lists}
use Rattle.std.proofs.lemmas.List.Folds.{list_any-append}
use Rattle.std.proofs.Math.Bool.{and_comm, or-false, or-true}
use Rattle.fc_spec.specs.documents.Sets.{zip_with}
use Rattle.fc_lists.specs.Among.{is_among}
use Rattle.fc_lists.proofs.OfNumbers.{is_among-positions, positions_lie}
use Rattle.fc_docset.specs.Positions.{contains, positions}
use Rattle.fc_lane.proofs.BitLists.{get_or-zip_with}
use Rattle.fc_kind.proofs.BucketPlaces.{length-zip_with}

-- the set has those of the positions that the other set has
pub record HasPicked (docs : List Bool) (positions : List ℕ) (into : List Bool) : Type 0 where
  pub size : length into ≡ length docs
  pub each : (k : ℕ) → contains into k ≡ (contains docs k && is_among k positions)

-- a set that has what two others both have
both_picked : (docs passing into : List Bool) → length docs ≡ length passing → length into ≡ length docs
    → ((k : ℕ) → k < length docs → contains into k ≡ (contains docs k && contains passing k)) → into ≡ zip_with ◌&&◌ docs passing
both_picked docs passing into even size same =
    same_lists into (zip_with ◌&&◌ docs passing) (size ∙ sym (length-zip_with ◌&&◌ docs passing even)) (λ k d within.
    let there : k < length docs = omega (arith, size) in
    let joined = length-zip_with ◌&&◌ docs passing even in
    get_or_default into k d false within ∙ same k there
    ∙ sym (get_or-zip_with ◌&&◌ docs passing k even there)
    ∙ get_or_default (zip_with ◌&&◌ docs passing) k false d (omega (arith, joined)))

-- where these are the positions whose row passes
pub all_picked : {X : Type 0} (passes : List X → Bool) (docs : List Bool) (positions : List ℕ) (into : List Bool) (rows : List (List X)) → length docs ≡ length rows
    → ((at : ℕ) → is_among at positions ≡ passes (get_or rows at [])) → HasPicked docs positions into → into ≡ zip_with ◌&&◌ docs (map passes rows)
all_picked passes docs positions into rows size same picked =
    both_picked docs (map passes rows) into (size ∙ sym (length-map rows passes)) picked.size (λ k there.
    picked.each k ∙ ap (λ b. contains docs k && b) (same k ∙ sym (get_or-map passes rows k [] false (omega (arith, size)))))

among_set : (docs : List Bool) (k : ℕ) → is_among k (positions docs) ≡ contains docs k
among_set docs k = ap (λ n. is_among n (positions docs)) (sym (zero-add k)) ∙ is_among-positions 0 docs k

-- where these are all positions of the other set
pub all_kept : (docs passing into : List Bool) → length docs ≡ length passing → HasPicked passing (positions docs) into → into ≡ zip_with ◌&&◌ docs passing
all_kept docs passing into even picked =
    both_picked docs passing into even (picked.size ∙ sym even)
    (λ k there. picked.each k ∙ ap (λ b. contains passing k && b) (among_set docs k) ∙ and_comm (contains passing k) (contains docs k))

-- a position of the set is below its length
pub position_below : (docs : List Bool) (done : List ℕ) (at : ℕ) (rest : List ℕ) → done ++ at ∷ rest ≡ positions docs → at < length docs
position_below docs done at rest all =
    let size = length-append done (at ∷ rest) in
    let inside : length done + 0 < length (positions docs) = subst (λ l. length done + 0 < length l) all (omega (arith, size)) in
    let lies = positions_lie 0 docs (length done + 0) 0 inside in
    let is : get_or (positions docs) (length done + 0) 0 ≡ at = sym (ap (λ l. get_or l (length done + 0) 0) all) ∙ get_or-append-add done (at ∷ rest) 0 0 in
    omega (arith, is, lies.1)

-- one more position
module _ (passing : List Bool) (done : List ℕ) (into : List Bool) (at : ℕ) (picked : HasPicked passing done into) where
  among_more : (k : ℕ) → is_among k (done ++ at ∷ []) ≡ (is_among k done || ((k == at) || false))
  among_more k = list_any-append (λ number. k == number) done (at ∷ [])

  among_other : (k : ℕ) → (k ≡ at → ⊥) → is_among k done ≡ is_among k (done ++ at ∷ [])
  among_other k other = sym (among_more k ∙ ap (λ b. is_among k done || (b || false)) (ne_eqb k at other) ∙ or-false (is_among k done))

  among_it : (k : ℕ) → k ≡ at → is_among k (done ++ at ∷ []) ≡ true
  among_it k same = among_more k ∙ ap (λ b. is_among k done || (b || false)) (eq-eqb k at same) ∙ or-true (is_among k done)

  -- that passes
  pub one_kept : at < length passing → contains passing at ≡ true → HasPicked passing (done ++ at ∷ []) (slice_set into at true)
  one_kept within passes = record { size = length-set into at true ∙ picked.size; each = λ k. go k (cases_eq k at) }
    where
      there : at < length into
      there = let size = picked.size in omega (arith, size)

      go : (k : ℕ) → ((k ≡ at) ⊎ (k ≡ at → ⊥)) → contains (slice_set into at true) k ≡ (contains passing k && is_among k (done ++ at ∷ []))
      go k (inl same) =
          ap (λ n. contains (slice_set into at true) n) same ∙ get_or-set_same into at true false there
          ∙ sym (and_from (contains passing k) (is_among k (done ++ at ∷ [])) (ap (λ n. contains passing n) same ∙ passes) (among_it k same))
      go k (inr other) = get_or-set_other into at k true false other ∙ picked.each k ∙ ap (λ b. contains passing k && b) (among_other k other)

  -- that does not pass
  pub none_kept : contains passing at ≡ false → HasPicked passing (done ++ at ∷ []) into
  none_kept fails = record { size = picked.size; each = λ k. picked.each k ∙ go k (cases_eq k at) }
    where
      go : (k : ℕ) → ((k ≡ at) ⊎ (k ≡ at → ⊥)) → (contains passing k && is_among k done) ≡ (contains passing k && is_among k (done ++ at ∷ []))
      go k (inl same) =
          let none = ap (λ n. contains passing n) same ∙ fails in
          and_left (contains passing k) (is_among k done) none ∙ sym (and_left (contains passing k) (is_among k (done ++ at ∷ [])) none)
      go k (inr other) = ap (λ b. contains passing k && b) (among_other k other)
