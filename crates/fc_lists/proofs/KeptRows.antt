-- The rows at the positions of a set.
use Rattle.std.proofs.Common.{◌≡◌, ◌<◌, ◌+◌, ℕ, zero, suc, List, [], ◌∷◌, ◌++◌, map, length, get_or, Bool, true, false, All, refl, sym, ap, subst, ◌∙◌, arith, append_assoc, length-append, add-zero}
use Rattle.std.specs.List.{AllByRecursion, items_where_true, range_with_len}
use Rattle.std.proofs.lemmas.List.{get_or-append-add}
use Rattle.std.proofs.lemmas.List.Elements.{All-from_recursion}
use Rattle.fc_docset.specs.Positions.{positions}

further : (from : ℕ) (set : List Bool) → AllByRecursion (λ k. k < from + 1 + length set) (items_where_true set (range_with_len (from + 1) (length set)))
    → AllByRecursion (λ k. k < from + suc (length set)) (items_where_true set (range_with_len (from + 1) (length set)))
further from set h =
    let e : from + 1 + length set ≡ from + suc (length set) = omega arith in
    subst (λ m. AllByRecursion (λ k. k < m) (items_where_true set (range_with_len (from + 1) (length set)))) e h

-- each position in the set is below its length
below : (from : ℕ) (set : List Bool) → AllByRecursion (λ k. k < from + length set) (items_where_true set (range_with_len from (length set)))
below from [] = tt
below from (true ∷ set) = (omega arith, further from set (below (from + 1) set))
below from (false ∷ set) = further from set (below (from + 1) set)

-- the members at the positions in the set
module _ {X : Type 0} (d : X) where
  next : (pre : List X) (x : X) (xs : List X) (set : List Bool)
      → map (λ k. get_or (pre ++ x ∷ xs) k d) (items_where_true set (range_with_len (length pre + 1) (length set)))
      ≡ map (λ k. get_or ((pre ++ x ∷ []) ++ xs) k d) (items_where_true set (range_with_len (length (pre ++ x ∷ [])) (length set)))
  next pre x xs set =
      ap (λ l. map (λ k. get_or l k d) (items_where_true set (range_with_len (length pre + 1) (length set)))) (sym (append_assoc pre (x ∷ []) xs))
      ∙ ap (λ n. map (λ k. get_or ((pre ++ x ∷ []) ++ xs) k d) (items_where_true set (range_with_len n (length set)))) (sym (length-append pre (x ∷ [])))

  picked : (pre xs : List X) (set : List Bool) → length set ≡ length xs
      → map (λ k. get_or (pre ++ xs) k d) (items_where_true set (range_with_len (length pre) (length set))) ≡ items_where_true set xs
  picked pre [] [] e = refl
  picked pre [] (b ∷ set) e = absurd (omega arith)
  picked pre (x ∷ xs) [] e = refl
  picked pre (x ∷ xs) (true ∷ set) e =
      λ i. (ap (λ n. get_or (pre ++ x ∷ xs) n d) (sym (add-zero (length pre))) ∙ get_or-append-add pre (x ∷ xs) 0 d) i ∷ (next pre x xs set ∙ picked (pre ++ x ∷ []) xs set (omega arith)) i
  picked pre (x ∷ xs) (false ∷ set) e = next pre x xs set ∙ picked (pre ++ x ∷ []) xs set (omega arith)

  pub rows_picked : (xs : List X) (set : List Bool) → length set ≡ length xs → map (λ k. get_or xs k d) (positions set) ≡ items_where_true set xs
  rows_picked xs set e = picked [] xs set e

-- positions that were read, the next one, and those behind it
pub next_below : (set : List Bool) (done : List ℕ) (at : ℕ) (rest : List ℕ) → done ++ at ∷ rest ≡ positions set → at < length set
next_below set done at rest all = go done (subst (AllByRecursion (λ k. k < 0 + length set)) (sym all) (below 0 set))
  where
    go : (ks : List ℕ) → AllByRecursion (λ k. k < 0 + length set) (ks ++ at ∷ rest) → at < length set
    go [] h = omega (arith, h.0)
    go (k ∷ ks) h = go ks h.1

-- what holds of each member holds of those that are kept
pub kept_hold : {X : Type 0} (P : X → Type 0) (set : List Bool) (xs : List X) → All P xs → All P (items_where_true set xs)
kept_hold P [] xs all = λ k d inside. absurd (omega arith)
kept_hold P (h ∷ set) [] all = λ k d inside. absurd (omega arith)
kept_hold {X} P (true ∷ set) (x ∷ xs) all = go (kept_hold P set xs (λ j e within. all (suc j) e (omega arith)))
  where
    go : All P (items_where_true set xs) → All P (x ∷ items_where_true set xs)
    go rest zero d inside = all 0 x (omega arith)
    go rest (suc k) d inside = rest k d (omega arith)
kept_hold P (false ∷ set) (x ∷ xs) all = kept_hold P set xs (λ j e within. all (suc j) e (omega arith))

pub positions_below : (set : List Bool) → All (λ at. at < length set) (positions set)
positions_below set = subst (λ n. All (λ at. at < n) (positions set)) total (All-from_recursion (λ at. at < 0 + length set) (positions set) (below 0 set))
  where
    total : 0 + length set ≡ length set
    total = omega arith
