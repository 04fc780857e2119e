-- The places at the positions in a set, one after another.
use Rattle.std.proofs.Common.{◌≡◌, ◌<◌, ◌+◌, ℕ, suc, List, [], ◌∷◌, ◌++◌, map, length, get_or, Bool, true, false, refl, sym, ap, subst, ◌∙◌, arith, append_assoc, length-append, add-zero}
use Rattle.std.specs.List.{All, AllByRecursion, items_where_true, range_with_len}
use Rattle.std.proofs.lemmas.List.{map-append, get_or-append-add}
use Rattle.std.proofs.lemmas.List.Elements.{All-from_recursion}
use Rattle.fc_spec.specs.documents.Document.{Block}
use Rattle.fc_spec.specs.documents.Sets.{places_on}
use Rattle.fc_spec.specs.documents.Totals.{document_total}
use Rattle.fc_spec.specs.documents.World.{shard_places}
use Rattle.fc_spec.specs.scripts.WorldLimits.{IsWithinLimits}
use Rattle.fc_docset.specs.Positions.{positions}
use Rattle.fc_partial.specs.Fitting.{StatisticsFit}
use Rattle.fc_partial.proofs.Fitting.{front_fits, picked_fit}
use Rattle.fc_kind.specs.PlaceAt.{place_at}
use Rattle.fc_kind.proofs.PlaceColumns.{length-shard_places, segment_fits}

further : (from : ℕ) (set : List Bool) → AllByRecursion (λ k. k < from + 1 + length set) (items_where_true set (range_with_len (from + 1) (length set)))
    → AllByRecursion (λ k. k < from + suc (length set)) (items_where_true set (range_with_len (from + 1) (length set)))
further from set h =
    let e : from + 1 + length set ≡ from + suc (length set) = omega arith in
    subst (λ m. AllByRecursion (λ k. k < m) (items_where_true set (range_with_len (from + 1) (length set)))) e h

-- each position in the set is below its length
below : (from : ℕ) (set : List Bool) → AllByRecursion (λ k. k < from + length set) (items_where_true set (range_with_len from (length set)))
below from [] = tt
below from (true ∷ set) = (omega arith, further from set (below (from + 1) set))
below from (false ∷ set) = further from set (below (from + 1) set)

-- the members at the positions in the set
module _ {X : Type 0} (d : X) where
  next : (pre : List X) (x : X) (xs : List X) (set : List Bool)
      → map (λ k. get_or (pre ++ x ∷ xs) k d) (items_where_true set (range_with_len (length pre + 1) (length set)))
      ≡ map (λ k. get_or ((pre ++ x ∷ []) ++ xs) k d) (items_where_true set (range_with_len (length (pre ++ x ∷ [])) (length set)))
  next pre x xs set =
      ap (λ l. map (λ k. get_or l k d) (items_where_true set (range_with_len (length pre + 1) (length set)))) (sym (append_assoc pre (x ∷ []) xs))
      ∙ ap (λ n. map (λ k. get_or ((pre ++ x ∷ []) ++ xs) k d) (items_where_true set (range_with_len n (length set)))) (sym (length-append pre (x ∷ [])))

  picked : (pre xs : List X) (set : List Bool) → length set ≡ length xs
      → map (λ k. get_or (pre ++ xs) k d) (items_where_true set (range_with_len (length pre) (length set))) ≡ items_where_true set xs
  picked pre [] [] e = refl
  picked pre [] (b ∷ set) e = absurd (omega arith)
  picked pre (x ∷ xs) [] e = refl
  picked pre (x ∷ xs) (true ∷ set) e =
      λ i. (ap (λ n. get_or (pre ++ x ∷ xs) n d) (sym (add-zero (length pre))) ∙ get_or-append-add pre (x ∷ xs) 0 d) i ∷ (next pre x xs set ∙ picked (pre ++ x ∷ []) xs set (omega arith)) i
  picked pre (x ∷ xs) (false ∷ set) e = next pre x xs set ∙ picked (pre ++ x ∷ []) xs set (omega arith)

pub places_picked : (blocks : List Block) (set : List Bool) → length set ≡ document_total blocks → map (place_at blocks) (positions set) ≡ places_on 0 blocks set
places_picked blocks set e = picked _ [] (shard_places 0 0 0 blocks) set (e ∙ sym (length-shard_places blocks))

module _ (blocks : List Block) (set : List Bool) (long : length set ≡ document_total blocks) where
  -- all positions in the set have a document
  pub all_below : All (λ at. at < document_total blocks) (positions set)
  all_below = subst (λ n. All (λ at. at < n) (positions set)) total (All-from_recursion (λ at. at < 0 + length set) (positions set) (below 0 set))
    where
      total : 0 + length set ≡ document_total blocks
      total = omega (arith, long)

  -- and the statistics of the documents there fit
  pub all_fit : IsWithinLimits (blocks ∷ []) → StatisticsFit (map (place_at blocks) (positions set))
  all_fit limits = subst StatisticsFit (sym (places_picked blocks set long)) (picked_fit set (shard_places 0 0 0 blocks) (segment_fits blocks limits))

-- positions that were read, the next one, and those behind it
module _ (blocks : List Block) (set : List Bool) (long : length set ≡ document_total blocks) (done : List ℕ) (at : ℕ) (rest : List ℕ) (all : done ++ at ∷ rest ≡ positions set) where
  pub next_below : at < document_total blocks
  next_below = subst (λ n. at < n) long (go done (subst (AllByRecursion (λ k. k < 0 + length set)) (sym all) (below 0 set)))
    where
      go : (ks : List ℕ) → AllByRecursion (λ k. k < 0 + length set) (ks ++ at ∷ rest) → at < length set
      go [] h = omega (arith, h.0)
      go (k ∷ ks) h = go ks h.1

  pub so_far_fit : IsWithinLimits (blocks ∷ []) → StatisticsFit (map (place_at blocks) done ++ place_at blocks at ∷ [])
  so_far_fit limits =
      front_fits (map (place_at blocks) done ++ place_at blocks at ∷ []) (map (place_at blocks) rest)
      (subst StatisticsFit (sym (places_picked blocks set long) ∙ ap (map (place_at blocks)) (sym all) ∙ apart) (picked_fit set (shard_places 0 0 0 blocks) (segment_fits blocks limits)))
    where
      apart : map (place_at blocks) (done ++ at ∷ rest) ≡ (map (place_at blocks) done ++ place_at blocks at ∷ []) ++ map (place_at blocks) rest
      apart = map-append (place_at blocks) done (at ∷ rest) ∙ sym (append_assoc (map (place_at blocks) done) (place_at blocks at ∷ []) (map (place_at blocks) rest))
