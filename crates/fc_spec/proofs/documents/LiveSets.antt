-- Sets of positions, kept at the live ones.
use Rattle.std.proofs.Common.{◌≡◌, ℕ, zero, suc, List, [], ◌∷◌, ◌++◌, length, take, drop, map, replicate, Bool, true, false, ◌&&◌, cond, refl, sym, ◌∙◌, ap, ap₂, arith, length-append}
use Rattle.std.specs.List.{items_where_true, list_all, list_any}
use Rattle.std.specs.Prelude.{slice_index_or}
use Rattle.std.proofs.lemmas.List.{length-replicate, length-map, length-take-le, length-drop, take-append-drop}
use Rattle.std.proofs.Math.Seq.{drop-append_seam, take-append_seam}
use Rattle.fc_spec.specs.words.Lists.{is_empty}
use Rattle.fc_spec.specs.documents.Document.{Block}
use Rattle.fc_spec.specs.documents.Totals.{documents_of, documents_in, document_total}
use Rattle.fc_spec.specs.documents.Sets.{zip_with, passing}
use Rattle.fc_spec.specs.documents.Live.{parents_in_set, whole_blocks, live_in, HasWholeBlocks}
use Rattle.fc_spec.specs.queries.Matching.{matches}
use Rattle.fc_spec.specs.queries.Query.{Query}
use Rattle.fc_spec.specs.requests.Request.{BlockStep, stay, parents, children}
use Rattle.fc_spec.specs.requests.DomainSets.{by_blocks, to_parent, to_children, moved_set, filtered_set}
use Rattle.fc_spec.specs.laws.LiveSetLaws.{PassingOnLive, PassingOfOnLive, ChangesOnLive}
use Rattle.fc_spec.proofs.words.WhereTrue.{items_where_true-append}
use Rattle.fc_spec.proofs.documents.LiveBlocks.{length-parents_in_set, live_documents}

-- ---- passing

kept-map : {X Y : Type 0} (f : X → Y) (live : List Bool) (xs : List X) → items_where_true live (map f xs) ≡ map f (items_where_true live xs)
kept-map f [] xs = refl
kept-map f (here ∷ live) [] = refl
kept-map f (true ∷ live) (x ∷ xs) = ap (λ ys. f x ∷ ys) (kept-map f live xs)
kept-map f (false ∷ live) (x ∷ xs) = kept-map f live xs

kept-zip : (join : Bool → Bool → Bool) (live set others : List Bool) → length set ≡ length others
    → items_where_true live (zip_with join set others) ≡ zip_with join (items_where_true live set) (items_where_true live others)
kept-zip join [] set others even = refl
kept-zip join (here ∷ live) [] others even = refl
kept-zip join (here ∷ live) (s ∷ set) [] even = absurd cc
kept-zip join (true ∷ live) (s ∷ set) (o ∷ others) even = ap (λ ys. join s o ∷ ys) (kept-zip join live set others (omega arith))
kept-zip join (false ∷ live) (s ∷ set) (o ∷ others) even = kept-zip join live set others (omega arith)

pub passing_on_live : PassingOnLive
passing_on_live t blocks live whole = kept-map t live (documents_in blocks) ∙ ap (map t) (sym (live_documents blocks live whole))

pub passing_of_on_live : PassingOfOnLive
passing_of_on_live t blocks live set whole size =
    kept-zip ◌&&◌ live set (passing t blocks) (size ∙ sym (length-map (documents_in blocks) t))
    ∙ ap (zip_with ◌&&◌ (items_where_true live set)) (passing_on_live t blocks live whole)

-- ---- block by block

kept_all : (xs : List Bool) (n : ℕ) → length xs ≡ n → items_where_true (replicate n true) xs ≡ xs
kept_all [] zero size = refl
kept_all [] (suc n) size = absurd cc
kept_all (x ∷ xs) zero size = absurd cc
kept_all (x ∷ xs) (suc n) size = ap (λ ys. x ∷ ys) (kept_all xs n (omega arith))

kept_none : (xs : List Bool) (n : ℕ) → items_where_true (replicate n false) xs ≡ []
kept_none xs zero = refl
kept_none [] (suc n) = refl
kept_none (x ∷ xs) (suc n) = kept_none xs n

module _ (f : Block → List Bool → List Bool) (sizes : (b : Block) (set : List Bool) → length (f b set) ≡ length (documents_of b)) where
  by_kept : (blocks : List Block) (kept set : List Bool) → length kept ≡ length blocks → length set ≡ document_total blocks
      → items_where_true (whole_blocks blocks kept) (by_blocks f blocks set) ≡ by_blocks f (items_where_true kept blocks) (items_where_true (whole_blocks blocks kept) set)
  by_kept [] [] set even size = refl
  by_kept [] (here ∷ kept) set even size = absurd cc
  by_kept (b ∷ blocks) [] set even size = absurd cc
  by_kept (b ∷ blocks) (true ∷ kept) set even size =
      let n = length (documents_of b) in
      let W = whole_blocks blocks kept in
      let front = take n set in
      let back = drop n set in
      let total = length-append (documents_of b) (documents_in blocks) in
      let front_size : length front ≡ n = length-take-le n set (omega (arith, size, total)) in
      let back_size : length back ≡ document_total blocks = length-drop n set ∙ omega (arith, size, total) in
      let long = length-replicate n true in
      let split : items_where_true (replicate n true ++ W) set ≡ front ++ items_where_true W back =
      ap (items_where_true (replicate n true ++ W)) (sym (take-append-drop n set)) ∙ items_where_true-append (replicate n true) W front back (long ∙ sym front_size)
      ∙ ap (λ l. l ++ items_where_true W back) (kept_all front n front_size) in
      items_where_true-append (replicate n true) W (f b front) (by_blocks f blocks back) (long ∙ sym (sizes b front))
      ∙ ap₂ (λ k l. k ++ l) (kept_all (f b front) n (sizes b front)) (by_kept blocks kept back (omega arith) back_size)
      ∙ sym (ap (by_blocks f (b ∷ items_where_true kept blocks)) split
      ∙ ap₂ (λ k l. f b k ++ by_blocks f (items_where_true kept blocks) l)
      (ap (λ k. take k (front ++ items_where_true W back)) (sym front_size) ∙ take-append_seam front (items_where_true W back))
      (ap (λ k. drop k (front ++ items_where_true W back)) (sym front_size) ∙ drop-append_seam front (items_where_true W back)))
  by_kept (b ∷ blocks) (false ∷ kept) set even size =
      let n = length (documents_of b) in
      let W = whole_blocks blocks kept in
      let front = take n set in
      let back = drop n set in
      let total = length-append (documents_of b) (documents_in blocks) in
      let front_size : length front ≡ n = length-take-le n set (omega (arith, size, total)) in
      let back_size : length back ≡ document_total blocks = length-drop n set ∙ omega (arith, size, total) in
      let long = length-replicate n false in
      let split : items_where_true (replicate n false ++ W) set ≡ items_where_true W back =
      ap (items_where_true (replicate n false ++ W)) (sym (take-append-drop n set)) ∙ items_where_true-append (replicate n false) W front back (long ∙ sym front_size)
      ∙ ap (λ l. l ++ items_where_true W back) (kept_none front n) in
      items_where_true-append (replicate n false) W (f b front) (by_blocks f blocks back) (long ∙ sym (sizes b front))
      ∙ ap (λ l. l ++ items_where_true W (by_blocks f blocks back)) (kept_none (f b front) n)
      ∙ by_kept blocks kept back (omega arith) back_size
      ∙ sym (ap (by_blocks f (items_where_true kept blocks)) split)

  blocks_on_live : (blocks : List Block) (live set : List Bool) → HasWholeBlocks blocks live → length set ≡ document_total blocks
      → items_where_true live (by_blocks f blocks set) ≡ by_blocks f (live_in blocks live) (items_where_true live set)
  blocks_on_live blocks live set whole size =
      let kept = parents_in_set blocks live in
      ap (λ l. items_where_true l (by_blocks f blocks set)) whole.whole ∙ by_kept blocks kept set (length-parents_in_set blocks live) size
      ∙ ap (λ l. by_blocks f (items_where_true kept blocks) (items_where_true l set)) (sym whole.whole)

  length-by_blocks : (blocks : List Block) (set : List Bool) → length (by_blocks f blocks set) ≡ document_total blocks
  length-by_blocks [] set = refl
  length-by_blocks (b ∷ blocks) set =
      let n = length (documents_of b) in
      let rest = length-by_blocks blocks (drop n set) in
      omega (arith, length-append (f b (take n set)) (by_blocks f blocks (drop n set)), sizes b (take n set), rest, length-append (documents_of b) (documents_in blocks))

-- ---- changes

parent_sizes : (q : Query) (b : Block) (set : List Bool) → length (to_parent q b set) ≡ length (documents_of b)
parent_sizes q b set = omega (arith, length-append (replicate (length b.children) false) ((matches q b.parent && list_any (λ here. here) set) ∷ []), length-replicate (length b.children) false, length-append b.children (b.parent ∷ []))

child_sizes : (q : Query) (b : Block) (set : List Bool) → length (to_children q b set) ≡ length (documents_of b)
child_sizes q b set =
    let here = matches q b.parent && slice_index_or set (length b.children) false in
    omega (arith, length-append (replicate (length b.children) here) (false ∷ []), length-replicate (length b.children) here, length-append b.children (b.parent ∷ []))

moved_on_live : (step : BlockStep) (blocks : List Block) (live set : List Bool) → HasWholeBlocks blocks live → length set ≡ document_total blocks
    → items_where_true live (moved_set step blocks set) ≡ moved_set step (live_in blocks live) (items_where_true live set)
moved_on_live stay blocks live set whole size = refl
moved_on_live (parents q) blocks live set whole size = blocks_on_live (to_parent q) (parent_sizes q) blocks live set whole size
moved_on_live (children q) blocks live set whole size = blocks_on_live (to_children q) (child_sizes q) blocks live set whole size

moved_size : (step : BlockStep) (blocks : List Block) (set : List Bool) → length set ≡ document_total blocks → length (moved_set step blocks set) ≡ document_total blocks
moved_size stay blocks set size = size
moved_size (parents q) blocks set size = length-by_blocks (to_parent q) (parent_sizes q) blocks set
moved_size (children q) blocks set size = length-by_blocks (to_children q) (child_sizes q) blocks set

pub changes_on_live : ChangesOnLive
changes_on_live change blocks live base set whole base_size size = go (is_empty change.exclude)
  where
    after_step : (start : List Bool) → length start ≡ document_total blocks
        → items_where_true live (filtered_set change.filters blocks (moved_set change.block blocks start)) ≡ filtered_set change.filters (live_in blocks live) (moved_set change.block (live_in blocks live) (items_where_true live start))
    after_step start start_size =
        passing_of_on_live (λ d. list_all (λ q. matches q d) change.filters) blocks live (moved_set change.block blocks start) whole (moved_size change.block blocks start start_size)
        ∙ ap (filtered_set change.filters (live_in blocks live)) (moved_on_live change.block blocks live start whole start_size)

    go : (none : Bool) → items_where_true live (filtered_set change.filters blocks (moved_set change.block blocks (cond none set base)))
        ≡ filtered_set change.filters (live_in blocks live) (moved_set change.block (live_in blocks live) (cond none (items_where_true live set) (items_where_true live base)))
    go true = after_step set size
    go false = after_step base base_size
