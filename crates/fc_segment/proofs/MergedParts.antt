-- Segments one after another; and what is live of their blocks.
use Rattle.std.proofs.Common.{◌≡◌, ℕ, ◌+◌, ◌<◌, ◌≤◌, List, [], ◌∷◌, ◌++◌, length, get_or, take, map, replicate, Bool, true, false, All, refl, sym, ap, ap₂, subst, ◌∙◌, arith, length-append}
use Rattle.std.specs.List.{flat_map, items_where_true, take-map}
use Rattle.std.proofs.lemmas.List.{append-nil, get_or-map, map-append, map_more, length-map, length-replicate}
use Rattle.std.proofs.lemmas.List.Concat.{flat_map-append}
use Rattle.std.proofs.lemmas.List.Folds.{length-flat_map-take}
use Rattle.std.proofs.lemmas.List.Elements.{All-head, All-tail, All-push}
use Rattle.fc_spec.specs.documents.Document.{Block, values_of}
use Rattle.fc_spec.specs.documents.Columns.{column_of}
use Rattle.fc_spec.specs.documents.Totals.{documents_of, documents_in}
use Rattle.fc_spec.specs.documents.Live.{parents_in_set, whole_blocks, HasWholeBlocks, live_in}
use Rattle.fc_spec.proofs.words.WhereTrue.{items_where_true-append, items_where_true-map}
use Rattle.fc_spec.proofs.documents.LiveBlocks.{length-parents_in_set, live_documents}
use Rattle.fc_segment.specs.Merged.{IsWhole, live_blocks_of, live_marks, live_values}
use Rattle.fc_segment.specs.Parents.{marks_of, parents_in}
use Rattle.fc_segment.specs.Segmented.{Segmented}

-- ---- one segment, at its place
module _ {X : Type 0} (value : X → Segmented) (segments : List X) (at : ℕ) (one : X) (inside : at < length segments) (is : one ≡ get_or segments at one) where
  value_here : get_or (map value segments) at (value one) ≡ value one
  value_here = get_or-map value segments at one (value one) inside ∙ ap value (sym is)

  pub holds_here : (P : Segmented → Type 0) → All P (map value segments) → P (value one)
  holds_here P all = subst P value_here (all at (value one) (omega (arith, length-map segments value)))

  segments_more : map value (take (at + 1) segments) ≡ map value (take at segments) ++ value one ∷ []
  segments_more = map_more value segments at one inside ∙ ap (λ o. map value (take at segments) ++ value o ∷ []) (sym is)

  pub holds_more : (P : Segmented → Type 0) → All P (map value (take at segments)) → P (value one) → All P (map value (take (at + 1) segments))
  holds_more P all here = subst (All P) (sym segments_more) (All-push P (map value (take at segments)) (value one) all here)

  more_of : {Y : Type 0} (f : Segmented → List Y) → flat_map f (map value (take (at + 1) segments)) ≡ flat_map f (map value (take at segments)) ++ f (value one)
  more_of f =
      ap (flat_map f) segments_more ∙ flat_map-append f (map value (take at segments)) (value one ∷ [])
      ∙ ap (λ l. flat_map f (map value (take at segments)) ++ l) (append-nil (f (value one)))

  pub values_more : (field : ℕ) → live_values field (map value (take (at + 1) segments))
      ≡ live_values field (map value (take at segments)) ++ items_where_true (value one).live (column_of field (documents_in (value one).blocks))
  values_more field = more_of (λ s. items_where_true s.live (column_of field (documents_in s.blocks)))

  pub marks_more : live_marks (map value (take (at + 1) segments)) ≡ live_marks (map value (take at segments)) ++ items_where_true (value one).live (parents_in (value one).blocks)
  marks_more = more_of (λ s. items_where_true s.live (parents_in s.blocks))

  -- no more of it than of all
  pub marks_few : length (live_marks (map value (take at segments))) + length (items_where_true (value one).live (parents_in (value one).blocks)) ≤ length (live_marks (map value segments))
  marks_few =
      let f = λ (s : Segmented). items_where_true s.live (parents_in s.blocks) in
      omega (
        arith,
        length-flat_map-take f (map value segments) at (value one) (omega (arith, length-map segments value)),
        ap (λ s. length (f s)) value_here,
        ap (λ l. length (flat_map f l)) (take-map value at segments),
      )

-- ---- what is live of blocks

pub all_of : {X : Type 0} (xs : List X) → items_where_true (replicate (length xs) true) xs ≡ xs
all_of [] = refl
all_of (x ∷ xs) = ap (λ ys. x ∷ ys) (all_of xs)

none_of : {X : Type 0} (xs : List X) → items_where_true (replicate (length xs) false) xs ≡ []
none_of [] = refl
none_of (x ∷ xs) = none_of xs

-- a list for each document of a block
length-marks_of : (b : Block) → length (marks_of b) ≡ length (documents_of b)
length-marks_of b =
    length-append (replicate (length b.children) false) (true ∷ []) ∙ ap (λ n. n + 1) (length-replicate (length b.children) false) ∙ sym (length-append b.children (b.parent ∷ []))

marks_of_whole : (blocks : List Block) (kept : List Bool) → length kept ≡ length blocks → items_where_true (whole_blocks blocks kept) (parents_in blocks) ≡ parents_in (items_where_true kept blocks)
marks_of_whole [] [] size = refl
marks_of_whole [] (here ∷ kept) size = absurd cc
marks_of_whole (b ∷ blocks) [] size = absurd cc
marks_of_whole (b ∷ blocks) (here ∷ kept) size = first here ∙ by here (marks_of_whole blocks kept (omega arith))
  where
    first : (h : Bool) → items_where_true (replicate (length (documents_of b)) h ++ whole_blocks blocks kept) (marks_of b ++ parents_in blocks)
        ≡ items_where_true (replicate (length (marks_of b)) h) (marks_of b) ++ items_where_true (whole_blocks blocks kept) (parents_in blocks)
    first h =
        ap (λ n. items_where_true (replicate n h ++ whole_blocks blocks kept) (marks_of b ++ parents_in blocks)) (sym (length-marks_of b))
        ∙ items_where_true-append (replicate (length (marks_of b)) h) (whole_blocks blocks kept) (marks_of b) (parents_in blocks) (length-replicate (length (marks_of b)) h)

    by : (h : Bool) → items_where_true (whole_blocks blocks kept) (parents_in blocks) ≡ parents_in (items_where_true kept blocks)
        → items_where_true (replicate (length (marks_of b)) h) (marks_of b) ++ items_where_true (whole_blocks blocks kept) (parents_in blocks) ≡ parents_in (items_where_true (h ∷ kept) (b ∷ blocks))
    by true rest = ap₂ (λ a c. a ++ c) (all_of (marks_of b)) rest
    by false rest = ap₂ (λ a c. a ++ c) (none_of (marks_of b)) rest

live_marks-one : (blocks : List Block) (set : List Bool) → HasWholeBlocks blocks set → items_where_true set (parents_in blocks) ≡ parents_in (live_in blocks set)
live_marks-one blocks set is = ap (λ s. items_where_true s (parents_in blocks)) is.whole ∙ marks_of_whole blocks (parents_in_set blocks set) (length-parents_in_set blocks set)

pub live_marks_are : (segments : List Segmented) → All IsWhole segments → live_marks segments ≡ parents_in (live_blocks_of segments)
live_marks_are [] are = refl
live_marks_are (s ∷ segments) are =
    ap₂ (λ a b. a ++ b) (live_marks-one s.blocks s.live (All-head IsWhole s segments are)) (live_marks_are segments (All-tail IsWhole s segments are))
    ∙ sym (flat_map-append marks_of (live_in s.blocks s.live) (live_blocks_of segments))

pub live_values_are : (field : ℕ) (segments : List Segmented) → All IsWhole segments → live_values field segments ≡ column_of field (documents_in (live_blocks_of segments))
live_values_are field [] are = refl
live_values_are field (s ∷ segments) are =
    let live = live_in s.blocks s.live in
    ap₂ (λ a b. a ++ b)
    (items_where_true-map (λ d. values_of d field) s.live (documents_in s.blocks) ∙ ap (column_of field) (sym (live_documents s.blocks s.live (All-head IsWhole s segments are))))
    (live_values_are field segments (All-tail IsWhole s segments are))
    ∙ sym (map-append (λ d. values_of d field) (documents_in live) (documents_in (live_blocks_of segments)))
    ∙ ap (column_of field) (sym (flat_map-append documents_of live (live_blocks_of segments)))
