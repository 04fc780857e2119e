-- Segments with the last of them merged.
use Rattle.std.proofs.Common.{◌≡◌, ℕ, ◌*◌, ◌≤◌, List, [], ◌∷◌, ◌++◌, take, drop, sum, sym, ap, ap₂, subst, ◌∙◌, arith}
use Rattle.std.proofs.lemmas.List.{drop-map, take-map}
use Rattle.std.proofs.lemmas.List.Elements.{All-append, All-take}
use Rattle.fc_spec.specs.documents.Document.{Block}
use Rattle.fc_spec.specs.documents.Schema.{Schema}
use Rattle.fc_spec.specs.documents.Totals.{document_total}
use Rattle.fc_spec.specs.scripts.WorldLimits.{IsWithinLimits}
use Rattle.fc_segment.specs.Merged.{live_blocks, live_blocks_of}
use Rattle.fc_segment.specs.Segmented.{Segmented}
use Rattle.fc_store.specs.Segments.{AreDense, AreSegmentsOf, if_any, merged}
use Rattle.fc_store.specs.Tiers.{AreTiered, sizes_of}
use Rattle.fc_store.proofs.Tiered.{shorter, some_size, tiered_less}
use Rattle.fc_store.proofs.LiveSegments.{any_dense, any_live, any_segment, any_size, first_segments, full_live, last_segments, live-append, live_split, live_total, merged_dense, merged_segment, part_within, segments-append, sizes-append}

-- the segments, of which those from a place on are one
abbrev pub merged_behind : Schema → ℕ → List Segmented → List Segmented
merged_behind s k gs = take k gs ++ if_any (merged s (drop k gs))

pub merged_live : (s : Schema) (k : ℕ) (gs : List Segmented) → live_blocks_of (merged_behind s k gs) ≡ live_blocks_of gs
merged_live s k gs =
    live-append (take k gs) (if_any (merged s (drop k gs)))
    ∙ ap (λ (l : List Block). live_blocks_of (take k gs) ++ l) (any_live (merged s (drop k gs)) ∙ full_live (live_blocks_of (drop k gs)))
    ∙ sym (live_split k gs)

pub merged_are : (s : Schema) (k : ℕ) (gs : List Segmented) → AreSegmentsOf s gs → IsWithinLimits (live_blocks_of gs ∷ []) → AreSegmentsOf s (merged_behind s k gs)
merged_are s k gs are limits =
    let last = part_within (live_blocks_of (take k gs)) (live_blocks_of (drop k gs)) (subst (λ l. IsWithinLimits (l ∷ [])) (live_split k gs) limits) in
    segments-append s (take k gs) (if_any (merged s (drop k gs))) (first_segments s k gs are)
    (any_segment s (merged s (drop k gs)) (merged_segment s (drop k gs) (last_segments s k gs are) last))

pub merged_tiers : (s : Schema) (k : ℕ) (gs : List Segmented) → AreTiered (take k (sizes_of gs) ++ sum (drop k (sizes_of gs)) ∷ []) → AreTiered (sizes_of (merged_behind s k gs))
merged_tiers s k gs are =
    let size = λ (z : Segmented). document_total z.blocks in
    let few = live_total (drop k gs) in
    let most = ap sum (drop-map size k gs) in
    let total = document_total (live_blocks_of (drop k gs)) in
    let sizes : sizes_of (merged_behind s k gs) ≡ take k (sizes_of gs) ++ some_size total =
    sizes-append (take k gs) (if_any (merged s (drop k gs))) ∙ ap₂ (λ a b. a ++ b) (sym (take-map size k gs)) (any_size (merged s (drop k gs))) in
    subst AreTiered (sym sizes) (tiered_less (take k (sizes_of gs)) (sum (drop k (sizes_of gs))) total are (omega (arith, few, most)))

pub merged_all_dense : (s : Schema) (k sparse : ℕ) (gs : List Segmented) → k ≤ sparse → AreDense (take sparse gs) → AreDense (merged_behind s k gs)
merged_all_dense s k sparse gs low dense =
    let is_dense = λ (z : Segmented). document_total z.blocks ≤ 2 * document_total (live_blocks z) in
    All-append is_dense (take k gs) (if_any (merged s (drop k gs))) (subst AreDense (shorter k sparse gs low) (All-take is_dense k (take sparse gs) dense))
    (any_dense (merged s (drop k gs)) (merged_dense s (drop k gs)))
