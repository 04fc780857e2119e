-- Segments at their places.
use Rattle.std.proofs.Common.{◌≡◌, ℕ, ◌<◌, List, length, get_or, map, All, sym, ap, subst, ◌∙◌, arith}
use Rattle.std.proofs.lemmas.List.{get_or-map, length-map}
use Rattle.fc_spec.specs.documents.Totals.{document_total}
use Rattle.fc_segment.specs.Segmented.{Segmented}
use Rattle.fc_store.specs.Tiers.{sizes_of}

-- what holds of all values holds of the one at a place
pub at_place : {X Y : Type 0} (P : Y → Type 0) (value : X → Y) (xs : List X) (at : ℕ) (one : X) → All P (map value xs) → at < length xs → one ≡ get_or xs at one → P (value one)
at_place P value xs at one all inside is =
    subst P (get_or-map value xs at one (value one) inside ∙ ap value (sym is)) (all at (value one) (omega (arith, inside, length-map xs value)))

pub size_here : {X : Type 0} (value : X → Segmented) (segments : List X) (at : ℕ) (one : X) → at < length segments → one ≡ get_or segments at one
    → document_total (value one).blocks ≡ get_or (sizes_of (map value segments)) at 0
size_here value segments at one inside is =
    let size = λ (s : Segmented). document_total s.blocks in
    ap (λ s. size (value s)) is
    ∙ sym (get_or-map size (map value segments) at (value one) 0 (omega (arith, length-map segments value)) ∙ ap size (get_or-map value segments at one (value one) inside))

pub sizes_long : {X : Type 0} (value : X → Segmented) (segments : List X) → length (sizes_of (map value segments)) ≡ length segments
sizes_long value segments = length-map (map value segments) (λ (s : Segmented). document_total s.blocks) ∙ length-map segments value

pub value_at : {X Y : Type 0} (value : X → Y) (xs : List X) (at : ℕ) (one : X) → at < length xs → one ≡ get_or xs at one → get_or (map value xs) at (value one) ≡ value one
value_at value xs at one inside is = get_or-map value xs at one (value one) inside ∙ ap value (sym is)
