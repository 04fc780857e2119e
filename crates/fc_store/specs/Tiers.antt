-- The sizes of the segments of a generation, and which of them are merged.
use Rattle.std.specs.Prelude.{ℕ, ◌+◌, ◌*◌, ◌<◌, ◌≤◌, ◌⊎◌, List, [], ◌∷◌, length, map, slice_index, sum, drop}
use Rattle.fc_spec.specs.documents.Totals.{document_total}
use Rattle.fc_segment.specs.Segmented.{Segmented}

-- how many documents each has
abbrev pub sizes_of : List Segmented → List ℕ
sizes_of segments = map (λ s. document_total s.blocks) segments

-- each has at least one document, and at least twice as many as the next one
abbrev pub AreTiered : List ℕ → Type 0
AreTiered [] = Unit {0}
AreTiered (n ∷ []) = 1 ≤ n
AreTiered (n ∷ m ∷ more) = (2 * m ≤ n) × AreTiered (m ∷ more)

-- each from a place on but the last is merged with those behind it for a reason: it is the first sparse one or behind that, or it has fewer than twice as many documents as they have together
abbrev pub ArePassed : ℕ → ℕ → List ℕ → Type 0
ArePassed sparse place sizes =
    (at : ℕ) → place ≤ at → at + 1 < length sizes → (sparse ≤ at) ⊎ (slice_index sizes at < 2 * sum (drop (at + 1) sizes))
