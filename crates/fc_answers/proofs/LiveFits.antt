-- The statistics of sets of live documents fit, where the live blocks are within the limits.
use Rattle.std.proofs.Common.{◌≡◌, ℕ, List, [], ◌∷◌, ◌++◌, map, length, refl, sym, ◌∙◌, ap, arith}
use Rattle.std.specs.Prelude.{nat_abs, sum_by}
use Rattle.std.specs.List.{flat_map}
use Rattle.std.proofs.lemmas.List.{length-map}
use Rattle.fc_spec.specs.words.Lists.{joined}
use Rattle.fc_spec.specs.documents.Columns.{longs_in}
use Rattle.fc_spec.specs.documents.Document.{values_of}
use Rattle.fc_spec.specs.documents.Sets.{places_at}
use Rattle.fc_spec.specs.documents.World.{World, Place, places}
use Rattle.fc_spec.specs.requests.Statistics.{pair_values}
use Rattle.fc_spec.specs.scripts.WorldLimits.{IsWithinLimits}
use Rattle.fc_spec.proofs.documents.PlacedDocuments.{documents_at-places}
use Rattle.fc_spec.proofs.requests.JoinedSets.{documents_from}
use Rattle.fc_partial.specs.Fitting.{StatisticsFit}
use Rattle.fc_partial.proofs.Fitting.{picked_fit, places_fit}
use Rattle.fc_answers.specs.SetAnswer.{Pieces, whole_world, live_world, AreWhole, Sets}
use Rattle.fc_answers.specs.LiveSets.{AreLive}
use Rattle.fc_answers.proofs.LivePlaces.{kept, same_documents}

pairs_of : (field : ℕ) (X : List Place) → pair_values field X ≡ flat_map (λ d. values_of d field) (map (λ p. p.document) X)
pairs_of field [] = refl
pairs_of field (p ∷ X) = ap (λ l. values_of p.document field ++ l) (pairs_of field X)

-- those of other places with the same documents
pub fits_same : (X Y : List Place) → map (λ p. p.document) X ≡ map (λ p. p.document) Y → StatisticsFit X → StatisticsFit Y
fits_same X Y same fit = record {
  places = omega (arith, fit.places, length-map X (λ (p : Place). p.document), length-map Y (λ (p : Place). p.document), ap length same);
  pairs = λ field. omega (arith, fit.pairs field, ap length (pairs field));
  sums = λ field. omega (arith, fit.sums field, ap (λ vs. sum_by nat_abs (longs_in vs)) (pairs field));
}
  where
    pairs : (field : ℕ) → pair_values field X ≡ pair_values field Y
    pairs field = pairs_of field X ∙ ap (flat_map (λ d. values_of d field)) same ∙ sym (pairs_of field Y)

-- however many lists the blocks are cut into
pub segments_fit : (W : World) → IsWithinLimits (joined W ∷ []) → StatisticsFit (places W)
segments_fit W limits = fits_same (places (joined W ∷ [])) (places W) (documents_at-places (joined W) ∙ sym (documents_from 0 W)) (places_fit (joined W ∷ []) limits)

pub live_fit : (V : Pieces) (sets : Sets) → AreWhole V → AreLive V sets → IsWithinLimits (joined (live_world V) ∷ []) → StatisticsFit (places_at (whole_world V) sets)
live_fit V sets whole are limits =
    fits_same (places_at (live_world V) (kept V sets)) (places_at (whole_world V) sets) (sym (same_documents V sets whole are))
    (picked_fit (joined (kept V sets)) (places (live_world V)) (segments_fit (live_world V) limits))
