-- The places at positions, one after another.
use Rattle.std.proofs.Common.{◌≡◌, ◌<◌, ◌+◌, ℕ, List, [], ◌∷◌, ◌++◌, map, length, get_or, take, drop, sym, ap, subst, ◌∙◌, FitsSigned, w64, ◌+ℤ◌}
use Rattle.std.proofs.lemmas.List.{map-append, take-append-drop, take_more}
use Rattle.fc_spec.specs.documents.Document.{Block}
use Rattle.fc_spec.specs.requests.Request.{Stat}
use Rattle.fc_spec.specs.requests.Statistics.{amount, combined_value, value_over}
use Rattle.fc_spec.proofs.requests.Statistics.{statistic_in-append}
use Rattle.fc_partial.specs.Fitting.{StatisticsFit}
use Rattle.fc_partial.proofs.Fitting.{front_fits}
use Rattle.fc_partial.proofs.FittingSums.{add_up}
use Rattle.fc_kind.specs.PlaceAt.{place_at}

module _ (blocks : List Block) (ps : List ℕ) (n : ℕ) (here : n < length ps) where
  -- those read so far, with the next one
  places_more : map (place_at blocks) (take (n + 1) ps) ≡ map (place_at blocks) (take n ps) ++ place_at blocks (get_or ps n 0) ∷ []
  places_more = ap (map (place_at blocks)) (take_more ps n 0 here) ∙ map-append (place_at blocks) (take n ps) (get_or ps n 0 ∷ [])

  so_far_fit : StatisticsFit (map (place_at blocks) ps) → StatisticsFit (map (place_at blocks) (take n ps) ++ place_at blocks (get_or ps n 0) ∷ [])
  so_far_fit fit = subst StatisticsFit places_more (front_fits (map (place_at blocks) (take (n + 1) ps)) (map (place_at blocks) (drop (n + 1) ps)) (subst StatisticsFit (sym apart) fit))
    where
      apart : map (place_at blocks) (take (n + 1) ps) ++ map (place_at blocks) (drop (n + 1) ps) ≡ map (place_at blocks) ps
      apart = sym (map-append (place_at blocks) (take (n + 1) ps) (drop (n + 1) ps)) ∙ ap (map (place_at blocks)) (take-append-drop (n + 1) ps)

  -- a statistic of those read so far adds up with that of the next one
  pub value_fits : StatisticsFit (map (place_at blocks) ps) → (s : Stat)
      → FitsSigned w64 (amount (value_over s (map (place_at blocks) (take n ps))) +ℤ amount (value_over s (place_at blocks (get_or ps n 0) ∷ [])))
  value_fits fit s = (add_up (map (place_at blocks) (take n ps)) (place_at blocks (get_or ps n 0) ∷ []) (so_far_fit fit) (s ∷ [])).numbers.0

  -- and is combined with it
  pub value_more : (s : Stat) → value_over s (map (place_at blocks) (take (n + 1) ps))
      ≡ combined_value s.of (value_over s (map (place_at blocks) (take n ps))) (value_over s (place_at blocks (get_or ps n 0) ∷ []))
  value_more s = ap (value_over s) places_more ∙ statistic_in-append s.of s.field (map (place_at blocks) (take n ps)) (place_at blocks (get_or ps n 0) ∷ [])
