-- How many places a set has.
use Rattle.std.proofs.Common.{◌≡◌, suc, List, [], ◌∷◌, length, Bool, true, false, refl, sym, ap, ◌∙◌, arith}
use Rattle.std.specs.List.{count_by, filter, items_where_true}
use Rattle.std.proofs.lemmas.List.Sums.{length-filter}
use Rattle.fc_spec.specs.documents.Document.{Block}
use Rattle.fc_spec.specs.documents.Sets.{places_on}
use Rattle.fc_spec.specs.documents.Totals.{document_total}
use Rattle.fc_spec.specs.documents.World.{shard_places}
use Rattle.fc_spec.specs.requests.Request.{Stat}
use Rattle.fc_spec.specs.requests.Statistics.{stats_over}
use Rattle.fc_kind.proofs.PlaceColumns.{length-shard_places}

chosen : {X : Type 0} (set : List Bool) (xs : List X) → length set ≡ length xs → length (items_where_true set xs) ≡ length (filter (λ here. here) set)
chosen [] [] e = refl
chosen [] (x ∷ xs) e = absurd (omega arith)
chosen (b ∷ set) [] e = absurd (omega arith)
chosen (true ∷ set) (x ∷ xs) e = ap suc (chosen set xs (omega arith))
chosen (false ∷ set) (x ∷ xs) e = chosen set xs (omega arith)

pub places_counted : (blocks : List Block) (set : List Bool) → length set ≡ document_total blocks → count_by (λ here. here) set ≡ length (places_on 0 blocks set)
places_counted blocks set long = sym (chosen set (shard_places 0 0 0 blocks) (long ∙ sym (length-shard_places blocks)) ∙ length-filter (λ here. here) set)

-- without statistics they are all that there is
pub stats_none : (blocks : List Block) (set : List Bool) (ss : List Stat) → length set ≡ document_total blocks → ss ≡ []
    → record { count = count_by (λ here. here) set; values = [] } ≡ stats_over ss (places_on 0 blocks set)
stats_none blocks set ss long none =
    ap (λ n. record { count = n; values = [] }) (places_counted blocks set long) ∙ ap (λ l. stats_over l (places_on 0 blocks set)) (sym none)
