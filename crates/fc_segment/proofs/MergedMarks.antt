-- Which live positions are parents, position by position.
use Rattle.std.proofs.Common.{◌≡◌, ℕ, ◌+◌, ◌≤◌, List, ◌∷◌, ◌++◌, length, replicate, Bool, true, sym, ap, subst, ◌∙◌, arith, length-append}
use Rattle.std.specs.Prelude.{count_by}
use Rattle.std.specs.List.{items_where_true, range_with_len}
use Rattle.std.proofs.lemmas.List.{length-replicate}
use Rattle.std.proofs.lemmas.List.FromFn.{length-range_with_len}
use Rattle.fc_docset.specs.Positions.{positions}
use Rattle.fc_lists.proofs.KeptCounts.{length-items_where_true}
use Rattle.fc_spec.specs.documents.Document.{Block}
use Rattle.fc_spec.specs.documents.Live.{HasWholeBlocks}
use Rattle.fc_spec.specs.documents.Totals.{documents_in}
use Rattle.fc_spec.proofs.documents.LiveBlocks.{full_is_whole, length-live, whole_has}
use Rattle.fc_segment.specs.Parents.{parents_in}
use Rattle.fc_segment.proofs.Cutting.{length-parents_in}

pub length-positions : (set : List Bool) → length (positions set) ≡ count_by (λ here. here) set
length-positions set = length-items_where_true set (range_with_len 0 (length set)) (sym (length-range_with_len 0 (length set)))

-- a position that is read of a set, and those behind it, are among those that are left
pub one_of_live : (set : List Bool) (done rest : List ℕ) (at : ℕ) → done ++ at ∷ rest ≡ positions set → length done + 1 ≤ count_by (λ here. here) set
one_of_live set done rest at is = omega (arith, sym (length-positions set), ap length is, length-append done (at ∷ rest))

pub length-live_positions : (blocks : List Block) (live : List Bool) → HasWholeBlocks blocks live → length live ≡ length (parents_in blocks)
length-live_positions blocks live whole = length-live blocks live whole ∙ sym (length-parents_in blocks)

-- as many marks as live positions
pub length-live_marks : (blocks : List Block) (live : List Bool) → HasWholeBlocks blocks live → length (items_where_true live (parents_in blocks)) ≡ count_by (λ here. here) live
length-live_marks blocks live whole = length-items_where_true live (parents_in blocks) (length-live_positions blocks live whole)

-- the set of all documents has each block whole
pub full_has : (blocks : List Block) → HasWholeBlocks blocks (replicate (length (documents_in blocks)) true)
full_has blocks = subst (HasWholeBlocks blocks) (full_is_whole blocks) (whole_has blocks (replicate (length blocks) true) (length-replicate (length blocks) true))
