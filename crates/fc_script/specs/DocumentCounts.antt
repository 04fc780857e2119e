-- What is counted over the documents of blocks.
use Rattle.std.specs.Prelude.{◌≡◌, ◌≤◌, ℕ, List, length, slice_index, All}
use Rattle.fc_spec.specs.documents.Document.{Block}
use Rattle.fc_spec.specs.documents.Totals.{documents_in}
use Rattle.fc_spec.specs.scripts.ScriptTotals.{Limits, absolute_total, total_limit}
use Rattle.fc_script.specs.Left.{limits_with}
use Rattle.fc_script.specs.LimitsView.{limits_view}
use Rattle.fc_script.specs.declared.counts.documents.DocumentCounts.{DocumentCounts}

-- each of so many fields has its sum, and what is left of the limits is what the blocks leave
pub record AreDocumentCounts (limits : Limits) (fields : ℕ) (blocks : List Block) (c : DocumentCounts) : Type 0 where
  pub count : length c.sums.items ≡ fields
  pub sums : (field : ℕ) → slice_index c.sums.items field ≡ absolute_total (documents_in blocks) field
  pub within : All (λ sum. sum ≤ total_limit) c.sums.items
  pub left : limits ≡ limits_with (limits_view c.left) blocks
