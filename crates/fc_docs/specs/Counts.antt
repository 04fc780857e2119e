-- The fields that have values, each with how many, as they are kept.
use Rattle.std.specs.Prelude.{ℕ, List}
use Rattle.fc_base.specs.declared.field.FieldId.{FieldId}
use Rattle.fc_docs.specs.declared.document.counts.Kept.{Kept}
use Rattle.fc_docs.specs.declared.document.counts.Kept.TheVariants as kept
use Rattle.fc_docs.specs.declared.document.counts.Left.{Left}
use Rattle.fc_docs.specs.declared.document.counts.Left.TheVariants as left

abbrev pub kept_in : Kept → List (FieldId × ℕ)
kept_in (kept.Few few) = few
kept_in (kept.Many many) = many.items

-- those that are left
abbrev pub left_in : Left → List (FieldId × ℕ)
left_in (left.Few few) = few.now
left_in (left.Many many) = many.now
