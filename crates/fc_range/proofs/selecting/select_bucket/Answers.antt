use Rattle.std.proofs.Common.{◌≡◌, ◌∙◌, ◌&&◌, ℤ, map, int_le, sym, ap, ap₂, w64, to_z, of_z, rules}
use Rattle.fc_spec.specs.documents.Columns.{column_of}
use Rattle.fc_spec.specs.documents.Totals.{documents_in}
use Rattle.fc_spec.specs.documents.Val.{long}
use Rattle.fc_spec.specs.requests.Buckets.{holds_integer}
use Rattle.fc_facet.specs.KindView.{range_view}
use Rattle.fc_partial.specs.View.{key_view}
use Rattle.fc_segment.specs.Columns.{column_values}
use Rattle.fc_domain.specs.Within.{PassesFromTo}
use Rattle.fc_range.proofs.BucketRows.{bucket_rows}
use Rattle.fc_range.proofs.selecting.select_bucket.Goals as goal

pub returns-clause-set : goal.returns-clause-set
returns-clause-set c =
    let g = range_view c.args.range.now in
    let key = key_view c.args.key.now in
    let test = holds_integer g key in
    let least = c.integers_of-least.result.0 in
    let greatest = c.integers_of-least.result.1 in
    let low : to_z w64 (of_z w64 least) ≡ least = search rules in
    let high : to_z w64 (of_z w64 greatest) ≡ greatest = search rules in
    let passes : PassesFromTo (to_z w64 (of_z w64 least)) (to_z w64 (of_z w64 greatest)) test =
    λ z is. c.integers_of-least.ensures z is ∙ sym (ap₂ (λ (x y : ℤ). int_le x z && int_le z y) low high) in
    let column : map (map long) c.in-Long.column ≡ column_of g.field (documents_in c.args.segment.now.blocks) = ap column_values (sym c.in-Long.is) ∙ c.column.ensures.values in
    c.select_from_to.ensures.set test passes ∙ bucket_rows g key c.args.segment.now.blocks c.args.docs.now c.in-Long.column column
