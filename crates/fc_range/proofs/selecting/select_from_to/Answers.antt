use Rattle.std.proofs.Common.{◌∙◌, ◌&&◌, ℤ, [], map, slice_index_or, count_by, sym, ap, ap₂, w64}
use Rattle.std.proofs.lemmas.Int.{to_z-of_z}
use Rattle.fc_spec.specs.documents.Sets.{zip_with}
use Rattle.fc_lane.specs.Between.{is_between}
use Rattle.fc_column.specs.Longs.{has_between}
use Rattle.fc_column.proofs.InOrder.{among_if_any}
use Rattle.fc_domain.proofs.LongRows.{rows_from_to}
use Rattle.fc_range.proofs.Selected.{all_picked}
use Rattle.fc_range.proofs.selecting.select_from_to.Goals as goal

pub returns-then-have_fewer-clause-set : goal.returns-then-have_fewer-clause-set
returns-then-have_fewer-clause-set c = λ test passes.
    let docs = c.args.docs.now in
    let rows = c.args.column.now in
    let least = to_z-of_z w64 c.args.least c.ranges.least in
    let greatest = to_z-of_z w64 c.args.greatest c.ranges.greatest in
    c.keep_from_to.ensures.set
    ∙ ap₂ (λ (x y : ℤ). zip_with ◌&&◌ docs (map (has_between x y) rows)) least greatest
    ∙ ap (zip_with ◌&&◌ docs) (rows_from_to c.args.least c.args.greatest test passes rows c.positions_between-found.ensures.long)

pub returns-else-have_fewer-clause-set : goal.returns-else-have_fewer-clause-set
returns-else-have_fewer-clause-set c = λ test passes.
    let docs = c.args.docs.now in
    let rows = c.args.column.now in
    let positions = c.positions_between-found.result.now in
    let least = to_z-of_z w64 c.args.least c.ranges.least in
    let greatest = to_z-of_z w64 c.args.greatest c.ranges.greatest in
    let size = c.pick.ensures.kept ∙ c.requires.same_length ∙ sym c.requires.length in
    all_picked (has_between c.args.least c.args.greatest) docs positions c.pick.new.into rows c.requires.length
    (λ at. among_if_any (is_between c.args.least c.args.greatest) at positions (slice_index_or rows at [])
    (c.positions_between-found.ensures.positions at ∙ (λ i. count_by (is_between (least i) (greatest i)) (slice_index_or rows at []))))
    (record { size = size; each = c.pick.ensures.set })
    ∙ ap (zip_with ◌&&◌ docs) (rows_from_to c.args.least c.args.greatest test passes rows c.positions_between-found.ensures.long)
