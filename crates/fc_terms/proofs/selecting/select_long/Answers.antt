use Rattle.std.proofs.Common.{◌≡◌, ◌∙◌, ℤ, [], false, map, get_or, w64, to_z, of_z, sym, ap, rules}
use Rattle.std.proofs.lemmas.List.{length-map}
use Rattle.fc_lane.specs.Between.{is_between}
use Rattle.fc_column.specs.Longs.{has_between}
use Rattle.fc_column.proofs.InOrder.{among_if_any, any_at}
use Rattle.fc_domain.proofs.LongRows.{longs_pass, at_long}
use Rattle.fc_spec.specs.documents.Val.{long, has_val, same_val}
use Rattle.fc_terms.proofs.PickedPositions.{picked_where}
use Rattle.fc_terms.proofs.selecting.select_long.Goals as goal

pub returns : goal.returns
returns c =
    let column = c.args.column.now in
    let docs = c.args.docs.now in
    let v = c.args.number in
    let passed = to_z w64 (of_z w64 v) in
    let whole : passed ≡ v = search rules in
    let values = map (map long) column in
    let size = length-map column (map long) in
    picked_where (has_val (long v)) values docs c.pick.new.into c.positions_between.result.now (c.requires.docs ∙ sym size) c.pick.ensures.length c.pick.ensures.set
    (λ at. among_if_any (is_between passed passed) at c.positions_between.result.now (get_or column at []) (c.positions_between.ensures.positions at)
    ∙ any_at (is_between passed passed) column at
    ∙ ap (λ (z : ℤ). get_or (map (has_between z z) column) at false) whole
    ∙ ap (λ l. get_or l at false) (longs_pass (is_between v v) (same_val (long v)) column (at_long v)))
