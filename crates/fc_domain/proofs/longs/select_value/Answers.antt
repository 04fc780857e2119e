use Rattle.std.proofs.Common.{◌≡◌, ℤ, ◌&&◌, int_le, length, map, w64, to_z, of_z, sym, ap, ◌∙◌, rules}
use Rattle.std.proofs.lemmas.List.{length-map}
use Rattle.fc_column.specs.Longs.{has_between}
use Rattle.fc_lane.proofs.BitLists.{first_bits_is}
use Rattle.fc_spec.specs.documents.Val.{long, has_val, same_val}
use Rattle.fc_domain.proofs.LongRows.{longs_pass, at_long}
use Rattle.fc_domain.proofs.longs.select_value.Goals as goal

pub returns : goal.returns
returns c =
    let column = c.args.column.now in
    let v = c.integer_of-number.result in
    let passed = to_z w64 (of_z w64 v) in
    let whole : passed ≡ v = search rules in
    let bits = map (has_between passed passed) column in
    let size : length bits ≡ length c.args.into.now = length-map column _ ∙ sym c.requires.length in
    c.set_mask.ensures ∙ first_bits_is (length c.args.into.now) c.between.new.into bits size (λ k within. c.between.ensures.bits k)
    ∙ ap (λ (z : ℤ). map (has_between z z) column) whole
    ∙ longs_pass (λ z. int_le v z && int_le z v) (same_val (long v)) column (at_long v)
    ∙ ap (λ v. map (has_val v) (map (map long) column)) (sym c.integer_of-number.ensures)
