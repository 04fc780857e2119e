use Rattle.std.proofs.Common.{◌≡◌, ℤ, length, map, w64, to_z, of_z, sym, ap₂, ◌∙◌, rules}
use Rattle.std.proofs.lemmas.List.{length-map}
use Rattle.fc_column.specs.Longs.{has_between}
use Rattle.fc_lane.proofs.BitLists.{first_bits_is}
use Rattle.fc_domain.proofs.LongRows.{rows_from_to}
use Rattle.fc_domain.proofs.longs.select_from_to.Goals as goal

pub returns : goal.returns
returns c = λ test passes.
    let column = c.args.column.now in
    let least = to_z w64 (of_z w64 c.args.low) in
    let greatest = to_z w64 (of_z w64 c.args.high) in
    let low : least ≡ c.args.low = search rules in
    let high : greatest ≡ c.args.high = search rules in
    let bits = map (has_between least greatest) column in
    let size : length bits ≡ length c.args.into.now = length-map column _ ∙ sym c.requires.length in
    c.set_mask.ensures ∙ first_bits_is (length c.args.into.now) c.between.new.into bits size (λ k within. c.between.ensures.bits k)
    ∙ ap₂ (λ (x y : ℤ). map (has_between x y) column) low high
    ∙ rows_from_to c.args.low c.args.high test passes column c.between.ensures.long
