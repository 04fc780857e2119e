use Rattle.std.proofs.Common.{◌≡◌, ◌∙◌, ◌<◌, ◌^◌, w64, length, map, sym, ap, rules, arith, pos}
use Rattle.std.proofs.lemmas.Int.{to_z-of_z, to_z_pos, ints}
use Rattle.std.proofs.lemmas.List.{length-map}
use Rattle.fc_spec.specs.documents.Val.{long}
use Rattle.fc_spec.specs.requests.Statistics.{number, extreme, total_of, least_of, greatest_of}
use Rattle.fc_lane.specs.Masked.{masked}
use Rattle.fc_lane.proofs.MaskedCounts.{count_at_most, length-masked}
use Rattle.fc_partial.proofs.ValueLists.{longs_in-longs}
use Rattle.fc_partial.proofs.longs.of_masked.Goals as goal

pub returns-in-Sum : goal.returns-in-Sum
returns-in-Sum c =
    rw c.in-Sum.is (ap number (to_z-of_z w64 c.masked_sum.result (search rules) ∙ c.masked_sum.ensures ∙ sym (ap total_of (longs_in-longs (masked c.args.mask.now c.args.values.now)))))

pub returns-in-Min : goal.returns-in-Min
returns-in-Min c = rw c.in-Min.is (ap extreme (c.masked_min.ensures ∙ sym (ap least_of (longs_in-longs (masked c.args.mask.now c.args.values.now)))))

pub returns-in-Max : goal.returns-in-Max
returns-in-Max c = rw c.in-Max.is (ap extreme (c.masked_max.ensures ∙ sym (ap greatest_of (longs_in-longs (masked c.args.mask.now c.args.values.now)))))

pub overflow_cast-result : goal.overflow_cast-result
overflow_cast-result c =
    let few : length c.args.values.now < 2 ^ 63 = search rules in
    omega (arith, ints, count_at_most (length c.args.values.now) c.args.mask.now)

pub returns-in-CountVals : goal.returns-in-CountVals
returns-in-CountVals c =
    let values = c.args.values.now in
    let mask = c.args.mask.now in
    let few : length values < 2 ^ 63 = search rules in
    let count : c.masked_count.result ≡ length (map long (masked mask values)) = c.masked_count.ensures ∙ sym (length-masked mask values) ∙ sym (length-map (masked mask values) long) in
    rw c.in-CountVals.is (ap number (to_z_pos w64 c.masked_count.result (omega (arith, count_at_most (length values) mask)) ∙ ap pos count))
