use Rattle.std.proofs.Common.{◌≡◌, ◌∙◌, sym, ap, length, [], ◌∷◌, arith, to_z-of_z, w64}
use Rattle.std.proofs.lemmas.Int.{ints}
use Rattle.fc_spec.specs.requests.Statistics.{total_of}
use Rattle.fc_lane.specs.Masked.{masked}
use Rattle.fc_lane.proofs.MaskedWords.{masked-zero, masked-full, full_length}
use Rattle.fc_lane.proofs.PickedTotals.{total_size}
use Rattle.fc_lane.proofs.masked.sum.sum_of_word.Goals as goal

pub returns-in-0 : goal.returns-in-0
returns-in-0 c =
    let part = c.args.part.now in
    sym (ap total_of (ap (λ w. masked (w ∷ []) part) c.in-0.is ∙ masked-zero part c.requires.few))

pub returns-in-18446744073709551615 : goal.returns-in-18446744073709551615
returns-in-18446744073709551615 c =
    let part = c.args.part.now in
    let full : length part ≡ 64 = full_length (length part) c.requires.few (omega arith) in
    let all : masked (c.args.word ∷ []) part ≡ part = ap (λ w. masked (w ∷ []) part) c.in-18446744073709551615.is ∙ masked-full part full in
    let small = total_size part in
    to_z-of_z {w = w64} {z = c.sum_of_all.result} (omega (arith, ints)) ∙ c.sum_of_all.ensures ∙ sym (ap total_of all)
