use Rattle.std.proofs.Common.{◌≡◌, ◌∙◌, ◌-◌, Some, pos, sym, ap, ap₂, length, get_or, [], ◌∷◌, arith, bit_and, rules, w64, to_z-of_z}
use Rattle.std.specs.Prelude.{FitsSigned}
use Rattle.std.specs.Option.{unwrap_or}
use Rattle.std.specs.Int.Count.{count_trailing_zeros}
use Rattle.fc_spec.specs.requests.Statistics.{greatest_of, greater}
use Rattle.fc_lane.specs.Masked.{masked}
use Rattle.fc_lane.proofs.MaskedWords.{masked-next, masked-zero, masked-full, full_length, lowest_within}
use Rattle.fc_lane.proofs.PickedExtremes.{greater_first, greater_none}
use Rattle.fc_lane.proofs.masked.greatest.greatest_with_word.Goals as goal

pub returns-then-word-eq0 : goal.returns-then-word-eq0
returns-then-word-eq0 c =
    let part = c.args.part.now in
    let none : masked (c.args.word ∷ []) part ≡ [] = ap (λ w. masked (w ∷ []) part) c.if-word-eq0.true ∙ masked-zero part c.requires.few in
    sym (ap (λ l. greater c.args.greatest (greatest_of l)) none ∙ greater_none c.args.greatest)

pub bounds-part-word : goal.bounds-part-word
bounds-part-word c = lowest_within 64 (length c.args.part.now) c.args.word c.requires.few (omega arith) c.requires.within

pub returns-then-word-eq18446744073709551615 : goal.returns-then-word-eq18446744073709551615
returns-then-word-eq18446744073709551615 c =
    let part = c.args.part.now in
    let word = c.args.word in
    let x = get_or part (count_trailing_zeros 64 word) (pos 0) in
    let full : length part ≡ 64 = full_length (length part) c.requires.few (omega arith) in
    let all : masked (word ∷ []) part ≡ part = ap (λ w. masked (w ∷ []) part) c.if-word-eq18446744073709551615.true ∙ masked-full part full in
    let e = masked-next word part (pos 0) c.requires.few (omega arith) c.requires.within in
    let fits : FitsSigned w64 x = search rules in
    let start = to_z-of_z {w = w64} {z = c.unwrap_or-start.result} (search rules) ∙ c.unwrap_or-start.ensures ∙ ap (unwrap_or c.args.greatest) (to_z-of_z fits) in
    ap Some (to_z-of_z {w = w64} {z = c.greatest_with_all.result} (search rules)) ∙ c.greatest_with_all.ensures
    ∙ ap₂ (λ z l. greater (Some z) (greatest_of l)) start (sym all ∙ e)
    ∙ greater_first c.args.greatest x (masked (bit_and word (word - 1) ∷ []) part) ∙ ap (λ l. greater c.args.greatest (greatest_of l)) (sym e)

pub returns-else-word-eq18446744073709551615 : goal.returns-else-word-eq18446744073709551615
returns-else-word-eq18446744073709551615 c =
    let part = c.args.part.now in
    let word = c.args.word in
    let x = get_or part (count_trailing_zeros 64 word) (pos 0) in
    let e = masked-next word part (pos 0) c.requires.few (omega arith) c.requires.within in
    let fits : FitsSigned w64 x = search rules in
    let start = to_z-of_z {w = w64} {z = c.unwrap_or-start.result} (search rules) ∙ c.unwrap_or-start.ensures ∙ ap (unwrap_or c.args.greatest) (to_z-of_z fits) in
    ap Some (to_z-of_z {w = w64} {z = c.greatest_with_bits.result} (search rules)) ∙ c.greatest_with_bits.ensures
    ∙ ap₂ (λ z l. greater (Some z) (greatest_of l)) start e
    ∙ greater_first c.args.greatest x (masked (bit_and word (word - 1) ∷ []) part) ∙ ap (λ l. greater c.args.greatest (greatest_of l)) (sym e)
