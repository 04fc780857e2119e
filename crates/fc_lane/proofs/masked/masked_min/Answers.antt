use Rattle.std.proofs.Common.{◌∙◌, sym, ap, drop, [], ◌∷◌, ◌+◌, arith}
use Rattle.fc_spec.specs.requests.Statistics.{least_of, lesser}
use Rattle.fc_spec.proofs.requests.LeastAndGreatest.{lesser_assoc, least_of-append}
use Rattle.fc_lane.specs.Masked.{masked}
use Rattle.fc_lane.proofs.MaskedParts.{masked-turn, masked-end}
use Rattle.fc_lane.proofs.PickedExtremes.{lesser_none}
use Rattle.fc_lane.proofs.masked.masked_min.Goals as goal

pub loop-word-preserved : goal.loop-word-preserved
loop-word-preserved c =
    let i = c.loop-word.word-index in
    let mask = c.args.mask.now in
    let rest = c.loop-word.rest.now in
    let part = c.next_part.result.0.now in
    let behind = c.next_part.result.1.now in
    let word = c.bits_below.result in
    let turn = masked-turn mask i word rest part behind (omega arith) c.next_part.ensures.part c.next_part.ensures.behind c.bits_below.ensures in
    let later = masked (drop (i + 1) mask) behind in
    ap (λ o. lesser o (least_of later)) c.least_with_word-least.ensures
    ∙ lesser_assoc c.loop-word.least (least_of (masked (word ∷ []) part)) (least_of later)
    ∙ ap (lesser c.loop-word.least) (sym (ap least_of turn ∙ least_of-append (masked (word ∷ []) part) later))
    ∙ c.loop-word.invariant

pub returns : goal.returns
returns c =
    sym (lesser_none c.loop-word.least) ∙ sym (ap (λ l. lesser c.loop-word.least (least_of l)) (masked-end c.args.mask.now c.loop-word.word-index c.loop-word.rest.now (omega arith)))
    ∙ c.loop-word.invariant
