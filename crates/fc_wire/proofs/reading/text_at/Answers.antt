use Rattle.std.proofs.Common.{sym, ◌∙◌, subst, Ok}
use Rattle.std.specs.Str.{IsUtf8}
use Rattle.fc_wire.proofs.TextReading.{text_is, no_text}
use Rattle.fc_wire.proofs.reading.text_at.Goals as goal

pub returns-in_ok-new-in-Ok : goal.returns-in_ok-new-in-Ok
returns-in_ok-new-in-Ok c =
    let n = c.in_ok-length.length in
    let rest = c.in_ok-length.rest.now in
    let front = c.split_at.ensures.front in
    let name = c.in_ok-new-in-Ok.ensures ∙ c.in-Ok.ensures.cases.0 ∙ front in
    text_is c.args.bytes.now rest n c.in_ok-length.ensures c.if-rest-length.false (subst IsUtf8 front c.in-Ok.ensures.cases.1)
    ∙ (λ j. Ok (sym name j, sym c.split_at.ensures.back j))

pub returns-in-Err : goal.returns-in-Err
returns-in-Err c =
    let n = c.in_ok-length.length in
    let rest = c.in_ok-length.rest.now in
    no_text c.args.bytes.now rest n c.in_ok-length.ensures c.if-rest-length.false (λ utf8. c.in-Err.ensures.cases.0 (subst IsUtf8 (sym c.split_at.ensures.front) utf8))
