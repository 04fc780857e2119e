use Rattle.std.proofs.Common.{◌≡◌, ◌+◌, ◌++◌, ◌∷◌, [], drop, set, get_or, ap, sym, ◌∙◌, arith}
use Rattle.std.proofs.lemmas.List.{map-append}
use Rattle.fc_spec.specs.scripts.SearchLines.{sent_for, text_of}
use Rattle.fc_work.specs.Phased.{sent_in}
use Rattle.fc_work.specs.SearchLineView.{line_view, sent_list}
use Rattle.fc_work.specs.Woven.{lines_in, woven_by}
use Rattle.fc_work.proofs.WovenSteps.{sent_done, sent_next, text_done, text_next, woven_next}
use Rattle.fc_work.proofs.weaving.weave.Goals as goal

pub loop-session-preserved : goal.loop-session-preserved
loop-session-preserved c =
    let order = c.args.order.now in
    let i = c.loop-session.session-index in
    let lines = c.loop-session.lines in
    let own = c.take_line-line.new.own in
    let line = line_view c.take_line-line.result in
    let text : c.extend_from_slice.new.self.items ≡ c.loop-session.text.items ++ line.text = c.in_ok-extend_from_slice.ensures.items ∙ ap (λ l. c.loop-session.text.items ++ l) c.deref.ensures.value in
    let sent : sent_in c.push.new.self.items ≡ sent_in c.loop-session.sent.items ++ line.sent ∷ [] =
    ap sent_in c.in_ok-push.ensures.items ∙ map-append sent_list c.loop-session.sent.items (c.take_line-line.result.sent ∷ []) in
    let left = woven_by (lines_in (set lines (get_or order i 0) own)) (drop (i + 1) order) in
    let all = woven_by (lines_in lines) (drop i order) in
    let next : line ∷ left ≡ all =
    woven_next lines order i c.index-lines-session.result own line (omega (arith, c.loop-session-test.true))
    (let within = c.requires i 0 (omega (arith, c.loop-session-test.true)) in omega (arith, within, c.loop-session.auto.lines)) c.take_line-line.ensures.line c.take_line-line.ensures.rest in
    record {
      text = ap (λ t. t ++ text_of left) text ∙ text_next c.loop-session.text.items line left all next ∙ c.loop-session.invariant.text;
      sent = ap (λ s. s ++ sent_for left) sent ∙ sent_next (sent_in c.loop-session.sent.items) line left all next ∙ c.loop-session.invariant.sent;
    }

pub returns-clause-text : goal.returns-clause-text
returns-clause-text c =
    sym (text_done c.loop-session.text.items c.loop-session.lines c.args.order.now c.loop-session.session-index (omega (arith, c.loop-session-test.false))) ∙ c.loop-session.invariant.text
    ∙ ap (λ t. t ++ text_of (woven_by (lines_in c.args.lines.now) c.args.order.now)) c.reserve.ensures.items

pub returns-clause-sent : goal.returns-clause-sent
returns-clause-sent c =
    sym (sent_done (sent_in c.loop-session.sent.items) c.loop-session.lines c.args.order.now c.loop-session.session-index (omega (arith, c.loop-session-test.false))) ∙ c.loop-session.invariant.sent
