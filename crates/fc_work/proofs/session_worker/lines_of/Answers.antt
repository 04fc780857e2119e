use Rattle.std.proofs.Common.{◌≡◌, ◌+◌, ◌++◌, ◌∷◌, [], drop, sym, ◌∙◌, ap, subst, arith}
use Rattle.std.proofs.lemmas.List.{map-append}
use Rattle.fc_work.specs.SearchLineView.{line_view, line_views}
use Rattle.fc_work.specs.Working.{CanAsk, asked_of}
use Rattle.fc_work.proofs.SessionSteps.{Lines, asked_done, asked_next, can_ask, ready_again, same_again, session_done, session_more}
use Rattle.fc_work.proofs.session_worker.lines_of.Goals as goal

pub line_of-requires-clause-ready : goal.line_of-requires-clause-ready
line_of-requires-clause-ready g c κs within = ready_again c.args.readers.now c.loop-at.readers c.loop-at.invariant.same c.requires.ready

pub line_of-requires-clause-asks : goal.line_of-requires-clause-asks
line_of-requires-clause-asks g c κs within =
    subst (CanAsk c.loop-at.readers) (sym c.index-asked-at.is)
    (can_ask c.args.readers.now c.loop-at.readers c.args.asked.now c.loop-at.at c.index-asked-at.result c.loop-at.invariant.same (omega (arith, c.loop-at-test.true)) c.requires.ask)

pub loop-at-preserved : goal.loop-at-preserved
loop-at-preserved g c =
    let s = c.args.session_name.now in
    let init = c.args.readers.now in
    let own = c.args.session in
    let order = c.args.order.now in
    let asked = c.args.asked.now in
    let i = c.loop-at.at in
    let a = c.index-asked-at.result in
    let next = asked_of own (drop (i + 1) order) (drop (i + 1) asked) in
    let first : asked_of own (drop i order) (drop i asked) ≡ a ∷ next =
    asked_next own order asked i a c.requires.count (omega (arith, c.loop-at-test.true)) (omega (arith, c.if-order-at.false)) ∙ ap (λ x. x ∷ next) (sym c.index-asked-at.is) in
    let pushed : line_views c.push_back.new.self.items ≡ line_views c.loop-at.lines.items ++ line_view c.in_ok-line.line ∷ [] =
    ap line_views c.in_ok-push_back.ensures.items ∙ map-append line_view c.loop-at.lines.items (c.in_ok-line.line ∷ []) in
    record {
      lines = λ rest more. subst (λ ts. Lines s init init (asked_of own order asked) (ts ++ rest)) (sym pushed)
          (session_more s init c.loop-at.readers c.line_of.new.readers (asked_of own order asked) (asked_of own (drop i order) (drop i asked)) next a (line_views c.loop-at.lines.items) (line_view c.in_ok-line.line)
          first c.loop-at.invariant.same.charters c.in_ok-line.ensures.line c.loop-at.invariant.lines rest more);
      same = same_again init c.loop-at.readers c.line_of.new.readers c.loop-at.invariant.same c.in_ok-line.ensures.same;
    }

pub returns : goal.returns
returns g c =
    session_done c.args.session_name.now c.args.readers.now c.loop-at.readers (asked_of c.args.session c.args.order.now c.args.asked.now)
    (asked_of c.args.session (drop c.loop-at.at c.args.order.now) (drop c.loop-at.at c.args.asked.now)) (line_views c.loop-at.lines.items)
    (asked_done c.args.session c.args.order.now c.args.asked.now c.loop-at.at (omega (arith, c.loop-at-test.false)) c.requires.count) c.loop-at.invariant.lines
