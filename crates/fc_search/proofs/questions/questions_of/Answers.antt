use Rattle.std.proofs.Common.{◌≡◌, ◌<◌, length, false, is_some, sym, ◌∙◌, arith, ap}
use Rattle.std.specs.Prelude.{option_map}
use Rattle.fc_refine.specs.AskView.{ask_view}
use Rattle.fc_coord.specs.CoordView.{state_view}
use Rattle.fc_exact.specs.State.{ask_at}
use Rattle.fc_round.specs.Questions.{exact_of}
use Rattle.fc_tops.specs.Asked.{questions_from}
use Rattle.fc_tops.proofs.Asked.{question_more, question_none, questions_whole}
use Rattle.fc_search.specs.Asked.{exact_asks}
use Rattle.fc_search.proofs.Asked.{exact_at, exact_there, length-exact}
use Rattle.fc_search.proofs.questions.questions_of.Goals as goal

pub loop-shard-preserved-then-not-awaits : goal.loop-shard-preserved-then-not-awaits
loop-shard-preserved-then-not-awaits c =
    let s = state_view c.args.coord.now in
    let asks = exact_asks s.asks in
    let there : c.loop-shard.shard < length asks = (let long = length-exact s.asks in omega (arith, c.loop-shard-test.true, c.requires, long)) in
    let none : is_some (ask_at asks c.loop-shard.shard) ≡ false = exact_there s.asks c.loop-shard.shard ∙ sym c.awaits.ensures ∙ c.if-not-awaits.true in
    question_none asks c.loop-shard.shard c.loop-shard.questions.items (questions_from 0 asks) there none c.loop-shard.invariant

pub loop-shard-preserved : goal.loop-shard-preserved
loop-shard-preserved c =
    let s = state_view c.args.coord.now in
    let asks = exact_asks s.asks in
    let ask = ask_view c.ask.result.now in
    rw c.in_ok-push.ensures.items
    (question_more asks c.loop-shard.shard (exact_of ask) c.loop-shard.questions.items (record { shard = c.loop-shard.shard; ask = c.of-ask.result }) (questions_from 0 asks) (exact_at s.asks c.loop-shard.shard ∙ ap (option_map exact_of) (sym c.ask.ensures))
    (λ j. record { shard = c.loop-shard.shard; ask = c.of-ask.ensures j }) c.loop-shard.invariant)

pub returns : goal.returns
returns c =
    let s = state_view c.args.coord.now in
    let asks = exact_asks s.asks in
    questions_whole asks c.loop-shard.shard c.loop-shard.questions.items (questions_from 0 asks) (let long = length-exact s.asks in omega (arith, c.loop-shard-test.false, c.requires, long)) c.loop-shard.invariant
