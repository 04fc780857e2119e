use Rattle.std.proofs.Common.{◌≡◌, ◌<◌, length, false, is_some, sym, ◌∙◌, arith}
use Rattle.fc_exact.specs.CoreView.{state_view}
use Rattle.fc_exact.specs.State.{ask_at}
use Rattle.fc_exact.specs.View.{ask_view}
use Rattle.fc_tops.specs.Asked.{questions_from}
use Rattle.fc_tops.proofs.Asked.{question_more, question_none, questions_whole}
use Rattle.fc_tops.proofs.questions.questions_of.Goals as goal

pub loop-shard-preserved-then-not-awaits : goal.loop-shard-preserved-then-not-awaits
loop-shard-preserved-then-not-awaits c =
    let s = state_view c.args.core.now in
    let there : c.loop-shard.shard < length s.asks = omega (arith, c.loop-shard-test.true, c.requires) in
    let none : is_some (ask_at s.asks c.loop-shard.shard) ≡ false = sym c.awaits.ensures ∙ c.if-not-awaits.true in
    question_none s.asks c.loop-shard.shard c.loop-shard.questions.items (questions_from 0 s.asks) there none c.loop-shard.invariant

pub loop-shard-preserved : goal.loop-shard-preserved
loop-shard-preserved c =
    let s = state_view c.args.core.now in
    let ask = ask_view c.ask.result.now in
    rw c.in_ok-push.ensures.items
    (question_more s.asks c.loop-shard.shard ask c.loop-shard.questions.items (record { shard = c.loop-shard.shard; ask = c.of_exact-ask.result }) (questions_from 0 s.asks) (sym c.ask.ensures) (λ j. record { shard = c.loop-shard.shard; ask = c.of_exact-ask.ensures j }) c.loop-shard.invariant)

pub returns : goal.returns
returns c =
    let s = state_view c.args.core.now in
    questions_whole s.asks c.loop-shard.shard c.loop-shard.questions.items (questions_from 0 s.asks) (omega (arith, c.loop-shard-test.false, c.requires)) c.loop-shard.invariant
