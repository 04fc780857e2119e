use Rattle.std.proofs.Common.{◌≡◌, true, false, arith, rules}
use Rattle.fc_work.proofs.Asking.{asking_with, asking_without}
use Rattle.fc_work.proofs.searches.asking.Goals as goal

pub loop-session-preserved-then-not-contains : goal.loop-session-preserved-then-not-contains
loop-session-preserved-then-not-contains c =
    let other : c.contains.result ≡ false = first_of (search rules, grind arith) in
    asking_without c.args.order.now c.loop-session.numbers.items c.loop-session.session-counter c.contains.result c.contains.ensures.value other c.loop-session.invariant

pub loop-session-preserved : goal.loop-session-preserved
loop-session-preserved c =
    let is : c.contains.result ≡ true = first_of (search rules, grind arith) in
    asking_with c.args.order.now c.loop-session.numbers.items c.push.new.self.items c.loop-session.session-counter c.contains.result c.contains.ensures.value is c.loop-session.invariant c.in_ok-push.ensures.items
