use Rattle.fc_levels.proofs.Closing.{comes_closed, given_opened, kept_opened, next_opened}
use Rattle.fc_levels.proofs.level.given.Goals as goal

pub returns-in-Opened-clause-given : goal.returns-in-Opened-clause-given
returns-in-Opened-clause-given c =
    given_opened c.args.levels.now.items c.args.domain.items c.args.row c.loop-level.levels.items c.loop-level.domain.items c.loop-level.row c.loop-level.invariant c.pop.new.self.items c.in-Some.level c.in-Some.ensures.items
    c.push.new.self.items c.in-Opened.level c.in-Opened.node c.in_ok-push-in-Opened.ensures.items (rw c.in-Opened.is at c.in_ok-level.ensures.resumes)

pub returns-in-Opened-clause-kept : goal.returns-in-Opened-clause-kept
returns-in-Opened-clause-kept c =
    kept_opened c.args.levels.now.items c.args.domain.items c.args.row c.loop-level.levels.items c.loop-level.domain.items c.loop-level.row c.loop-level.invariant c.pop.new.self.items c.in-Some.level c.in-Some.ensures.items
    c.push.new.self.items c.in-Opened.level c.in-Opened.node c.in_ok-push-in-Opened.ensures.items (rw c.in-Opened.is at c.in_ok-level.ensures.valid)

pub returns-in-Opened-clause-next : goal.returns-in-Opened-clause-next
returns-in-Opened-clause-next c = λ s V a d.
    next_opened c.args.levels.now.items c.args.domain.items c.args.row c.loop-level.levels.items c.loop-level.domain.items c.loop-level.row c.loop-level.invariant c.pop.new.self.items c.in-Some.level c.in-Some.ensures.items
    c.push.new.self.items c.in-Opened.level c.in-Opened.node c.in_ok-push-in-Opened.ensures.items (rw c.in-Opened.is at c.in_ok-level.ensures.valid) s V a

pub loop-level-preserved : goal.loop-level-preserved
loop-level-preserved c =
    comes_closed c.args.levels.now.items c.args.domain.items c.args.row c.loop-level.levels.items c.loop-level.domain.items c.loop-level.row c.loop-level.invariant c.pop.new.self.items c.in-Some.level c.in-Some.ensures.items
    c.in-Closed.whole c.in-Closed.around (rw c.in-Closed.is at c.in_ok-level.ensures.resumes) (rw c.in-Closed.is at c.in_ok-level.ensures.valid)
