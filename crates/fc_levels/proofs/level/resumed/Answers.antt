use Rattle.std.proofs.Common.{rules, ◌≡◌, length}
use Rattle.fc_levels.proofs.Putting.{none_left}
use Rattle.fc_levels.proofs.Resuming.{resumes_bucket, resumes_next, resumes_whole, valid_bucket, valid_next}
use Rattle.fc_levels.proofs.level.resumed.Goals as goal

pub returns-in-Some-clause-resumes : goal.returns-in-Some-clause-resumes
returns-in-Some-clause-resumes c = resumes_next c.args.level c.args.row c.push.new.self c.in_ok-push.ensures.items c.in-Some.left c.in-Some.node c.in-Some.ensures.next

pub returns-in-Some-clause-valid : goal.returns-in-Some-clause-valid
returns-in-Some-clause-valid c = valid_next c.args.level c.args.row c.push.new.self c.in_ok-push.ensures.items c.in-Some.left c.in-Some.node c.in-Some.ensures.next c.in-Some.ensures.facet

pub returns-in_default-pop-clause-resumes : goal.returns-in_default-pop-clause-resumes
returns-in_default-pop-clause-resumes c =
    let none : length c.args.level.wait.items ≡ 0 = search (rules, c.in_default-pop.ensures.cases.0) in
    resumes_whole c.args.level c.args.row c.push.new.self c.in_ok-push.ensures.items c.in_default.ensures.next c.push-2.new.self c.in_ok-push-2.ensures.items (none_left c.args.level.wait.items none)

pub returns-clause-resumes : goal.returns-clause-resumes
returns-clause-resumes c =
    resumes_bucket c.args.level c.args.row c.push.new.self c.in_ok-push.ensures.items c.in_default.ensures.next c.push-2.new.self c.in_ok-push-2.ensures.items c.in-Some-pop.open c.pop.new.self c.in-Some-pop.ensures.items c.new.result c.new.ensures.items

pub returns-clause-valid : goal.returns-clause-valid
returns-clause-valid c =
    valid_bucket c.args.level c.args.row c.push.new.self c.in_ok-push.ensures.items c.in_default.ensures.next c.push-2.new.self c.in_ok-push-2.ensures.items c.in-Some-pop.open c.pop.new.self c.in-Some-pop.ensures.items c.new.result c.new.ensures.items
