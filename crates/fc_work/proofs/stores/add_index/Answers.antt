use Rattle.fc_work.proofs.Added.{index_places, index_sessions}
use Rattle.fc_work.proofs.stores.add_index.Goals as goal

pub returns-clause-sessions : goal.returns-clause-sessions
returns-clause-sessions g c = index_sessions c.args.workers.now.items c.add_worker-2.new.workers.items c.args.worker c.in_ok-add_worker-2.ensures

pub returns-clause-indexes : goal.returns-clause-indexes
returns-clause-indexes g c =
    index_places c.args.workers.now.items c.add_worker-2.new.workers.items c.args.worker c.commits_left.result c.in_ok-add_worker-2.ensures c.commits_left.ensures.left c.if-commits_left-eq0.false
