use Rattle.fc_jobs.proofs.BasesFound.{found_count, found_is}
use Rattle.fc_jobs.proofs.bases.Bases.find.Goals as goal

pub returns-then-is_of-clause-docs : goal.returns-then-is_of-clause-docs
returns-then-is_of-clause-docs c =
    let own = c.is_of.ensures c.if-is_of.true in
    λ r V are. found_is r V c.args.self.now _ _ _ c.args.at c.args.tags.now _ c.deref-base-items.ensures.value c.loop-number-test.true c.base-item.is own.0 own.1 own.2 are

pub returns-then-is_of-clause-count : goal.returns-then-is_of-clause-count
returns-then-is_of-clause-count c =
    let own = c.is_of.ensures c.if-is_of.true in
    λ r V are. found_count r V c.args.self.now _ _ _ c.args.at c.args.tags.now _ c.deref-base-items.ensures.value c.loop-number-test.true c.base-item.is own.0 own.1 own.2 are
